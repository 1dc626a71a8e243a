use Rattle.std.proofs.Common.{[], ◌∷◌, take, refl, ap, ◌∙◌, arith}
use Rattle.rules.specs.Lines.{all_formed}
use Rattle.rules.proofs.Formed.{append_formed, one_formed}
use Rattle.matching.proofs.line.Line.append.Goals as goal

pub invariant_of-self : goal.invariant_of-self
invariant_of-self c =
    let line = c.args.self.now in
    let order = c.args.order in
    record {
      within = omega (arith, c.append.auto.rows, c.requires);
      formed = ap all_formed c.append.ensures.line ∙ append_formed (take line.len line.rows.now) (order ∷ []) line.formed (one_formed order c.append.ensures.order);
    }

pub returns-clause-line : goal.returns-clause-line
returns-clause-line c = record { holds = c.append.ensures.line; same_size = c.append.auto.rows; same_table = refl }
