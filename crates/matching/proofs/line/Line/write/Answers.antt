use Rattle.std.proofs.Common.{[], ◌∷◌, take, ap, ◌∙◌, arith}
use Rattle.rules.specs.Lines.{all_formed}
use Rattle.rules.proofs.Formed.{replace_formed, one_formed}
use Rattle.matching.proofs.Edits.{part_is, part_size}
use Rattle.matching.proofs.line.Line.write.Goals as goal

pub invariant_of-self : goal.invariant_of-self
invariant_of-self c =
    let line = c.args.self.now in
    let part = c.write.new.rows in
    record {
      within = omega (arith, part_size line.rows.now part line.len (omega (arith, line.within)) c.write.auto.rows, line.within);
      formed = ap all_formed (part_is line.rows.now part line.len (omega (arith, line.within)) c.write.auto.rows ∙ c.write.ensures.rows) ∙ replace_formed c.args.i (c.args.order ∷ []) (take line.len line.rows.now) line.formed (one_formed c.args.order c.write.ensures.order);
    }
