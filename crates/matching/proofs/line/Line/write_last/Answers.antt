use Rattle.std.proofs.Common.{[], ◌∷◌, take, refl, ap, ◌∙◌, arith}
use Rattle.rules.specs.Lines.{all_formed, replace_at}
use Rattle.rules.proofs.Formed.{append_formed, replace_formed, one_formed}
use Rattle.matching.proofs.Edits.{part_is, part_size}
use Rattle.matching.proofs.line.Line.write_last.Goals as goal

pub invariant_of-self : goal.invariant_of-self
invariant_of-self c =
    let line = c.args.self.now in
    let part = c.write_last.new.rows in
    record {
      within = omega (arith, part_size line.rows.now part line.len (omega (arith, line.within)) c.write_last.auto.rows, line.within);
      formed = ap all_formed (part_is line.rows.now part line.len (omega (arith, line.within)) c.write_last.auto.rows ∙ c.write_last.ensures.line) ∙ append_formed (replace_at c.args.i [] (take line.len line.rows.now)) (c.args.order ∷ []) (replace_formed c.args.i [] (take line.len line.rows.now) line.formed refl) (one_formed c.args.order c.write_last.ensures.order);
    }
