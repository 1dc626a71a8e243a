use Rattle.std.proofs.Common.{[], take, refl, ap, ◌∙◌, arith}
use Rattle.rules.specs.Lines.{all_formed}
use Rattle.rules.proofs.Formed.{replace_formed}
use Rattle.matching.proofs.Edits.{part_size, removed}
use Rattle.matching.proofs.line.Line.remove.Goals as goal

pub invariant_of-self : goal.invariant_of-self
invariant_of-self c =
    let line = c.args.self.now in
    record {
      within = omega (arith, part_size line.rows.now c.remove.new.rows line.len (omega (arith, line.within)) c.remove.auto.rows, line.within);
      formed = ap all_formed (removed line.rows.now _ line.len c.args.i (omega (arith, line.within)) c.remove.auto.rows c.remove.ensures) ∙ replace_formed c.args.i [] (take line.len line.rows.now) line.formed refl;
    }

pub returns-clause-line : goal.returns-clause-line
returns-clause-line c =
    let line = c.args.self.now in
    record {
      holds = removed line.rows.now _ line.len c.args.i (omega (arith, line.within)) c.remove.auto.rows c.remove.ensures;
      same_size = part_size line.rows.now c.remove.new.rows line.len (omega (arith, line.within)) c.remove.auto.rows;
      same_table = refl;
    }
