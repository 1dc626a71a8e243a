use Rattle.std.proofs.Common.{take, ap, ◌∙◌, arith}
use Rattle.matching.proofs.Edits.{rotated, to_end_leaves}
use Rattle.matching.proofs.table.move_to_end.Goals as goal

pub returns : goal.returns
returns c =
    let moved = rotated c.args.rows.now c.rotate_left.new.self c.args.i c.requires c.rotate_left.ensures.after in
    record { moved = moved; before = ap (take _) moved ∙ to_end_leaves c.args.i _ c.args.rows.now (omega (arith, c.requires)) (omega arith) }
