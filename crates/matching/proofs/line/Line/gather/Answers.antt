use Rattle.std.proofs.Common.{refl, sym, rules}
use Rattle.matching.proofs.Gathering.{gathers, skips}
use Rattle.matching.proofs.line.Line.gather.Goals as goal
use Rattle.matching.proofs.line.Line.gather.Goals.{then-is_in_pass, else-is_in_pass}

pub loop-row-preserved : goal.loop-row-preserved
loop-row-preserved c =
    let line = c.orders-row-items.result.now in
    let i = c.loop-row.row-index in
    elim c.if-is_in_pass.branch [
      | then-is_in_pass w ↦ let e = gathers c.args.quote c.args.pass line i _ _ refl c.loop-row-test.true (sym w.if-is_in_pass.ensures) in search rules
      | else-is_in_pass w ↦ let e = skips c.args.quote c.args.pass line i _ _ refl c.loop-row-test.true (sym w.if-is_in_pass.ensures) in search rules
    ]
