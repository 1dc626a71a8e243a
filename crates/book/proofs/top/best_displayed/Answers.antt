use Rattle.std.proofs.Common.{arith}
use Rattle.book.specs.Held.{shares_at}
use Rattle.book.proofs.Totals.{sum_fits, sum_more}
use Rattle.book.proofs.top.best_displayed.Goals as goal
use Rattle.book.proofs.top.best_displayed.Goals.{in-Some, in_default}

pub with_displayed-best-requires : goal.with_displayed-best-requires
with_displayed-best-requires c = sum_fits c.args.line.now c.loop-row.row-index (shares_at c.loop-row.best) _ c.requires.0 c.loop-row-test.true c.loop-row.invariant c.requires.1

pub loop-row-preserved : goal.loop-row-preserved
loop-row-preserved c =
    elim c.match-displayed_on.branch [
      | in-Some w ↦ simp w.best-is (sum_more c.args.line.now c.loop-row.row-index (shares_at c.loop-row.best) _ c.requires.0 c.loop-row-test.true c.loop-row.invariant _ w.with_displayed-best.ensures)
      | in_default w ↦ simp w.best-is (omega (arith, c.loop-row.invariant))
    ]
