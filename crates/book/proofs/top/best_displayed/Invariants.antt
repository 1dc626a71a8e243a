use Rattle.std.proofs.Common.{◌*◌, ◌≤◌}
use Rattle.book.specs.Held.{shares_at}
use Rattle.book.proofs.top.best_displayed.Given as goal

abbrev pub invariant-loop-row : goal.invariant-loop-row
invariant-loop-row l = shares_at l.best ≤ 1000000 * l.row-index
