use Rattle.std.proofs.Common.{◌≡◌, ◌≤◌, length, take}
use Rattle.rules.specs.Repricing.{numbers}
use Rattle.matching.proofs.line.Line.gather.Given as goal

abbrev pub invariant-loop-row : goal.invariant-loop-row
invariant-loop-row l = record { are : l.numbers.items ≡ numbers l.quote l.pass (take l.row-index l.row-items); few : length l.numbers.items ≤ l.row-index }
