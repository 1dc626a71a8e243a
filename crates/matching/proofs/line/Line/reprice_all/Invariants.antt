use Rattle.std.proofs.Common.{◌+◌, ◌≤◌, take}
use Rattle.rules.specs.Repricing.{each}
use Rattle.matching.specs.Held.{held}
use Rattle.matching.specs.Changes.{Makes}
use Rattle.matching.specs.Turns.{turn}
use Rattle.matching.proofs.line.Line.reprice_all.Given as goal

abbrev pub invariant-loop-number : goal.invariant-loop-number
invariant-loop-number l = record {
  made : Makes (each (turn l.quote l.pass) (take l.number-index l.numbers) (held l.initial.self)) l.initial.self l.initial.reports l.self l.reports;
  shorter : l.self.len ≤ l.initial.self.len;
  most : l.reports.next + l.self.len ≤ l.initial.reports.next + l.initial.self.len + l.number-index;
}
