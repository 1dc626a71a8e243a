use Rattle.std.proofs.Common.{◌+◌, ◌<◌, ◌≤◌, min}
use Rattle.matching.proofs.Going.{Going}
use Rattle.matching.proofs.line.Line.trade.Given as goal

abbrev pub invariant-loop-fill : goal.invariant-loop-fill
invariant-loop-fill l = record {
  going : Going l.initial.left l.bound l.initial.self l.initial.reports l.left l.self l.reports;
  shorter : l.self.len ≤ l.initial.self.len;
  most : l.reports.next + l.self.len ≤ l.initial.reports.next + l.initial.self.len + 1;
  room : 0 < l.left.shares → l.reports.next + l.self.len ≤ l.initial.reports.next + l.initial.self.len;
}

abbrev pub decreases-loop-fill : goal.decreases-loop-fill
decreases-loop-fill l = l.self.len + min l.left.shares 1
