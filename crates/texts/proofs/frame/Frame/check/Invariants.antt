use Rattle.std.proofs.Common.{◌≡◌}
use Rattle.texts.specs.Texts.{text, rows_at, all_good, checked}
use Rattle.texts.specs.Places.{place}
use Rattle.texts.proofs.frame.Frame.check.Given as goal

abbrev pub invariant-loop-line : goal.invariant-loop-line
invariant-loop-line g l =
    checked (all_good (rows_at g.L.Line.meaning (place l.line-iterator))) ≡ checked (text l.self.header.now g.L.Line.meaning l.self.least l.self.most l.bytes)
