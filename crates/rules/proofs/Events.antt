-- One list of events after another.
use Rattle.std.proofs.Common.{◌≡◌, List, [], ◌∷◌, ◌++◌, refl, ap}
use Rattle.rules.specs.Lines.{Line, Event, fills, joins, leaves, becomes, reports, after, replay, report, all_reports}

pub replay-++ : (es fs : List Event) (line : Line) → replay (es ++ fs) line ≡ replay fs (replay es line)
replay-++ [] fs line = refl
replay-++ (e ∷ es) fs line = replay-++ es fs (after e line)

pub reports-++ : (es fs : List Event) → all_reports (es ++ fs) ≡ all_reports es ++ all_reports fs
reports-++ [] fs = refl
reports-++ (fills f ∷ es) fs = ap (λ x. report (fills f) ++ x) (reports-++ es fs)
reports-++ (joins r ∷ es) fs = reports-++ es fs
reports-++ (leaves i ∷ es) fs = reports-++ es fs
reports-++ (becomes i r ∷ es) fs = reports-++ es fs
reports-++ (reports t ∷ es) fs = ap (λ x. t ∷ x) (reports-++ es fs)
