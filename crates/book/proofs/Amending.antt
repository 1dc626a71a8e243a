-- Reports that leave the line as it is.
use Rattle.std.proofs.Common.{◌≡◌, List, [], ◌∷◌, sym, refl, ap, subst}
use Rattle.market.specs.declared.report.Report.{Report}
use Rattle.rules.specs.Lines as lines
use Rattle.rules.specs.Lines.{replay, all_reports}
use Rattle.matching.specs.declared.line.Line.{Line}
use Rattle.matching.specs.declared.reports.Reports.{Reports}
use Rattle.matching.specs.Held.{held}
use Rattle.matching.specs.Reported.{Reported}
use Rattle.matching.specs.Changes.{Makes}
use Rattle.matching.proofs.Making.{makes}
use Rattle.book.specs.Calls.{all_reported}

line_stays : (rs : List Report) (line : lines.Line) → replay (all_reported rs) line ≡ line
line_stays [] line = refl
line_stays (r ∷ rs) line = line_stays rs line

all_told : (rs : List Report) → all_reports (all_reported rs) ≡ rs
all_told [] = refl
all_told (r ∷ rs) = ap (λ rs. r ∷ rs) (all_told rs)

pub told : (rs : List Report) {line : Line} {table table' : Reports} → Reported rs table table' → Makes (all_reported rs) line table line table'
told rs {line} {table} {table'} r = makes (all_reported rs) (record { holds = sym (line_stays rs (held line)); same_size = refl; same_table = refl }) (subst (λ rs. Reported rs table table') (sym (all_told rs)) r)
