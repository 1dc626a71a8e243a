-- A report table that is written to, and events that were made on a line and reported.
use Rattle.std.specs.Prelude.{◌≡◌, ℕ, ◌+◌, List, ◌++◌, length, take, drop}
use Rattle.market.specs.declared.report.Report.{Report}
use Rattle.rules.specs.Lines.{Line, Event, replay, all_reports}

-- the table with the rows given written from the place `next` on; its other rows stay
abbrev pub written : {X : Type 0} → List X → ℕ → List X → List X
written table next rows = take next table ++ rows ++ drop (next + length rows) table

-- the events were made on the line, and reported from the place `next` on; `next'` is the place after
pub record Made (events : List Event) (line : Line) (table : List Report) (next : ℕ) (line' : Line) (table' : List Report) (next' : ℕ) : Type 0 where
  pub line_is : line' ≡ replay events line
  pub table_is : table' ≡ written table next (all_reports events)
  pub next_is : next' ≡ next + length (all_reports events)
