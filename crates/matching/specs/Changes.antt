-- What a call changes: events are made on a line and reported.
use Rattle.std.specs.Prelude.{◌≡◌, List, length}
use Rattle.rules.specs.Lines.{Event}
use Rattle.matching.specs.declared.line.Line.{Line}
use Rattle.matching.specs.declared.reports.Reports.{Reports}
use Rattle.matching.specs.Held.{held, size}
use Rattle.matching.specs.Tables.{Made}

-- the events were made on the line, and reported; both lie in the tables that they lay in
pub record Makes (events : List Event) (line : Line) (reports : Reports) (line' : Line) (reports' : Reports) : Type 0 where
  pub made : Made events (held line) reports.table.now reports.next (held line') reports'.table.now reports'.next
  pub line_size : size line' ≡ size line
  pub line_table : line'.rows.ghost_name ≡ line.rows.ghost_name
  pub report_size : length reports'.table.now ≡ length reports.table.now
  pub report_table : reports'.table.ghost_name ≡ reports.table.ghost_name
