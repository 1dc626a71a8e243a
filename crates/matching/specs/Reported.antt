-- What is reported in a table.
use Rattle.std.specs.Prelude.{◌≡◌, ℕ, ◌+◌, ◌≤◌, List, length}
use Rattle.market.specs.declared.report.Report.{Report}
use Rattle.matching.specs.declared.reports.Reports.{Reports}
use Rattle.matching.specs.Tables.{written}

-- the table has so many free rows
abbrev pub HasRoom : ℕ → Reports → Type 0
HasRoom n r = r.next + n ≤ length r.table.now

-- the reports were written in the free rows of the same table
pub record Reported (reports : List Report) (before after : Reports) : Type 0 where
  pub table_is : after.table.now ≡ written before.table.now before.next reports
  pub next_is : after.next ≡ before.next + length reports
  pub same_size : length after.table.now ≡ length before.table.now
  pub same_table : after.table.ghost_name ≡ before.table.ghost_name
