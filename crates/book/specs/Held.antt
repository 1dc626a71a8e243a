-- What a book holds, and what its calls answer.
use Rattle.std.specs.Prelude.{◌≡◌, ℕ, ◌+◌, ◌*◌, ◌≤◌, cond, List, Some, None, Ok, Err, Option, Result, nat_le}
use Rattle.market.specs.declared.quote.Quote.{Quote}
use Rattle.market.specs.declared.row.OrderRow.{OrderRow}
use Rattle.market.specs.declared.report.Report.{Report}
use Rattle.market.specs.declared.refusal.Refusal.{Refusal}
use Rattle.market.specs.declared.refusal.Refusal.TheVariants.{ReportTableSize}
use Rattle.rules.specs.Lines.{Event}
use Rattle.matching.specs.Held as line
use Rattle.matching.specs.Tables.{Made}
use Rattle.sources.specs.Sources.{advanced}
use Rattle.book.specs.Capacity.{capacity}
use Rattle.book.specs.declared.book.Book.{Book}

-- the orders in line
abbrev pub held : Book → List OrderRow
held b = line.held b.line

-- the size of the order table
abbrev pub size : Book → ℕ
size b = line.size b.line

-- a count of reports lies within the report table
abbrev pub Counted : Result ℕ Refusal → ℕ → Type 0
Counted (Ok count) table = count ≤ table
Counted (Err refusal) table = Unit {0}

-- an accepted call made the events on the line, and reported them from the first row of the table on
abbrev pub MakesIfOk : List Event → Book → List Report → Book → List Report → Result ℕ Refusal → Type 0
MakesIfOk events before table after table' (Ok count) = Made events (held before) table 0 (held after) table' count
MakesIfOk events before table after table' (Err refusal) = Unit {0}

-- a refused call leaves the line and the report table as they were
abbrev pub StaysIfRefused : Book → List Report → Book → List Report → Result ℕ Refusal → Type 0
StaysIfRefused before table after table' (Ok count) = Unit {0}
StaysIfRefused before table after table' (Err refusal) = (held after ≡ held before) × (table' ≡ table)

-- an accepted advance moves the source; a refused one leaves it
abbrev pub quotes_after : Result ℕ Refusal → List Quote → List Quote
quotes_after (Ok count) qs = (advanced qs).1
quotes_after (Err refusal) qs = qs

-- an accepted entry raises the highest number to its own
abbrev pub highest_after : Result ℕ Refusal → ℕ → ℕ → ℕ
highest_after (Ok count) number highest = number
highest_after (Err refusal) number highest = highest

-- a report table needs two rows for each order row in use, and one more
abbrev pub report_check : ℕ → ℕ → Result (Unit {0}) Refusal
report_check rows reports = cond (nat_le (2 * capacity rows + 1) reports) (Ok tt) (Err ReportTableSize)

-- the shares at a best price, if there is one
abbrev pub shares_at : Option (ℕ × ℕ) → ℕ
shares_at None = 0
shares_at (Some p) = p.1
