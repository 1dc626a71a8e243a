-- What the calls of a book make of its line.
use Rattle.std.specs.Prelude.{ℕ, ◌-◌, cond, List, [], ◌∷◌, ◌++◌, Some, None, Option, ◌==◌, nat_lt}
use Rattle.market.specs.declared.quote.Quote.{Quote}
use Rattle.market.specs.declared.row.Entry.{Entry}
use Rattle.market.specs.declared.row.OrderRow.{OrderRow}
use Rattle.market.specs.declared.report.Report.{Report}
use Rattle.market.specs.declared.report.Report.TheVariants.{Cancelled, Added}
use Rattle.market.specs.Rows.{with_shares}
use Rattle.rules.specs.declared.trading.Placed.{Placed}
use Rattle.rules.specs.Arrival.{arrival}
use Rattle.rules.specs.Lines.{Line, Event, joins, leaves, becomes, reports, replace_at, find}
use Rattle.sources.specs.Tapes.{the_quote}

-- the quote in force is the first of its source; a source always has one
abbrev pub in_force : List Quote → Quote
in_force [] = the_quote
in_force (q ∷ qs) = q

-- CANCEL: the order leaves the line, and C reports its open shares

abbrev pub cancelled : Option Placed → List Event
cancelled None = []
cancelled (Some p) = leaves p.place ∷ reports (Cancelled p.row.number p.row.shares) ∷ []

abbrev pub cancellation : ℕ → Line → List Event
cancellation number line = cancelled (find number line)

-- AMEND: first C where the open shares become fewer, A where they become more, by the difference

abbrev pub change_reports : OrderRow → ℕ → List Report
change_reports r shares =
    cond (nat_lt shares r.shares)
    (Cancelled r.number (r.shares - shares) ∷ [])
    (cond (nat_lt r.shares shares) (Added r.number (shares - r.shares) ∷ []) [])

abbrev pub all_reported : List Report → List Event
all_reported [] = []
all_reported (t ∷ ts) = reports t ∷ all_reported ts

-- the order in hand that the row is at the limit price, with the open shares
abbrev pub entry_at : ℕ → ℕ → OrderRow → Entry
entry_at price shares r = record { number = r.number; firm = r.firm; side = r.side; kind = r.kind; limit = price; shares = shares }

-- at the same limit price the order keeps its place, unless its shares become more
abbrev pub resized : ℕ → Placed → List Event
resized shares p =
    cond (nat_lt p.row.shares shares)
    (leaves p.place ∷ joins (with_shares shares p.row) ∷ [])
    (becomes p.place (with_shares shares p.row) ∷ [])

-- at another limit price it leaves the line, and arrives again
abbrev pub rearrival : Quote → ℕ → ℕ → Placed → Line → List Event
rearrival q price shares p line = leaves p.place ∷ arrival q (entry_at price shares p.row) (replace_at p.place [] line)

abbrev pub amended : Quote → ℕ → ℕ → Option Placed → Line → List Event
amended q price shares None line = []
amended q price shares (Some p) line =
    all_reported (change_reports p.row shares) ++ cond (price == p.row.limit) (resized shares p) (rearrival q price shares p line)

abbrev pub amendment : Quote → ℕ → ℕ → ℕ → Line → List Event
amendment q number price shares line = amended q price shares (find number line) line
