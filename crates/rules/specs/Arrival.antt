-- The arrival of an order in hand: its bound, its trade, and what becomes of the remainder.
use Rattle.std.specs.Prelude.{ℕ, cond, List, [], ◌∷◌, ◌++◌, Some, None, Option, ◌==◌}
use Rattle.market.specs.declared.side.Side.{Side}
use Rattle.market.specs.declared.row.Kind.{Kind}
use Rattle.market.specs.declared.row.Kind.TheVariants.{Limit, Ioc, Market, Hidden, NonRoutable}
use Rattle.market.specs.declared.row.State.TheVariants as state
use Rattle.market.specs.declared.row.Entry.{Entry}
use Rattle.market.specs.declared.quote.Quote.{Quote}
use Rattle.market.specs.declared.report.Report.{Report}
use Rattle.market.specs.declared.report.Report.TheVariants.{Cancelled, Waiting, Resting}
use Rattle.market.specs.Sides.{inside, tighter}
use Rattle.market.specs.Prices.{step_back, collar}
use Rattle.market.specs.Quotes.{away}
use Rattle.market.specs.Rows.{row_of}
use Rattle.rules.specs.declared.arrival.Remainder.{Remainder}
use Rattle.rules.specs.declared.arrival.Remainder.TheVariants.{Cancels, Waits, Rests}
use Rattle.rules.specs.declared.trading.Fill.{Fill}
use Rattle.rules.specs.Lines.{Line, Event, joins, reports}
use Rattle.rules.specs.Trading.{fewer, fills_of, total, fill_events}

-- a market order is limited by its collar, any other order by its limit price
abbrev pub limit_or_collar : Quote → Entry → Kind → ℕ
limit_or_collar q e Limit = e.limit
limit_or_collar q e Ioc = e.limit
limit_or_collar q e Market = collar e.side q.reference
limit_or_collar q e Hidden = e.limit
limit_or_collar q e NonRoutable = e.limit

-- a price held to the away price, if there is one
abbrev pub held_to : Side → ℕ → Option ℕ → ℕ
held_to side price None = price
held_to side price (Some a) = tighter side price a

-- the bound of an arriving order: its limit or collar, held to the away price
abbrev pub bound : Quote → Entry → ℕ
bound q e = held_to e.side (limit_or_collar q e e.kind) (away q e.side)

-- the away price, if there is one and the price reaches it: for a buy, an offer at or below the price
abbrev pub reached : Side → ℕ → Option ℕ → Option ℕ
reached side price None = None
reached side price (Some a) = cond (inside side a price) (Some a) None

-- the away price that the order's limit or collar reaches
abbrev pub reached_by : Quote → Entry → Option ℕ
reached_by q e = reached e.side (limit_or_collar q e e.kind) (away q e.side)

-- what becomes of a remainder, by the order's kind and the away price that its limit or collar reaches
abbrev pub remainder_of : Quote → Entry → Kind → Option ℕ → Remainder
remainder_of q e Limit (Some a) = Waits a
remainder_of q e Limit None = Rests e.limit (Some e.limit)
remainder_of q e Ioc (Some a) = Cancels
remainder_of q e Ioc None = Cancels
remainder_of q e Market (Some a) = Waits a
remainder_of q e Market None = Cancels
remainder_of q e Hidden (Some a) = Rests (bound q e) None
remainder_of q e Hidden None = Rests (bound q e) None
remainder_of q e NonRoutable (Some a) = Rests a (Some (step_back e.side a))
remainder_of q e NonRoutable None = Rests e.limit (Some e.limit)

abbrev pub remainder : Quote → Entry → Remainder
remainder q e = remainder_of q e e.kind (reached_by q e)

-- C, W or R of the remainder's open shares
abbrev pub remainder_report : Entry → Remainder → Report
remainder_report e Cancels = Cancelled e.number e.shares
remainder_report e (Waits a) = Waiting e.number a e.shares
remainder_report e (Rests working display) = Resting e.number display working e.shares

-- the rows, none or one, that the remainder adds at the end of the line
abbrev pub remainder_rows : Entry → Remainder → Line
remainder_rows e Cancels = []
remainder_rows e (Waits a) = row_of e state.Waiting 0 None ∷ []
remainder_rows e (Rests working display) = row_of e state.Resting working display ∷ []

abbrev pub all_join : Line → List Event
all_join [] = []
all_join (r ∷ rs) = joins r ∷ all_join rs

abbrev pub remainder_events : Entry → Remainder → List Event
remainder_events e x = all_join (remainder_rows e x) ++ (reports (remainder_report e x) ∷ [])

-- nothing becomes of a remainder without shares
abbrev pub ending : Quote → Entry → List Event
ending q e = cond (e.shares == 0) [] (remainder_events e (remainder q e))

abbrev pub arrival_fills : Quote → Entry → Line → List Fill
arrival_fills q e line = fills_of e (bound q e) line

-- the order in hand trades within its bound, and then the remainder is cancelled, waits or rests
abbrev pub arrival : Quote → Entry → Line → List Event
arrival q e line = fill_events (arrival_fills q e line) ++ ending q (fewer (total (arrival_fills q e line)) e)
