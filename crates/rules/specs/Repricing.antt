-- Repricing: the prices that resting hidden and non-routable orders take at a new quote, in two passes.
use Rattle.std.specs.Prelude.{ℕ, ◌-◌, Bool, true, false, cond, not, ◌&&◌, List, [], ◌∷◌, ◌++◌, Some, None, Option, ◌==◌}
use Rattle.market.specs.declared.row.Kind.{Kind}
use Rattle.market.specs.declared.row.Kind.TheVariants.{Limit, Ioc, Market, Hidden, NonRoutable}
use Rattle.market.specs.declared.row.OrderRow.{OrderRow}
use Rattle.market.specs.declared.quote.Quote.{Quote}
use Rattle.market.specs.declared.report.Report.{Report}
use Rattle.market.specs.declared.report.Report.TheVariants.{Repriced}
use Rattle.market.specs.Sides.{inside, better}
use Rattle.market.specs.Prices.{step_back}
use Rattle.market.specs.Quotes.{away}
use Rattle.market.specs.Rows.{is_resting, displays, row_of, entry_of}
use Rattle.rules.specs.declared.repricing.Pass.{Pass}
use Rattle.rules.specs.declared.repricing.Pass.TheVariants.{First, Second}
use Rattle.rules.specs.declared.trading.Placed.{Placed}
use Rattle.rules.specs.declared.trading.Fill.{Fill}
use Rattle.rules.specs.Lines.{Line, Event, joins, leaves, becomes, reports, replay, replace_at, less_shares, find}
use Rattle.rules.specs.Trading.{fills_of, total, fill_events}
use Rattle.rules.specs.Arrival.{held_to, reached}

-- THE NEW PRICES of a row

-- the row at other prices
abbrev pub at_prices : ℕ → Option ℕ → OrderRow → OrderRow
at_prices working display r = row_of (entry_of r) r.state working display

-- both prices at the limit
abbrev pub at_limit : OrderRow → OrderRow
at_limit r = at_prices r.limit (Some r.limit) r

-- working at the away price, and displayed one step back from it
abbrev pub at_away : ℕ → OrderRow → OrderRow
at_away a r = at_prices a (Some (step_back r.side a)) r

-- a row whose limit the away price reaches: where the away price reaches its display price too, it works at its display price
abbrev pub slid : Option ℕ → ℕ → OrderRow → OrderRow
slid None a r = at_away a r
slid (Some display) a r = cond (inside r.side a display) (at_prices display (Some display) r) (at_away a r)

-- a row off its limit, by the away price that its limit reaches
abbrev pub off_limit : Option ℕ → OrderRow → OrderRow
off_limit None r = at_limit r
off_limit (Some a) r = slid r.display a r

abbrev pub is_at_limit : OrderRow → Bool
is_at_limit r = r.working == r.limit && displays r.display r.limit

-- a hidden order works at its limit held to the away price; a non-routable order with both prices at its limit never changes
abbrev pub repriced_as : Quote → OrderRow → Kind → OrderRow
repriced_as q r Limit = r
repriced_as q r Ioc = r
repriced_as q r Market = r
repriced_as q r Hidden = at_prices (held_to r.side r.limit (away q r.side)) None r
repriced_as q r NonRoutable = cond (is_at_limit r) r (off_limit (reached r.side r.limit (away q r.side)) r)

abbrev pub repriced : Quote → OrderRow → OrderRow
repriced q r = repriced_as q r r.kind

-- resting hidden and non-routable rows follow the quotes
abbrev pub follows_quotes : Kind → Bool
follows_quotes Limit = false
follows_quotes Ioc = false
follows_quotes Market = false
follows_quotes Hidden = true
follows_quotes NonRoutable = true

abbrev pub follows : OrderRow → Bool
follows r = is_resting r.state && follows_quotes r.kind

-- the working price rises, told for a buy: it becomes better
abbrev pub rises : Quote → OrderRow → Bool
rises q r = better r.side (repriced q r).working r.working

-- THE PASSES. Both go through the orders in the line order that they had at the start.

-- the first pass has the orders that follow the quotes and whose working price falls or stays, the second those whose working price rises
abbrev pub takes_part : Quote → Pass → OrderRow → Bool
takes_part q First r = follows r && not (rises q r)
takes_part q Second r = follows r && rises q r

abbrev pub numbers : Quote → Pass → Line → List ℕ
numbers q pass [] = []
numbers q pass (r ∷ rs) = cond (takes_part q pass r) (r.number ∷ numbers q pass rs) (numbers q pass rs)

-- the row of the number, if it still stands in line and follows the quotes
abbrev pub if_follows : Option Placed → Option Placed
if_follows None = None
if_follows (Some p) = cond (follows p.row) (Some p) None

abbrev pub follower : ℕ → Line → Option Placed
follower number line = if_follows (find number line)

abbrev pub repriced_report : OrderRow → Report
repriced_report r = Repriced r.number r.display r.working r.shares

abbrev pub same_display : Option ℕ → Option ℕ → Bool
same_display None None = true
same_display None (Some b) = false
same_display (Some a) None = false
same_display (Some a) (Some b) = a == b

-- a row takes a new place only if its working price changed
abbrev pub takes_new_place : OrderRow → OrderRow → Bool
takes_new_place old new = not (new.working == old.working)

-- a changed row reports P
abbrev pub row_falls : OrderRow → Placed → List Event
row_falls new p =
    cond (takes_new_place p.row new)
    (leaves p.place ∷ joins new ∷ reports (repriced_report new) ∷ [])
    (cond (same_display new.display p.row.display) [] (becomes p.place new ∷ reports (repriced_report new) ∷ []))

-- what is left of a row after its fills rests at the end of the line, and is not reported
abbrev pub rests_last : OrderRow → List Fill → List Event
rests_last new fs = cond (new.shares - total fs == 0) [] (joins (less_shares (total fs) new) ∷ [])

-- a row that rises reports P, leaves its place, trades with its new working price as bound, and rests last
abbrev pub row_rises : OrderRow → Placed → Line → List Event
row_rises new p line =
    let fs = fills_of (entry_of new) new.working (replace_at p.place [] line) in
    reports (repriced_report new) ∷ leaves p.place ∷ (fill_events fs ++ rests_last new fs)

abbrev pub fall_of : Quote → Option Placed → List Event
fall_of q None = []
fall_of q (Some p) = row_falls (repriced q p.row) p

abbrev pub rise_of : Quote → Option Placed → Line → List Event
rise_of q None line = []
rise_of q (Some p) line = row_rises (repriced q p.row) p line

-- the events of the order with that number in the first pass, and in the second
abbrev pub fall : Quote → ℕ → Line → List Event
fall q number line = fall_of q (follower number line)

abbrev pub rise : Quote → ℕ → Line → List Event
rise q number line = rise_of q (follower number line) line

-- the events of one number after another
abbrev pub each : (ℕ → Line → List Event) → List ℕ → Line → List Event
each events [] line = []
each events (n ∷ ns) line = events n line ++ each events ns (replay (events n line) line)

-- the first pass, and then the second at the line that the first left
abbrev pub reprices : Quote → Line → List Event
reprices q line =
    let es = each (fall q) (numbers q First line) line in
    es ++ each (rise q) (numbers q Second line) (replay es line)
