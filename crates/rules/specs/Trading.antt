-- The trade of an order in hand against the line.
use Rattle.std.specs.Prelude.{ℕ, zero, suc, ◌+◌, ◌-◌, min, cond, ◌&&◌, List, [], ◌∷◌, length, Some, None, Option, nat_lt}
use Rattle.market.specs.declared.row.Entry.{Entry}
use Rattle.market.specs.Sides.{opposite, inside}
use Rattle.market.specs.Rows.{entry_with}
use Rattle.rules.specs.declared.trading.Placed.{Placed}
use Rattle.rules.specs.declared.trading.Fill.{Fill}
use Rattle.rules.specs.Lines.{Line, Event, fills, after, first_ranked}

-- the order in hand with n shares fewer
abbrev pub fewer : ℕ → Entry → Entry
fewer n e = entry_with (e.shares - n) e

-- the order in hand trades with the row if it has shares left and the row works inside its bound,
-- at the row's working price, for the smaller share count
abbrev pub fill_with : Entry → ℕ → Option Placed → Option Fill
fill_with e bound None = None
fill_with e bound (Some p) =
    cond (nat_lt 0 e.shares && inside e.side p.row.working bound)
    (Some (record { trading = e; place = p.place; resting = p.row; shares = min e.shares p.row.shares }))
    None

-- the next fill is with the first-ranked row of the other side
abbrev pub next_fill : Entry → ℕ → Line → Option Fill
next_fill e bound line = fill_with e bound (first_ranked (opposite e.side) line)

-- at most `many` fills, each at the line that the fills before it left
abbrev pub trade : ℕ → Entry → ℕ → Line → List Fill
trade zero e bound line = []
trade (suc many) e bound line =
    elim (next_fill e bound line) [ None ↦ [] | Some f ↦ f ∷ trade many (fewer f.shares e) bound (after (fills f) line) ]

-- all fills of the order in hand: as many as the line has rows are never too few
abbrev pub fills_of : Entry → ℕ → Line → List Fill
fills_of e bound line = trade (length line) e bound line

abbrev pub total : List Fill → ℕ
total [] = 0
total (f ∷ fs) = f.shares + total fs

abbrev pub fill_events : List Fill → List Event
fill_events [] = []
fill_events (f ∷ fs) = fills f ∷ fill_events fs
