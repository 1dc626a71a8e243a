-- The line of orders: the first-ranked row of a side, and the events that change the line and are reported.
use Rattle.std.specs.Prelude.{ℕ, zero, suc, ◌-◌, Bool, cond, not, ◌&&◌, List, [], ◌∷◌, ◌++◌, Some, None, Option, ◌==◌, nat_le}
use Rattle.std.specs.List.{list_all}
use Rattle.market.specs.declared.side.Side.{Side}
use Rattle.market.specs.declared.row.OrderRow.{OrderRow}
use Rattle.market.specs.declared.report.Report.{Report}
use Rattle.market.specs.declared.report.Report.TheVariants.{Filled}
use Rattle.market.specs.Rows.{formed, rests_on, outranks, with_shares}
use Rattle.rules.specs.declared.trading.Placed.{Placed}
use Rattle.rules.specs.declared.trading.Fill.{Fill}

-- The place of a row is its index, from 0; an earlier place has the earlier working time.
abbrev pub Line : Type 0
Line = List OrderRow

-- the line with the rows given, none or one, in the place of the row at i
abbrev pub replace_at : ℕ → Line → Line → Line
replace_at i new [] = []
replace_at zero new (x ∷ xs) = new ++ xs
replace_at (suc i) new (x ∷ xs) = x ∷ replace_at i new xs

-- the line with its row at i moved to the end
abbrev pub to_end : ℕ → Line → Line
to_end i [] = []
to_end zero (x ∷ xs) = xs ++ (x ∷ [])
to_end (suc i) (x ∷ xs) = x ∷ to_end i xs

abbrev pub all_formed : Line → Bool
all_formed line = list_all formed line

-- THE FIRST-RANKED ROW of a side

abbrev pub at_front : OrderRow → Placed
at_front x = record { place = 0; row = x }

abbrev pub one_back : Placed → Placed
one_back p = record { place = suc p.place; row = p.row }

-- a row that rests on the side gives way to the first-ranked of the rows behind it only if that outranks it
abbrev pub ahead_of : Side → OrderRow → Option Placed → Option Placed
ahead_of side x None = cond (rests_on side x) (Some (at_front x)) None
ahead_of side x (Some p) = cond (rests_on side x && not (outranks side p.row x)) (Some (at_front x)) (Some (one_back p))

abbrev pub first_ranked : Side → Line → Option Placed
first_ranked side [] = None
first_ranked side (x ∷ xs) = ahead_of side x (first_ranked side xs)

-- THE ROW OF A NUMBER, the earliest if there were two

abbrev pub one_back? : Option Placed → Option Placed
one_back? None = None
one_back? (Some p) = Some (one_back p)

abbrev pub find : ℕ → Line → Option Placed
find number [] = None
find number (x ∷ xs) = cond (x.number == number) (Some (at_front x)) (one_back? (find number xs))

-- EVENTS of the line

pub data Event : Type 0 where
  fills : Fill → Event  -- the order in hand trades with a row in line
  joins : OrderRow → Event  -- a row joins the end of the line
  leaves : ℕ → Event  -- the row at the place leaves the line
  becomes : ℕ → OrderRow → Event  -- the row at the place is written anew
  reports : Report → Event  -- something is reported, and the line stays

-- the row with n shares fewer
abbrev pub less_shares : ℕ → OrderRow → OrderRow
less_shares n r = with_shares (r.shares - n) r

-- what a fill of n shares leaves of a row: an empty row leaves the line
abbrev pub unfilled : OrderRow → ℕ → Line
unfilled r n = cond (nat_le r.shares n) [] (less_shares n r ∷ [])

abbrev pub after : Event → Line → Line
after (fills f) line = replace_at f.place (unfilled f.resting f.shares) line
after (joins r) line = line ++ (r ∷ [])
after (leaves i) line = replace_at i [] line
after (becomes i r) line = replace_at i (r ∷ []) line
after (reports t) line = line

-- the line after a list of events
abbrev pub replay : List Event → Line → Line
replay [] line = line
replay (e ∷ es) line = replay es (after e line)

-- a fill reports the trading order, the resting order, the resting order's working price, and the shares
abbrev pub fill_report : Fill → Report
fill_report f = Filled f.trading.number f.resting.number f.resting.working f.shares

abbrev pub report : Event → List Report
report (fills f) = fill_report f ∷ []
report (joins r) = []
report (leaves i) = []
report (becomes i r) = []
report (reports t) = t ∷ []

-- the reports of a list of events
abbrev pub all_reports : List Event → List Report
all_reports [] = []
all_reports (e ∷ es) = report e ++ all_reports es
