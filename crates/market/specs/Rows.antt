-- Orders in a table and in hand: which rows may exist, and how resting rows rank.
use Rattle.std.specs.Prelude.{ℕ, Bool, true, false, cond, ◌&&◌, ◌||◌, Some, None, Option, ◌==◌, nat_le, nat_lt}
use Rattle.market.specs.declared.side.Side.{Side}
use Rattle.market.specs.declared.row.State.{State}
use Rattle.market.specs.declared.row.State.TheVariants.{Resting, Waiting, Away}
use Rattle.market.specs.declared.row.OrderRow.{OrderRow}
use Rattle.market.specs.declared.row.Category.{Category}
use Rattle.market.specs.declared.row.Category.TheVariants.{Display, NonDisplay}
use Rattle.market.specs.declared.row.Entry.{Entry}
use Rattle.market.specs.Sides.{same_side, inside, better}

-- ROWS AND ORDERS IN HAND

-- the row that an order in hand becomes in that state, at those prices
abbrev pub row_of : Entry → State → ℕ → Option ℕ → OrderRow
row_of e state working display = record { number = e.number; firm = e.firm; side = e.side; kind = e.kind; limit = e.limit; shares = e.shares; state = state; working = working; display = display }

-- the order in hand that a row is when it leaves the line
abbrev pub entry_of : OrderRow → Entry
entry_of r = record { number = r.number; firm = r.firm; side = r.side; kind = r.kind; limit = r.limit; shares = r.shares }

-- the row with other open shares
abbrev pub with_shares : ℕ → OrderRow → OrderRow
with_shares n r = record r { shares = n }

-- the order in hand with other open shares
abbrev pub entry_with : ℕ → Entry → Entry
entry_with n e = record e { shares = n }

-- WHICH ROWS MAY EXIST

abbrev pub is_resting : State → Bool
is_resting Resting = true
is_resting Waiting = false
is_resting Away = false

-- an order has 1 to 1,000,000 shares
abbrev pub countable : ℕ → Bool
countable shares = nat_le 1 shares && nat_le shares 1000000

-- a displayed price is never better than the price that the order works at
abbrev pub displays_behind : Side → Option ℕ → ℕ → Bool
displays_behind side None working = true
displays_behind side (Some display) working = inside side display working

abbrev pub displays_none : Option ℕ → Bool
displays_none None = true
displays_none (Some display) = false

-- a resting order works inside its limit and displays no better price; a waiting or away order has working price 0 and no display
abbrev pub well_priced : State → Side → ℕ → ℕ → Option ℕ → Bool
well_priced Resting side limit working display = inside side working limit && displays_behind side display working
well_priced Waiting side limit working display = working == 0 && displays_none display
well_priced Away side limit working display = working == 0 && displays_none display

abbrev pub formed : OrderRow → Bool
formed r = countable r.shares && well_priced r.state r.side r.limit r.working r.display

-- HOW RESTING ROWS RANK

abbrev pub rests_on : Side → OrderRow → Bool
rests_on side r = is_resting r.state && same_side side r.side

abbrev pub displays : Option ℕ → ℕ → Bool
displays None working = false
displays (Some display) working = display == working

-- category 2 displays the price that it works at; any other resting order is in category 3
abbrev pub category_of : OrderRow → Category
category_of r = cond (displays r.display r.working) Display NonDisplay

abbrev pub priority : Category → ℕ
priority Display = 2
priority NonDisplay = 3

abbrev pub category : OrderRow → ℕ
category r = priority (category_of r)

-- of two orders that rest on the side, the first ranks before the second wherever they stand in line:
-- by better working price, then category 2 before 3
abbrev pub outranks : Side → OrderRow → OrderRow → Bool
outranks side a b = better side a.working b.working || (a.working == b.working && nat_lt (category a) (category b))
