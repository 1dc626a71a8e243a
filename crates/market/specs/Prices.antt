-- The price grid, its steps, and the collars around a reference price. A price is a number of hundredths of a cent.
use Rattle.std.specs.Prelude.{ℕ, ◌+◌, ◌-◌, ◌*◌, ◌/◌, ◌%◌, Bool, cond, ◌&&◌, ◌||◌, ◌==◌, nat_le, nat_lt}
use Rattle.market.specs.declared.side.Side.{Side}
use Rattle.market.specs.declared.side.Side.TheVariants.{Buy, Sell}

-- from 100 to 900,000,000, and from 10,000 (one dollar) on a multiple of 100 (one cent)
abbrev pub on_grid : ℕ → Bool
on_grid p = nat_le 100 p && nat_le p 900000000 && (nat_lt p 10000 || p % 100 == 0)

-- one step above adds 1 below 10,000, else 100
abbrev pub step_above : ℕ → ℕ
step_above p = p + cond (nat_lt p 10000) 1 100

-- one step below takes off 1 at 10,000 or less, else 100
abbrev pub step_below : ℕ → ℕ
step_below p = p - cond (nat_le p 10000) 1 100

-- one step away from the other side: below for a buy, above for a sell
abbrev pub step_back : Side → ℕ → ℕ
step_back Buy p = step_below p
step_back Sell p = step_above p

-- 10 percent up to a reference of 250,000, 5 up to 500,000, 3 above
abbrev pub collar_percent : ℕ → ℕ
collar_percent reference = cond (nat_le reference 250000) 10 (cond (nat_le reference 500000) 5 3)

-- the width is rounded down
abbrev pub collar_width : ℕ → ℕ
collar_width reference = reference * collar_percent reference / 100

-- the upper collar bounds a market buy, the lower collar a market sell
abbrev pub collar : Side → ℕ → ℕ
collar Buy reference = reference + collar_width reference
collar Sell reference = reference - collar_width reference
