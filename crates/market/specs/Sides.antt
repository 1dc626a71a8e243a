-- The two sides, and the comparisons of prices that they mirror.
use Rattle.std.specs.Prelude.{ℕ, min, max, Bool, true, false, nat_le, nat_lt}
use Rattle.market.specs.declared.side.Side.{Side}
use Rattle.market.specs.declared.side.Side.TheVariants.{Buy, Sell}

abbrev pub opposite : Side → Side
opposite Buy = Sell
opposite Sell = Buy

abbrev pub same_side : Side → Side → Bool
same_side Buy Buy = true
same_side Buy Sell = false
same_side Sell Buy = false
same_side Sell Sell = true

-- an order of the side with that bound may trade at the price: at or below it for a buy, at or above it for a sell
abbrev pub inside : Side → ℕ → ℕ → Bool
inside Buy price bound = nat_le price bound
inside Sell price bound = nat_le bound price

-- the first price is strictly better than the second for a resting order of the side: higher for a buy, lower for a sell
abbrev pub better : Side → ℕ → ℕ → Bool
better Buy a b = nat_lt b a
better Sell a b = nat_lt a b

-- the one of two bounds that lets an order of the side trade at fewer prices
abbrev pub tighter : Side → ℕ → ℕ → ℕ
tighter Buy a b = min a b
tighter Sell a b = max a b
