-- Quotes of the away markets.
use Rattle.std.specs.Prelude.{ℕ, Bool, true, ◌&&◌, List, Some, None, Option}
use Rattle.std.specs.List.{list_all}
use Rattle.market.specs.declared.side.Side.{Side}
use Rattle.market.specs.declared.side.Side.TheVariants.{Buy, Sell}
use Rattle.market.specs.declared.quote.Quote.{Quote}
use Rattle.market.specs.Prices.{on_grid}

-- no price, or one on the grid
abbrev pub quotable : Option ℕ → Bool
quotable None = true
quotable (Some p) = on_grid p

-- bid and offer are none or on the grid, and the reference price is on the grid; the bid may reach or pass the offer
abbrev pub formed : Quote → Bool
formed q = quotable q.bid && quotable q.offer && on_grid q.reference

abbrev pub all_formed : List Quote → Bool
all_formed qs = list_all formed qs

-- the away price that an order of the side meets: the offer for a buy, the bid for a sell
abbrev pub away : Quote → Side → Option ℕ
away q Buy = q.offer
away q Sell = q.bid
