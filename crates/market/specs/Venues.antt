-- Away venues: the prices that they quote, and how these rank.
use Rattle.std.specs.Prelude.{◌≡◌, ℕ, Bool, false, cond, ◌&&◌, List, [], ◌∷◌, is_some, Some, None, Option, nat_le}
use Rattle.std.specs.List.{slice_get}
use Rattle.market.specs.declared.side.Side.{Side}
use Rattle.market.specs.declared.side.Side.TheVariants.{Buy, Sell}
use Rattle.market.specs.declared.quote.Quote.{Quote}
use Rattle.market.specs.declared.venue.Venue.{Venue}
use Rattle.market.specs.Sides.{better}

-- sixteen venues, numbered from 1
abbrev pub is_venue : ℕ → Bool
is_venue n = nat_le 1 n && nat_le n 16

-- a venue that shows the bid and the offer of a quote
abbrev pub showing : Quote → Venue
showing q = record { bid = q.bid; offer = q.offer }

-- the price that a venue quotes on a side: its bid for buys, its offer for sells
abbrev pub price_on : Side → Venue → Option ℕ
price_on Buy v = v.bid
price_on Sell v = v.offer

abbrev pub quotes_on : Side → Venue → Bool
quotes_on side v = is_some (price_on side v)

abbrev pub better_price : Side → Option ℕ → Option ℕ → Bool
better_price side None q = false
better_price side (Some a) None = false
better_price side (Some a) (Some b) = better side a b

-- of two venues that quote on the side, the first has the better price: the higher bid, the lower offer
abbrev pub outquotes : Side → Venue → Venue → Bool
outquotes side v w = better_price side (price_on side v) (price_on side w)

-- THE BEST PRICE OF A SIDE

abbrev pub better_of : Side → Option ℕ → Option ℕ → Option ℕ
better_of side None q = q
better_of side (Some a) None = Some a
better_of side (Some a) (Some b) = Some (cond (better side b a) b a)

-- the highest bid of the venues, the lowest offer; none if no venue has one
abbrev pub best : Side → List Venue → Option ℕ
best side [] = None
best side (v ∷ vs) = better_of side (price_on side v) (best side vs)

-- some venue quotes the price
pub record Quoted (side : Side) (vs : List Venue) (p : ℕ) : Type 0 where
  pub at : ℕ
  pub venue : Venue
  pub here : slice_get vs at ≡ Some venue
  pub price : price_on side venue ≡ Some p

-- the law of the best price: some venue quotes it and none quotes a better one; none if no venue quotes
abbrev pub Best : Side → List Venue → Option ℕ → Type 0
Best side vs None = (i : ℕ) (v : Venue) → slice_get vs i ≡ Some v → price_on side v ≡ None
Best side vs (Some p) = Quoted side vs p × ((i : ℕ) (v : Venue) → slice_get vs i ≡ Some v → (q : ℕ) → price_on side v ≡ Some q → better side q p ≡ false)
