-- The kinds of field, and what the bytes of each say.
use Rattle.std.specs.Prelude.{◌≡◌, ℕ, Bool, true, cond, ◌||◌, List, [], ◌∷◌, Some, None, Ok, Err, codes, decimal, Option, Result, ◌==◌, nat_le, nat_lt}
use Rattle.std.specs.Option.{unwrap_or}
use Rattle.std.specs.Result.{result_map_both}
use Rattle.std.specs.Str.{bytes_eq}
use Rattle.market.specs.declared.refusal.Refusal.{Refusal}
use Rattle.market.specs.declared.refusal.Refusal.TheVariants.{BadField, OutOfRange}
use Rattle.market.specs.declared.side.Side.{Side}
use Rattle.market.specs.declared.side.Side.TheVariants.{Buy, Sell}
use Rattle.market.specs.declared.row.Kind.{Kind}
use Rattle.market.specs.declared.row.Kind.TheVariants.{Limit, Ioc, Market, Hidden, NonRoutable}
use Rattle.market.specs.Prices.{on_grid}
use Rattle.market.specs.Quotes.{quotable}
use Rattle.market.specs.Venues.{is_venue}
use Rattle.texts.specs.declared.field.GridPrice.{GridPrice}
use Rattle.texts.specs.declared.field.PriceOrNone.{PriceOrNone}
use Rattle.texts.specs.declared.field.VenueNumber.{VenueNumber}
use Rattle.texts.specs.declared.field.CallWord.{CallWord}
use Rattle.texts.specs.declared.field.CallWord.TheVariants.{Enter, Amend, Cancel, Advance}
use Rattle.texts.specs.declared.field.Unused.{Unused}
use Rattle.texts.specs.Numbers.{number}

-- a number in range, as the value that it stands for
abbrev pub ranged : {X : Type 0} → (ℕ → Bool) → (ℕ → X) → Option ℕ → Result X Refusal
ranged test value None = Err BadField
ranged test value (Some n) = cond (test n) (Ok (value n)) (Err OutOfRange)

-- the same of a number that is read
abbrev pub in_range : {X : Type 0} → (ℕ → Bool) → (ℕ → X) → ℕ → Result X Refusal
in_range test value n = ranged test value (Some n)

-- what a conversion makes of the number that is read, or that there is none
abbrev pub Ranges : {X E : Type 0} → (ℕ → Result X E → Type 0) → Option ℕ → Result X Refusal → Type 0
Ranges gives None r = r ≡ Err BadField
Ranges {X} {E} gives (Some n) r = (made : Result X E) × gives n made × (r ≡ result_map_both (λ x. x) (λ _. OutOfRange) made)

abbrev pub number_field : List ℕ → Result ℕ Refusal
number_field bs = ranged (λ _. true) (λ n. n) (number bs)

abbrev pub firm_field : List ℕ → Result ℕ Refusal
firm_field bs = ranged (λ n. nat_le n 65535) (λ n. n) (number bs)

abbrev pub grid_price_field : List ℕ → Result GridPrice Refusal
grid_price_field bs = ranged on_grid (λ n. record { price = n }) (number bs)

-- a price, or none for 0
abbrev pub priced : ℕ → Option ℕ
priced n = cond (n == 0) None (Some n)

abbrev pub price_or_none_field : List ℕ → Result PriceOrNone Refusal
price_or_none_field bs = ranged (λ n. (n == 0) || on_grid n) (λ n. record { price = priced n }) (number bs)

abbrev pub venue_number_field : List ℕ → Result VenueNumber Refusal
venue_number_field bs = ranged is_venue (λ n. record { number = n }) (number bs)

-- the value whose word the bytes are
abbrev pub word : {X : Type 0} → List (List ℕ × X) → List ℕ → Result X Refusal
word [] bs = Err BadField
word (w ∷ ws) bs = cond (bytes_eq bs w.0) (Ok w.1) (word ws bs)

abbrev pub side_field : List ℕ → Result Side Refusal
side_field bs = word ((codes "buy", Buy) ∷ (codes "sell", Sell) ∷ []) bs

abbrev pub kind_field : List ℕ → Result Kind Refusal
kind_field bs = word ((codes "limit", Limit) ∷ (codes "ioc", Ioc) ∷ (codes "market", Market) ∷ (codes "hidden", Hidden) ∷ (codes "nonroute", NonRoutable) ∷ []) bs

abbrev pub call_word_field : List ℕ → Result CallWord Refusal
call_word_field bs = word ((codes "enter", Enter) ∷ (codes "amend", Amend) ∷ (codes "cancel", Cancel) ∷ (codes "advance", Advance) ∷ []) bs

abbrev pub unused_field : List ℕ → Result Unused Refusal
unused_field bs = word ((codes "-", record {}) ∷ []) bs

-- How a value of each kind is written, and which values have a text.

abbrev pub is_number : ℕ → Bool
is_number n = nat_lt n 4294967296

abbrev pub is_firm : ℕ → Bool
is_firm n = nat_le n 65535

abbrev pub grid_price_text : GridPrice → List ℕ
grid_price_text x = decimal x.price

abbrev pub is_grid_price : GridPrice → Bool
is_grid_price x = on_grid x.price

abbrev pub price_or_none_text : PriceOrNone → List ℕ
price_or_none_text x = decimal (unwrap_or x.price 0)

abbrev pub is_price_or_none : PriceOrNone → Bool
is_price_or_none x = quotable x.price

abbrev pub venue_number_text : VenueNumber → List ℕ
venue_number_text x = decimal x.number

abbrev pub is_venue_number : VenueNumber → Bool
is_venue_number x = is_venue x.number

abbrev pub any : {X : Type 0} → X → Bool
any x = true

abbrev pub side_text : Side → List ℕ
side_text Buy = codes "buy"
side_text Sell = codes "sell"

abbrev pub kind_text : Kind → List ℕ
kind_text Limit = codes "limit"
kind_text Ioc = codes "ioc"
kind_text Market = codes "market"
kind_text Hidden = codes "hidden"
kind_text NonRoutable = codes "nonroute"

abbrev pub call_word_text : CallWord → List ℕ
call_word_text Enter = codes "enter"
call_word_text Amend = codes "amend"
call_word_text Cancel = codes "cancel"
call_word_text Advance = codes "advance"

abbrev pub unused_text : Unused → List ℕ
unused_text x = codes "-"
