-- The table of the venues is what each showed last.
use Rattle.std.proofs.Common.{◌≡◌, ℕ, zero, suc, ◌+◌, ◌-◌, ◌<◌, Bool, true, false, cond, ◌&&◌, eqb, leb, List, [], ◌∷◌, map, set, Some, None, Option, sym, refl, ap, arith}
use Rattle.std.specs.List.{range_with_len, AllByRecursion}
use Rattle.std.proofs.lemmas.Bool.{and_from, and_parts, eq-eqb, ne_eqb, leb-true}
use Rattle.market.specs.declared.side.Side.{Side}
use Rattle.market.specs.declared.side.Side.TheVariants.{Buy, Sell}
use Rattle.market.specs.declared.venue.Venue.{Venue}
use Rattle.market.specs.Prices.{on_grid}
use Rattle.market.specs.Quotes.{quotable, formed, all_formed}
use Rattle.market.specs.Sides.{better}
use Rattle.market.specs.Venues.{is_venue, price_on, better_of, best}
use Rattle.texts.specs.declared.montage.VenueQuote.{VenueQuote}
use Rattle.texts.specs.Montages.{venue_line, is_venue_quote}
use Rattle.texts.specs.declared.values.Values.{Values}
use Rattle.texts.specs.Places.{place}
use Rattle.texts.specs.Left.{left}
use Rattle.sources.specs.Montages.{shown, latest, venues_after, best_quote, quotes_after, changed, table_quotes}
use Rattle.texts.proofs.LinesWritten.{venue_written}
use Rattle.texts.proofs.Fit.{values_fit}

-- THE LINES

abbrev pub Proper : List VenueQuote → Type 0
Proper = AllByRecursion (λ l. is_venue_quote l ≡ true)

pub lines_proper : {g : _} (v : Values VenueQuote g) → Proper (left venue_line v)
lines_proper v = values_fit venue_written (place v.lines)

pub known_venue : (l : VenueQuote) → is_venue_quote l ≡ true → is_venue l.venue ≡ true
known_venue l h = (and_parts (is_venue l.venue) (formed l.quote) h).0

-- the venue of the first line is known
pub first_known : (ls more : List VenueQuote) (l : VenueQuote) → Proper ls → ls ≡ l ∷ more → is_venue l.venue ≡ true
first_known ls more l all is = known_venue l (rw is at all).0

-- THE TABLE

module _ {X : Type 0} (f : ℕ → X) (v : X) where
  apart : (j k n : ℕ) → j < k → map (λ m. cond (eqb m j) v (f m)) (range_with_len k n) ≡ map f (range_with_len k n)
  apart j k zero lt = refl
  apart j k (suc n) lt = let ne : eqb k j ≡ false = ne_eqb k j (λ e. omega arith) in rw ne (ap (λ xs. f k ∷ xs) (apart j (k + 1) n (omega arith)))

  set_counting : (i j k n : ℕ) → i < n → k + i ≡ j → set (map f (range_with_len k n)) i v ≡ map (λ m. cond (eqb m j) v (f m)) (range_with_len k n)
  set_counting i j k zero lt is = absurd (omega arith)
  set_counting zero j k (suc n) lt is = let eq : eqb k j ≡ true = eq-eqb k j (omega arith) in rw eq (ap (λ xs. v ∷ xs) (sym (apart j (k + 1) n (omega arith))))
  set_counting (suc i) j k (suc n) lt is =
      let ne : eqb k j ≡ false = ne_eqb k j (λ e. omega arith) in
      rw ne (ap (λ xs. f k ∷ xs) (set_counting i j (k + 1) n (omega arith) (omega arith)))

-- after a line, the table is what each venue showed last
changed_after : (l : VenueQuote) (past : List VenueQuote) → is_venue l.venue ≡ true → changed l (venues_after past) ≡ venues_after (l ∷ past)
changed_after l past known =
    let range = and_parts (leb 1 l.venue) (leb l.venue 16) known in
    let low = leb-true 1 l.venue range.0 in
    let high = leb-true l.venue 16 range.1 in
    set_counting (λ n. latest n past) (shown l) (l.venue - 1) l.venue 1 16 (omega arith) (omega arith)

pub same_quotes : (past ls : List VenueQuote) → Proper ls → table_quotes (venues_after past) ls ≡ quotes_after past ls
same_quotes past [] all = refl
same_quotes past (l ∷ ls) all =
    rw (changed_after l past (known_venue l all.0)) (ap (λ qs. best_quote (venues_after (l ∷ past)) l.quote.reference ∷ qs) (same_quotes (l ∷ past) ls all.1))

-- ITS QUOTES ARE FORMED

abbrev shows : Venue → Bool
shows v = quotable v.bid && quotable v.offer

line_shows : (l : VenueQuote) → is_venue_quote l ≡ true → shows (shown l) ≡ true
line_shows l h =
    let q = (and_parts (is_venue l.venue) (formed l.quote) h).1 in
    (and_parts (quotable l.quote.bid && quotable l.quote.offer) (on_grid l.quote.reference) q).0

reference_on_grid : (l : VenueQuote) → is_venue_quote l ≡ true → on_grid l.quote.reference ≡ true
reference_on_grid l h =
    let q = (and_parts (is_venue l.venue) (formed l.quote) h).1 in
    (and_parts (quotable l.quote.bid && quotable l.quote.offer) (on_grid l.quote.reference) q).1

either_shows : (t : Bool) (v w : Venue) → shows v ≡ true → shows w ≡ true → shows (cond t v w) ≡ true
either_shows true v w h k = h
either_shows false v w h k = k

latest_shows : (n : ℕ) (past : List VenueQuote) → Proper past → shows (latest n past) ≡ true
latest_shows n [] all = refl
latest_shows n (l ∷ past) all = either_shows (eqb n l.venue) (shown l) (latest n past) (line_shows l all.0) (latest_shows n past all.1)

side_shows : (side : Side) (v : Venue) → shows v ≡ true → quotable (price_on side v) ≡ true
side_shows Buy v h = (and_parts (quotable v.bid) (quotable v.offer) h).0
side_shows Sell v h = (and_parts (quotable v.bid) (quotable v.offer) h).1

either_price : (t : Bool) (a b : ℕ) → on_grid a ≡ true → on_grid b ≡ true → on_grid (cond t b a) ≡ true
either_price true a b h k = k
either_price false a b h k = h

better_shows : (side : Side) (p q : Option ℕ) → quotable p ≡ true → quotable q ≡ true → quotable (better_of side p q) ≡ true
better_shows side None q h k = k
better_shows side (Some a) None h k = h
better_shows side (Some a) (Some b) h k = either_price (better side b a) a b h k

module _ (side : Side) (past : List VenueQuote) (all : Proper past) where
  best_shows : (ns : List ℕ) → quotable (best side (map (λ n. latest n past) ns)) ≡ true
  best_shows [] = refl
  best_shows (n ∷ ns) =
      better_shows side (price_on side (latest n past)) (best side (map (λ m. latest m past) ns)) (side_shows side (latest n past) (latest_shows n past all)) (best_shows ns)

pub quotes_formed : (past ls : List VenueQuote) → Proper past → Proper ls → all_formed (quotes_after past ls) ≡ true
quotes_formed past [] old all = refl
quotes_formed past (l ∷ ls) old all =
    let now : Proper (l ∷ past) = (all.0, old) in
    let bid = best_shows Buy (l ∷ past) now (range_with_len 1 16) in
    let offer = best_shows Sell (l ∷ past) now (range_with_len 1 16) in
    and_from _ _ (and_from _ _ (and_from _ _ bid offer) (reference_on_grid l all.0)) (quotes_formed (l ∷ past) ls now all.1)

-- OPENING

module _ (vs : List Venue) (ls : List VenueQuote) (new : vs ≡ venues_after []) (all : Proper ls) where
  pub from_new : table_quotes vs ls ≡ quotes_after [] ls
  from_new = rw new (same_quotes [] ls all)

  pub new_formed : all_formed (table_quotes vs ls) ≡ true
  new_formed = rw from_new (quotes_formed [] ls tt all)
