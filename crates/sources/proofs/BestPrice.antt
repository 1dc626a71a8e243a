-- The first-ranked venue has the best price.
use Rattle.std.proofs.Common.{◌≡◌, ℕ, zero, suc, Bool, true, false, cond, List, [], ◌∷◌, Some, None, Option, sym, refl, ap, ◌∙◌, subst, arith}
use Rattle.std.specs.List.{slice_get}
use Rattle.std.proofs.lemmas.Bool.{false≢true, true≢false}
use Rattle.std.proofs.lemmas.Bool.Decides.{nat_tests}
use Rattle.std.proofs.lemmas.Option.{none-some}
use Rattle.market.specs.declared.side.Side.{Side}
use Rattle.market.specs.declared.side.Side.TheVariants.{Buy, Sell}
use Rattle.market.specs.declared.venue.Venue.{Venue}
use Rattle.market.specs.Sides.{better}
use Rattle.market.specs.Venues.{price_on, quotes_on, outquotes, better_of, best, Quoted, Best}
use Rattle.ranking.specs.Ranking.{First, Unbeaten}

-- THE ORDER OF PRICES

better_irrefl : (side : Side) (a : ℕ) → better side a a ≡ false
better_irrefl Buy a = grind (arith, nat_tests)
better_irrefl Sell a = grind (arith, nat_tests)

better_asym : (side : Side) (a b : ℕ) → better side a b ≡ true → better side b a ≡ false
better_asym Buy a b h = grind (arith, nat_tests)
better_asym Sell a b h = grind (arith, nat_tests)

worse_trans : (side : Side) (a b c : ℕ) → better side a b ≡ false → better side b c ≡ false → better side a c ≡ false
worse_trans Buy a b c h k = grind (arith, nat_tests)
worse_trans Sell a b c h k = grind (arith, nat_tests)

same_price : (side : Side) (a b : ℕ) → better side a b ≡ false → better side b a ≡ false → a ≡ b
same_price Buy a b h k = grind (arith, nat_tests)
same_price Sell a b h k = grind (arith, nat_tests)

never : {X : Type 0} {x : X} (o : Option X) → o ≡ None → o ≡ Some x → ⊥
never o p q = none-some _ (sym p ∙ q)

-- THE DEFINITION HAS THE LAW

each : (v : Venue) (vs : List Venue) (P : Venue → Type 0) → P v → ((i : ℕ) (w : Venue) → slice_get vs i ≡ Some w → P w) → (i : ℕ) (w : Venue) → slice_get (v ∷ vs) i ≡ Some w → P w
each v vs P here rest zero w at = let e : v ≡ w = cc in subst P e here
each v vs P here rest (suc i) w at = rest i w at

module _ (side : Side) (v : Venue) (vs : List Venue) where
  abbrev NoBetter : ℕ → Venue → Type 0
  NoBetter p w = (q : ℕ) → price_on side w ≡ Some q → better side q p ≡ false

  later : (p : ℕ) → Quoted side vs p → Quoted side (v ∷ vs) p
  later p h = record { at = suc h.at; venue = h.venue; here = h.here; price = h.price }

  first : (p : ℕ) → price_on side v ≡ Some p → Quoted side (v ∷ vs) p
  first p e = record { at = zero; venue = v; here = refl; price = e }

  same : (a b : ℕ) → price_on side v ≡ Some a → price_on side v ≡ Some b → a ≡ b
  same a b p q = cc

  choose : (a b : ℕ) (t : Bool) → better side b a ≡ t → price_on side v ≡ Some a → Best side vs (Some b) → Best side (v ∷ vs) (Some (cond t b a))
  choose a b true t e h = (later b h.0, each v vs (NoBetter b) (λ q is. let s = same a q e is in rw (← s) (better_asym side b a t)) h.1)
  choose a b false t e h =
      (first a e, each v vs (NoBetter a) (λ q is. let s = same a q e is in rw (← s) (better_irrefl side a)) (λ i w at q is. worse_trans side q b a (h.1 i w at q is) t))

  step : (o r : Option ℕ) → price_on side v ≡ o → Best side vs r → Best side (v ∷ vs) (better_of side o r)
  step None None e h = each v vs (λ w. price_on side w ≡ None) e h
  step None (Some b) e h = (later b h.0, each v vs (NoBetter b) (λ q is. absurd (never (price_on side v) e is)) h.1)
  step (Some a) None e h =
      (first a e, each v vs (NoBetter a) (λ q is. let s = same a q e is in rw (← s) (better_irrefl side a)) (λ i w at q is. absurd (never (price_on side w) (h i w at) is)))
  step (Some a) (Some b) e h = choose a b (better side b a) refl e h

pub best_law : (side : Side) (vs : List Venue) → Best side vs (best side vs)
best_law side [] = λ i v at. absurd (none-some v at)
best_law side (v ∷ vs) = step side v vs (price_on side v) (best side vs) refl (best_law side vs)

-- and nothing else has it
pub one_best : (side : Side) (vs : List Venue) (r s : Option ℕ) → Best side vs r → Best side vs s → r ≡ s
one_best side vs None None h k = refl
one_best side vs None (Some q) h k = let x = k.0 in absurd (never (price_on side x.venue) (h x.at x.venue x.here) x.price)
one_best side vs (Some p) None h k = let x = h.0 in absurd (never (price_on side x.venue) (k x.at x.venue x.here) x.price)
one_best side vs (Some p) (Some q) h k =
    let x = h.0 in
    let y = k.0 in
    ap Some (same_price side p q (k.1 x.at x.venue x.here p x.price) (h.1 y.at y.venue y.here q y.price))

-- THE SEARCH

quoting : (side : Side) (v : Venue) (o : Option ℕ) → price_on side v ≡ o → quotes_on side v ≡ true → (p : ℕ) × (price_on side v ≡ Some p)
quoting side v (Some p) e h = (p, e)
quoting side v None e h = absurd (false≢true (rw e at h))

module _ (side : Side) (vs : List Venue) where
  found_at : (i : ℕ) (u : Unbeaten (quotes_on side) (outquotes side) vs i) (p : ℕ) → price_on side u.row ≡ Some p → Best side vs (Some p)
  found_at i u p is = (
    record { at = i; venue = u.row; here = u.here; price = is },
    λ k w at q e. rw (e, is) at (u.unbeaten k w at (rw e)),
  )

  -- the venue that the search finds
  pub found : (i : ℕ) (v : Venue) → slice_get vs i ≡ Some v → First (quotes_on side) (outquotes side) vs (Some i) → Best side vs (price_on side v)
  found i v at h =
      let u = h.0 in
      let e : u.row ≡ v = some_same (sym u.here ∙ at) in
      let p = quoting side u.row (price_on side u.row) refl u.counted in
      subst (λ w. Best side vs (price_on side w)) e (subst (Best side vs) (sym p.1) (found_at i u p.0 p.1))
    where
      some_same : {a b : Venue} → Some a ≡ Some b → a ≡ b
      some_same s = cc

  silent : (v : Venue) (o : Option ℕ) → price_on side v ≡ o → quotes_on side v ≡ false → price_on side v ≡ None
  silent v None e h = e
  silent v (Some p) e h = absurd (true≢false (rw e at h))

  -- it finds none
  pub found_none : First (quotes_on side) (outquotes side) vs None → Best side vs None
  found_none h = λ i v at. silent v (price_on side v) refl (h i v at)
