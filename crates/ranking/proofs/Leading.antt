-- The first of the rows below n, as a loop keeps it.
use Rattle.std.proofs.Common.{◌≡◌, ℕ, ◌+◌, ◌<◌, ◌≤◌, Bool, true, false, List, length, get_or, Some, None, Option, refl, arith, below_more}
use Rattle.std.proofs.lemmas.Bool.{cases_Bool, cases_lt, both_ways}
use Rattle.std.proofs.lemmas.Option.{slice_get_past, slice_get_read}
use Rattle.std.specs.List.{slice_get}
use Rattle.ranking.specs.Ranking.{Ranking, First}

-- The row at b leads the rows below n: it counts, none is ahead of it, and it is ahead of each before it.
pub record Leader {R : Type 0} (counts : R → Bool) (ahead : R → R → Bool) (xs : List R) (n b : ℕ) : Type 0 where
  pub within : b < n
  pub row : R
  pub here : slice_get xs b ≡ Some row
  pub counted : counts row ≡ true
  pub unbeaten : (k : ℕ) → k < n → (y : R) → slice_get xs k ≡ Some y → counts y ≡ true → ahead y row ≡ false
  pub first : (k : ℕ) → k < b → (y : R) → slice_get xs k ≡ Some y → counts y ≡ true → ahead row y ≡ true

abbrev pub Leads : {R : Type 0} → (R → Bool) → (R → R → Bool) → List R → ℕ → Option ℕ → Type 0
Leads {R} counts ahead xs n None = (k : ℕ) → k < n → (y : R) → slice_get xs k ≡ Some y → counts y ≡ false
Leads counts ahead xs n (Some b) = Leader counts ahead xs n b

module _ {R : Type 0} {counts : R → Bool} {ahead : R → R → Bool} (laws : Ranking counts ahead) where
  -- x is ahead of y, and z is not, so x is ahead of z
  over : (x y z : R) → counts x ≡ true → counts y ≡ true → counts z ≡ true → ahead x y ≡ true → ahead z y ≡ false → (ahead z x ≡ false) × (ahead x z ≡ true)
  over x y z cx cy cz h k =
      grind (arith, laws.transitive z x y cz cx cy, laws.transitive x y z cx cy cz, laws.ties x z y cx cz cy, cases_Bool (ahead z x), cases_Bool (ahead x z), cases_Bool (ahead y z))

  pub passes : (xs : List R) (n : ℕ) (x : R) (best : Option ℕ) → slice_get xs n ≡ Some x → counts x ≡ false → Leads counts ahead xs n best → Leads counts ahead xs (n + 1) best
  passes xs n x None at_n out h = below_more _ n h (λ y e. let s : x ≡ y = cc in cc)
  passes xs n x (Some b) at_n out h = record {
    within = omega (arith, h.within);
    row = h.row;
    here = h.here;
    counted = h.counted;
    unbeaten = below_more _ n h.unbeaten (λ y e c. let s : x ≡ y = cc in let z : ◌≡◌ {A = Bool} true false = cc in absurd (both_ways true z refl));
    first = h.first;
  }

  pub keeps : (xs : List R) (n b : ℕ) (x y : R) → n < length xs → slice_get xs n ≡ Some x → y ≡ get_or xs b y → ahead x y ≡ false → Leader counts ahead xs n b → Leader counts ahead xs (n + 1) b
  keeps xs n b x y lt at_n is behind h = let at_b = slice_get_read xs _ b y refl (omega (arith, h.within)) is in record {
    within = omega (arith, h.within);
    row = h.row;
    here = h.here;
    counted = h.counted;
    unbeaten = below_more _ n h.unbeaten (λ z e c. let s : x ≡ z = cc in let t : y ≡ h.row = cc in cc);
    first = h.first;
  }

  pub starts : (xs : List R) (n : ℕ) (x : R) → slice_get xs n ≡ Some x → counts x ≡ true → Leads counts ahead xs n None → Leader counts ahead xs (n + 1) n
  starts xs n x at_n cx h = record {
    within = omega arith;
    row = x;
    here = at_n;
    counted = cx;
    unbeaten = below_more _ n (λ k l y e c. absurd (both_ways _ (h k l y e) c)) (λ y e c. let s : x ≡ y = cc in let i = laws.irreflexive x cx in cc);
    first = λ k l y e c. absurd (both_ways _ (h k l y e) c);
  }

  pub takes : (xs : List R) (n b : ℕ) (x y : R) → n < length xs → slice_get xs n ≡ Some x → y ≡ get_or xs b y → counts x ≡ true → ahead x y ≡ true → Leader counts ahead xs n b → Leader counts ahead xs (n + 1) n
  takes xs n b x y lt at_n is cx beats h =
      let at_b = slice_get_read xs _ b y refl (omega (arith, h.within)) is in
      let t : y ≡ h.row = cc in
      let a : ahead x h.row ≡ true = cc in
      record {
        within = omega arith;
        row = x;
        here = at_n;
        counted = cx;
        unbeaten = below_more _ n (λ k l z e c. (over x h.row z cx h.counted c a (h.unbeaten k l z e c)).0) (λ z e c. let s : x ≡ z = cc in let i = laws.irreflexive x cx in cc);
        first = λ k l z e c. (over x h.row z cx h.counted c a (h.unbeaten k l z e c)).1;
      }

  -- a row that stands at k stands below the list's length
  stands : (xs : List R) (n k : ℕ) (y : R) → length xs ≤ n → slice_get xs k ≡ Some y → k < n
  stands xs n k y all e = grind (arith, slice_get_past xs k, cases_lt k n)

  pub ends : (xs : List R) (n : ℕ) (best : Option ℕ) → length xs ≤ n → Leads counts ahead xs n best → First counts ahead xs best
  ends xs n None all h = λ k y e. h k (stands xs n k y all e) y e
  ends xs n (Some b) all h = (
    record {
      within = stands xs (length xs) b h.row (omega arith) h.here;
      row = h.row;
      here = h.here;
      counted = h.counted;
      unbeaten = λ k y e c. h.unbeaten k (stands xs n k y all e) y e c;
    },
    λ k l t. both_ways _ (t.unbeaten b h.row h.here h.counted) (h.first k l t.row t.here t.counted),
  )
