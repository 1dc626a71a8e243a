-- What a ranking is, and which row of a list is the first-ranked.
use Rattle.std.specs.Prelude.{◌≡◌, ℕ, ◌<◌, Bool, true, false, List, length, Some, None, Option}
use Rattle.std.specs.List.{slice_get}

-- The laws of a ranking among the rows that qualify. Two rows tie where neither outranks the other.
pub record Ranking {R : Type 0} (counts : R → Bool) (ahead : R → R → Bool) : Type 0 where
  pub irreflexive : (x : R) → counts x ≡ true → ahead x x ≡ false
  pub transitive : (x y z : R) → counts x ≡ true → counts y ≡ true → counts z ≡ true → ahead x y ≡ true → ahead y z ≡ true → ahead x z ≡ true
  pub ties : (x y z : R) → counts x ≡ true → counts y ≡ true → counts z ≡ true → ahead x y ≡ false → ahead y x ≡ false → ahead y z ≡ false → ahead z y ≡ false → ahead x z ≡ false

-- The row at i qualifies, and no row that qualifies outranks it.
pub record Unbeaten {R : Type 0} (counts : R → Bool) (ahead : R → R → Bool) (xs : List R) (i : ℕ) : Type 0 where
  pub within : i < length xs
  pub row : R
  pub here : slice_get xs i ≡ Some row
  pub counted : counts row ≡ true
  pub unbeaten : (k : ℕ) (y : R) → slice_get xs k ≡ Some y → counts y ≡ true → ahead y row ≡ false

-- The earliest such row; none where no row qualifies.
abbrev pub First : {R : Type 0} → (R → Bool) → (R → R → Bool) → List R → Option ℕ → Type 0
First counts ahead xs (Some i) = Unbeaten counts ahead xs i × ((k : ℕ) → k < i → Unbeaten counts ahead xs k → ⊥)
First {R} counts ahead xs None = (k : ℕ) (y : R) → slice_get xs k ≡ Some y → counts y ≡ false
