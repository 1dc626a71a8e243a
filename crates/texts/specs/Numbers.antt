-- How a number is written.
use Rattle.std.specs.Prelude.{◌≡◌, ℕ, ◌+◌, ◌-◌, ◌*◌, ◌<◌, Bool, cond, not, ◌&&◌, ◌||◌, List, [], ◌∷◌, length, Some, None, decimal, Option, ◌==◌, ◌≢◌, nat_le, nat_lt, slice_index}

abbrev pub digit : ℕ → Bool
digit c = nat_le 48 c && nat_le c 57

-- the number that the digits cs write behind the digits of n
abbrev pub digits : ℕ → List ℕ → Option ℕ
digits n [] = Some n
digits n (c ∷ cs) = cond (digit c) (digits (n * 10 + (c - 48)) cs) None

-- one digit, or two to ten with no zero in front
abbrev pub sized : List ℕ → Bool
sized cs = length cs == 1 || (nat_le 2 (length cs) && nat_le (length cs) 10 && not (slice_index cs 0 == 48))

abbrev pub below : ℕ → Option ℕ → Option ℕ
below m None = None
below m (Some n) = cond (nat_lt n m) (Some n) None

-- the number that cs writes
abbrev pub number : List ℕ → Option ℕ
number cs = cond (sized cs) (below 4294967296 (digits 0 cs)) None

-- the law of numbers: those below 2^32, each as the standard library prints it, and no other bytes
abbrev pub Decimal : List ℕ → Option ℕ → Type 0
Decimal cs (Some n) = (n < 4294967296) × (cs ≡ decimal n)
Decimal cs None = (n : ℕ) → n < 4294967296 → cs ≢ decimal n
