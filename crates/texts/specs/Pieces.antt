-- Bytes cut into pieces, each with the byte that ends it: a text into lines, a line into fields.
use Rattle.std.specs.Prelude.{ℕ, ◌+◌, ◌-◌, cond, List, [], ◌∷◌, length, take, ◌==◌}

-- b in front of the first piece
abbrev pub onto : ℕ → List (List ℕ) → List (List ℕ)
onto b [] = (b ∷ []) ∷ []
onto b (p ∷ ps) = (b ∷ p) ∷ ps

-- bs, cut behind each byte that is end: every piece but the last has one such byte, its last
abbrev pub pieces : ℕ → List ℕ → List (List ℕ)
pieces end [] = []
pieces end (b ∷ bs) = cond (b == end) ((b ∷ []) ∷ pieces end bs) (onto b (pieces end bs))

-- how many bytes the first piece has
abbrev pub first_len : ℕ → List ℕ → ℕ
first_len end [] = 0
first_len end (b ∷ bs) = cond (b == end) 1 (first_len end bs + 1)

-- a piece without its last byte
abbrev pub body : List ℕ → List ℕ
body p = take (length p - 1) p
