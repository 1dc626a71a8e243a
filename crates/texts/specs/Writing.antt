-- How the values of fields and lines are written, and what it is to read just that.
use Rattle.std.specs.Prelude.{◌≡◌, ℕ, Bool, true, false, not, ◌&&◌, List, [], ◌∷◌, ◌++◌, Ok, Result, ◌==◌}

-- no comma and no LF
abbrev pub plain : List ℕ → Bool
plain [] = true
plain (b ∷ bs) = not (b == 44) && not (b == 10) && plain bs

-- the fields of a line, parted by commas, and its LF
abbrev pub fields_text : List (List ℕ) → List ℕ
fields_text [] = 10 ∷ []
fields_text (f ∷ []) = f ++ 10 ∷ []
fields_text (f ∷ g ∷ fs) = f ++ 44 ∷ fields_text (g ∷ fs)

-- an LF at the end, and none before it
abbrev pub one_line : List ℕ → Bool
one_line [] = false
one_line (b ∷ []) = b == 10
one_line (b ∷ c ∷ bs) = not (b == 10) && one_line (c ∷ bs)

-- the law of a kind of field or of line: what is read is a value that may be written, written out, and each such text is read
pub record Written {X E : Type 0} (shape : List ℕ → Bool) (meaning : List ℕ → Result X E) (text : X → List ℕ) (writable : X → Bool) : Type 0 where
  pub read : (bs : List ℕ) (x : X) → meaning bs ≡ Ok x → (writable x ≡ true) × (bs ≡ text x)
  pub back : (x : X) → writable x ≡ true → meaning (text x) ≡ Ok x
  pub shaped : (x : X) → writable x ≡ true → shape (text x) ≡ true
