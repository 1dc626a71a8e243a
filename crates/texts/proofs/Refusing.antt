-- Where a text is refused.
use Rattle.std.proofs.Common.{◌≡◌, ℕ, suc, ◌+◌, ◌<◌, ◌≤◌, Bool, true, false, cond, ◌&&◌, eqb, leb, List, [], ◌∷◌, length, take, drop, Some, Ok, Err, Result, refl, ap, subst, inl, inr, arith}
use Rattle.std.specs.List.{AllByRecursion, slice_get}
use Rattle.std.specs.Str.{bytes_eq}
use Rattle.texts.specs.declared.refusal.Fault.{Fault}
use Rattle.texts.specs.Fields.{AtAByte}
use Rattle.texts.specs.Pieces.{onto, pieces}
use Rattle.texts.specs.declared.refusal.TextRefusal.{TextRefusal}
use Rattle.texts.proofs.Answered.{no_refusal}
use Rattle.texts.specs.Texts.{numbered, both, lines, text, checked, Placed}

-- NO PIECE IS EMPTY

abbrev NoneEmpty : List (List ℕ) → Type 0
NoneEmpty = AllByRecursion (λ p. 0 < length p)

onto_some : (b : ℕ) (ps : List (List ℕ)) → NoneEmpty ps → NoneEmpty (onto b ps)
onto_some b [] all = (omega arith, tt)
onto_some b (p ∷ ps) all = (omega arith, all.1)

cut_some : (t : Bool) (b : ℕ) (ps : List (List ℕ)) → NoneEmpty ps → NoneEmpty (cond t ((b ∷ []) ∷ ps) (onto b ps))
cut_some true b ps all = (omega arith, all)
cut_some false b ps all = onto_some b ps all

pieces_some : (end : ℕ) (bs : List ℕ) → NoneEmpty (pieces end bs)
pieces_some end [] = tt
pieces_some end (b ∷ bs) = cut_some (eqb b end) b (pieces end bs) (pieces_some end bs)

-- ROWS

-- the refusal is at a byte of one of the lines ls, of which the first has the number n
record Bad (n : ℕ) (ls : List (List ℕ)) (e : TextRefusal) : Type 0 where
  index : ℕ
  line : List ℕ
  here : slice_get ls index ≡ Some line
  number : e.line ≡ index + n
  low : 1 ≤ e.column
  high : e.column ≤ length line

later : (n : ℕ) (l : List ℕ) (ls : List (List ℕ)) (e : TextRefusal) → Bad (n + 1) ls e → Bad n (l ∷ ls) e
later n l ls e b = record { index = suc b.index; line = b.line; here = b.here; number = let is = b.number in omega arith; low = b.low; high = b.high }

first_bad : {X : Type 0} (n : ℕ) (l : List ℕ) (ls : List (List ℕ)) (r : Result X Fault) (rest : Result (List X) TextRefusal) (e : TextRefusal) → AtAByte (length l) r → (rest ≡ Err e → Bad (n + 1) ls e) → both (numbered n r) rest ≡ Err e → Bad n (l ∷ ls) e
first_bad n l ls (Err g) rest e at more is =
    let was : record { refusal = g.refusal; line = n; column = g.column } ≡ e = cc in
    subst (Bad n (l ∷ ls)) was (record { index = 0; line = l; here = refl; number = omega arith; low = at.0; high = at.1 })
first_bad n l ls (Ok x) (Err d) e at more is = let was : d ≡ e = cc in later n l ls e (more (ap Err was))
first_bad n l ls (Ok x) (Ok xs) e at more is = no_refusal is

module _ {X : Type 0} (f : List ℕ → Result X Fault) (law : (l : List ℕ) → 0 < length l → AtAByte (length l) (f l)) where
  rows_bad : (n : ℕ) (ls : List (List ℕ)) → NoneEmpty ls → (e : TextRefusal) → lines f n ls ≡ Err e → Bad n ls e
  rows_bad n [] all e is = no_refusal is
  rows_bad n (l ∷ ls) all e is = first_bad n l ls (f l) (lines f (n + 1) ls) e (law l all.0) (rows_bad (n + 1) ls all.1 e) is

  -- TEXTS

  lines_placed : (ls : List (List ℕ)) → NoneEmpty ls → (r : Result (List X) TextRefusal) → lines f 2 ls ≡ r → Placed ls (checked r)
  lines_placed ls all (Ok xs) is = tt
  lines_placed ls all (Err e) is =
      let b = rows_bad 2 ls all e is in
      inr (inr (record { index = b.index; line = b.line; here = b.here; number = b.number; low = b.low; high = b.high }))

  module _ (header : List ℕ) (least most : ℕ) (bs : List ℕ) where
    placed_by : (a b : Bool) → bytes_eq header (take (length header) bs) ≡ a → (leb least (length (pieces 10 (drop (length header) bs))) && leb (length (pieces 10 (drop (length header) bs))) most) ≡ b → Placed (pieces 10 (drop (length header) bs)) (checked (text header f least most bs))
    placed_by true true h n = rw (h, n) (lines_placed (pieces 10 (drop (length header) bs)) (pieces_some 10 (drop (length header) bs)) _ refl)
    placed_by true false h n = rw (h, n) (inr (inl refl))
    placed_by false b h n = rw h (inl refl)

    pub placed : Placed (pieces 10 (drop (length header) bs)) (checked (text header f least most bs))
    placed = placed_by (bytes_eq header (take (length header) bs)) _ refl refl
