-- The first piece and the rest.
use Rattle.std.proofs.Common.{◌≡◌, ℕ, suc, ◌+◌, ◌<◌, ◌≤◌, Bool, true, false, cond, eqb, List, [], ◌∷◌, length, take, drop, refl, ap, ◌∙◌, add-one, arith, length-append, length-take-le}
use Rattle.std.proofs.lemmas.List.{nil_from_length}
use Rattle.std.specs.Prelude.{not, min}
use Rattle.std.specs.List.{concat, position_or_len}
use Rattle.texts.specs.declared.pieces.Pieces.{Pieces}
use Rattle.texts.specs.Cuts.{cuts}
use Rattle.texts.specs.Pieces.{pieces, onto, first_len}

cut : (t : Bool) (end b : ℕ) (bs : List ℕ) → (0 < length bs → pieces end bs ≡ take (first_len end bs) bs ∷ pieces end (drop (first_len end bs) bs)) → cond t ((b ∷ []) ∷ pieces end bs) (onto b (pieces end bs)) ≡ take (cond t 1 (first_len end bs + 1)) (b ∷ bs) ∷ pieces end (drop (cond t 1 (first_len end bs + 1)) (b ∷ bs))
cut true end b bs more = refl
cut false end b [] more = refl
cut false end b (c ∷ cs) more = rw (more (omega arith)) (simp add-one)

pub pieces_first : (end : ℕ) (xs : List ℕ) → 0 < length xs → pieces end xs ≡ take (first_len end xs) xs ∷ pieces end (drop (first_len end xs) xs)
pieces_first end [] some = absurd (omega arith)
pieces_first end (b ∷ bs) some = cut (eqb b end) end b bs (pieces_first end bs)

one_more : (t : Bool) (p n l : ℕ) → n ≡ min (p + 1) l → cond t 1 (n + 1) ≡ min (cond (not t) (1 + p) 0 + 1) (suc l)
one_more true p n l is = omega arith
one_more false p n l is = omega arith

-- by the place of the first byte end
pub first_len_is : (end : ℕ) (xs : List ℕ) → first_len end xs ≡ min (position_or_len (λ b. eqb b end) xs + 1) (length xs)
first_len_is end [] = omega arith
first_len_is end (b ∷ bs) = one_more (eqb b end) _ _ _ (first_len_is end bs)

-- xs is split behind its first piece
pub cut_at : (end : ℕ) (xs front back : List ℕ) → 0 < length xs → front ≡ take (first_len end xs) xs → back ≡ drop (first_len end xs) xs → pieces end xs ≡ front ∷ pieces end back
cut_at end xs front back some f b = rw (f, b) (pieces_first end xs some)

pub pieces_none : (end : ℕ) (xs : List ℕ) → length xs ≡ 0 → pieces end xs ≡ []
pieces_none end xs none = rw (nil_from_length xs none)

joined_onto : (b : ℕ) (ps : List (List ℕ)) → concat (onto b ps) ≡ b ∷ concat ps
joined_onto b [] = refl
joined_onto b (p ∷ ps) = refl

joined_cut : (t : Bool) (b : ℕ) (ps : List (List ℕ)) (bs : List ℕ) → concat ps ≡ bs → concat (cond t ((b ∷ []) ∷ ps) (onto b ps)) ≡ b ∷ bs
joined_cut true b ps bs is = ap (λ xs. b ∷ xs) is
joined_cut false b ps bs is = joined_onto b ps ∙ ap (λ xs. b ∷ xs) is

-- the pieces, joined, are the bytes
pub joined_pieces : (end : ℕ) (bs : List ℕ) → concat (pieces end bs) ≡ bs
joined_pieces end [] = refl
joined_pieces end (b ∷ bs) = joined_cut (eqb b end) b (pieces end bs) bs (joined_pieces end bs)

fewer_onto : (b : ℕ) (ps : List (List ℕ)) → length (onto b ps) ≤ length ps + 1
fewer_onto b [] = omega arith
fewer_onto b (p ∷ ps) = omega arith

fewer_cut : (t : Bool) (b n : ℕ) (ps : List (List ℕ)) → length ps ≤ n → length (cond t ((b ∷ []) ∷ ps) (onto b ps)) ≤ suc n
fewer_cut true b n ps le = omega arith
fewer_cut false b n ps le = omega (arith, fewer_onto b ps)

-- there are no more pieces than bytes
pub pieces_few : (end : ℕ) (bs : List ℕ) → length (pieces end bs) ≤ length bs
pieces_few end [] = omega arith
pieces_few end (b ∷ bs) = fewer_cut (eqb b end) b _ _ (pieces_few end bs)

-- a piece that is cut off, and the bytes left
pub cut_off : (p q : Pieces) (front : List ℕ) → cuts p ≡ front ∷ cuts q → length front + length q.bytes.now ≡ length p.bytes.now
cut_off p q front is =
    let e = rw (joined_pieces p.end p.bytes.now, joined_pieces q.end q.bytes.now) at (ap (λ ps. length (concat ps)) is) in
    let sizes = length-append front q.bytes.now in
    omega arith

pub none_left : (q : Pieces) → cuts q ≡ [] → length q.bytes.now ≡ 0
none_left q none = rw (joined_pieces q.end q.bytes.now) at (ap (λ ps. length (concat ps)) none)

-- the bytes behind the first piece
pub record Behind (end : ℕ) (xs front : List ℕ) (others : List (List ℕ)) : Type 0 where
  pub within : length front ≤ length xs
  pub left : others ≡ pieces end (drop (length front) xs)

pub behind : (end : ℕ) (xs front : List ℕ) (others : List (List ℕ)) → pieces end xs ≡ front ∷ others → Behind end xs front others
behind end [] front others is = absurd (let z : ◌≡◌ {A = ℕ} 0 1 = cc in omega arith)
behind end (b ∷ bs) front others is =
    let xs = b ∷ bs in
    let n = first_len end xs in
    let cut = pieces_first end xs (omega arith) in
    let f : front ≡ take n xs = cc in
    let o : others ≡ pieces end (drop n xs) = cc in
    let size : length front ≡ n = ap length f ∙ length-take-le n xs (omega (arith, first_len_is end xs)) in
    record { within = omega (arith, first_len_is end xs); left = rw size o }
