-- What a write, a rotation and a report come to on the line and on the report table.
use Rattle.std.proofs.Common.{◌≡◌, ℕ, zero, suc, ◌+◌, ◌-◌, ◌<◌, ◌≤◌, List, [], ◌∷◌, ◌++◌, length, take, drop, set, sym, refl, ap, ◌∙◌, append_assoc, add-zero, add_assoc, add-one, arith, length-append, length-take, length-drop, drop_of_length-le}
use Rattle.std.specs.List.{between}
use Rattle.std.proofs.lemmas.List.{drop-drop, take-take, take_at, take_more_set, append-nil, take-append-drop, set_split, drop_at}
use Rattle.std.proofs.lemmas.Slice.{between_to_end}
use borrow.Rule.Slice.PartMut.{put_mid}
use Rattle.market.specs.declared.row.OrderRow.{OrderRow}
use Rattle.rules.specs.Lines.{Line, replace_at, to_end}
use Rattle.matching.specs.Tables.{written}

-- THE LINE

pub set_replaces : (i : ℕ) (r : OrderRow) (xs : Line) → set xs i r ≡ replace_at i (r ∷ []) xs
set_replaces zero r [] = refl
set_replaces (suc i) r [] = refl
set_replaces zero r (x ∷ xs) = refl
set_replaces (suc i) r (x ∷ xs) = ap (λ z. x ∷ z) (set_replaces i r xs)

rotated_to_end : (i : ℕ) (xs : Line) → take i xs ++ (drop (suc i) xs ++ take 1 (drop i xs)) ≡ to_end i xs
rotated_to_end zero [] = refl
rotated_to_end (suc i) [] = refl
rotated_to_end zero (x ∷ xs) = refl
rotated_to_end (suc i) (x ∷ xs) = ap (λ z. x ∷ z) (rotated_to_end i xs)

-- a rotation by one of the rows from i on
pub rotated : (xs part : Line) (i : ℕ) → i < length xs → part ≡ drop 1 (between i (length xs) xs) ++ take 1 (between i (length xs) xs) → put_mid i (length xs - i) xs part ≡ to_end i xs
rotated xs part i h is =
    let most : length xs ≤ length xs = omega arith in
    let e = rw (between_to_end xs i (length xs) most) at is in
    let none : drop (length xs - i) (drop i xs) ≡ [] = drop_of_length-le (drop i xs) (omega (arith, length-drop i xs)) in
    rw (none, e) (simp (append-nil, drop-drop, add-one) (rotated_to_end i xs))

-- the rows after the part at the front of them was written to
module _ (rows part : Line) (len : ℕ) (fits : len ≤ length rows) (size : length part ≡ length (take len rows)) where
  pub part_is : take len (part ++ drop len rows) ≡ part
  part_is = take_at part (drop len rows) len (omega (arith, length-take len rows))

  pub part_size : length (part ++ drop len rows) ≡ length rows
  part_size = simp (length-append, length-drop) (omega (arith, length-take len rows))

-- all but the last row of a line whose row at i moved to the end
pub to_end_leaves : (i n : ℕ) (xs : Line) → i < length xs → n + 1 ≡ length xs → take n (to_end i xs) ≡ replace_at i [] xs
to_end_leaves i n [] h e = absurd (omega arith)
to_end_leaves zero n (x ∷ xs) h e = take_at xs (x ∷ []) n (omega arith)
to_end_leaves (suc i) zero (x ∷ xs) h e = absurd (omega arith)
to_end_leaves (suc i) (suc n) (x ∷ xs) h e = ap (λ z. x ∷ z) (to_end_leaves i n xs (omega arith) (omega arith))

-- the line is one row longer where the row behind it was written
pub appended : (rows rows' : Line) (len : ℕ) (r : OrderRow) → len < length rows → rows' ≡ replace_at len (r ∷ []) rows → take (len + 1) rows' ≡ take len rows ++ r ∷ []
appended rows rows' len r h e = ap (take (len + 1)) (e ∙ sym (set_replaces len r rows)) ∙ take_more_set rows len r h

-- and one row shorter where a row was taken out
pub removed : (rows part : Line) (len i : ℕ) → len ≤ length rows → length part ≡ length (take len rows) → take (length (take len rows) - 1) part ≡ replace_at i [] (take len rows) → take (len - 1) (part ++ drop len rows) ≡ replace_at i [] (take len rows)
removed rows part len i fits size e =
    let less : len - 1 ≤ len = omega arith in
    let all : length (take len rows) - 1 ≡ len - 1 = omega (arith, length-take len rows) in
    sym (take-take (len - 1) len _ less) ∙ ap (take (len - 1)) (part_is rows part len fits size) ∙ ap (λ n. take n part) (sym all) ∙ e

-- THE REPORT TABLE

pub written_none : {X : Type 0} (table : List X) (next : ℕ) → written table next [] ≡ table
written_none table next = simp (add-zero, append-nil, take-append-drop)

pub written_one : {X : Type 0} (table : List X) (next : ℕ) (r : X) → next < length table → set table next r ≡ written table next (r ∷ [])
written_one table next r h = set_split table next r h ∙ simp (append_assoc, add-one)

-- one write after another
pub written_twice : {X : Type 0} (table : List X) (next : ℕ) (rs qs : List X) → next + length rs ≤ length table → written (written table next rs) (next + length rs) qs ≡ written table next (rs ++ qs)
written_twice table next rs qs h =
    let n : length (take next table ++ rs) ≡ next + length rs = simp (length-append, length-take) (omega arith) in
    let front = take_at (take next table ++ rs) (drop (next + length rs) table) (next + length rs) n in
    let back : drop (next + length rs + length qs) (written table next rs) ≡ drop (next + length rs + length qs) table
    = sym (drop-drop (length qs) (next + length rs) (written table next rs)) ∙ ap (drop (length qs)) (drop_at (take next table ++ rs) (drop (next + length rs) table) (next + length rs) n) ∙ drop-drop (length qs) (next + length rs) table in
    rw (front, back) (simp (length-append, append_assoc, add_assoc))
