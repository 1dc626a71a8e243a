-- The row of an order number, by its place.
use Rattle.std.proofs.Common.{◌≡◌, ℕ, suc, ◌+◌, ◌<◌, Bool, true, false, cond, eqb, [], ◌∷◌, length, get_or, Some, None, Option, IfSome, refl, sym, ap, ◌∙◌, subst, arith}
use Rattle.std.specs.Option.{option_map}
use Rattle.std.specs.List.{slice_get, position, position_from}
use Rattle.std.proofs.lemmas.Iterator.Adapters.{position_from-zero}
use Rattle.std.proofs.lemmas.Option.{slice_get-get_or, slice_get_past, slice_get_within}
use Rattle.std.proofs.lemmas.Bool.{cases_lt}
use Rattle.market.specs.declared.row.OrderRow.{OrderRow}
use Rattle.market.specs.Rows.{formed}
use Rattle.rules.specs.declared.trading.Placed.{Placed}
use Rattle.rules.specs.Lines.{Line, find, at_front, one_back, one_back?, all_formed}
use Rattle.rules.proofs.Formed.{nth_formed}

abbrev has : ℕ → OrderRow → Bool
has number r = eqb r.number number

place_from : (number i : ℕ) (line : Line) → position_from (has number) i line ≡ option_map (λ (p : Placed). i + p.place) (find number line)
place_from number i [] = refl
place_from number i (x ∷ xs) = go (eqb x.number number) (find number xs) (place_from number (i + 1) xs)
  where
    go : (b : Bool) (o : Option Placed) → position_from (has number) (i + 1) xs ≡ option_map (λ (p : Placed). i + 1 + p.place) o
        → cond b (Some i) (position_from (has number) (i + 1) xs) ≡ option_map (λ (p : Placed). i + p.place) (cond b (Some (at_front x)) (one_back? o))
    go true o e = let z : i ≡ i + 0 = omega arith in ap Some z
    go false None e = e
    go false (Some p) e = let z : i + 1 + p.place ≡ i + suc p.place = omega arith in e ∙ ap Some z

place_is : (number : ℕ) (line : Line) → position (has number) line ≡ option_map (λ (p : Placed). 0 + p.place) (find number line)
place_is number line = position_from-zero (has number) line ∙ place_from number 0 line

-- the row that is found stands at its place
pub find_at : (number : ℕ) (line : Line) (p : Placed) → find number line ≡ Some p → slice_get line p.place ≡ Some p.row
find_at number [] p e = cc
find_at number (x ∷ xs) p e = go (eqb x.number number) (find number xs) (find_at number xs) e
  where
    go : (b : Bool) (o : Option Placed) → ((p : Placed) → o ≡ Some p → slice_get xs p.place ≡ Some p.row) → cond b (Some (at_front x)) (one_back? o) ≡ Some p → slice_get (x ∷ xs) p.place ≡ Some p.row
    go true o ih e = let q : at_front x ≡ p = cc in subst (λ p. slice_get (x ∷ xs) p.place ≡ Some p.row) q refl
    go false None ih e = cc
    go false (Some r) ih e = let q : one_back r ≡ p = cc in subst (λ p. slice_get (x ∷ xs) p.place ≡ Some p.row) q (ih r refl)

pub missed : (number : ℕ) (line : Line) → None ≡ position (has number) line → None ≡ find number line
missed number line e = go (find number line) (e ∙ place_is number line)
  where
    go : (o : Option Placed) → None ≡ option_map (λ (p : Placed). 0 + p.place) o → None ≡ o
    go None e = refl
    go (Some p) e = cc

pub found : (number : ℕ) (line : Line) (i : ℕ) (d : OrderRow) → Some i ≡ position (has number) line → Some (record { place = i; row = get_or line i d }) ≡ find number line
found number line i d e = go (find number line) (find_at number line) (e ∙ place_is number line) refl
  where
    go : (o : Option Placed) → ((p : Placed) → o ≡ Some p → slice_get line p.place ≡ Some p.row) → Some i ≡ option_map (λ (p : Placed). 0 + p.place) o → o ≡ find number line → Some (record { place = i; row = get_or line i d }) ≡ find number line
    go None h e f = cc
    go (Some p) h e f =
        let zero : i ≡ 0 + p.place = cc in
        let z : i ≡ p.place = omega arith in
        let there = ap (slice_get line) z ∙ h p refl in
        let w : i < length line = grind (arith, slice_get_past line i, cases_lt i (length line), there) in
        let s : Some (get_or line i d) ≡ Some p.row = sym (slice_get-get_or line i d w) ∙ there in
        let q : get_or line i d ≡ p.row = cc in
        (λ j. Some (record { place = z j; row = q j })) ∙ f

-- what is found lies in the line, and is formed where all rows are
pub found_within : (number : ℕ) (line : Line) (o : Option Placed) → o ≡ find number line → IfSome o (λ (p : Placed). p.place < length line)
found_within number line None e = tt
found_within number line (Some p) e = slice_get_within line p.place p.row (find_at number line p (sym e))

pub found_formed : (number : ℕ) (line : Line) (o : Option Placed) → o ≡ find number line → all_formed line ≡ true → IfSome o (λ (p : Placed). formed p.row ≡ true)
found_formed number line None e all = tt
found_formed number line (Some p) e all = nth_formed line p.place p.row all (find_at number line p (sym e))
