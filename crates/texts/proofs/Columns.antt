-- A fault is at a byte of its line.
use Rattle.std.proofs.Common.{◌≡◌, ℕ, ◌+◌, ◌<◌, ◌≤◌, Bool, true, false, cond, List, [], ◌∷◌, ◌++◌, length, Ok, Err, Result, arith, length-append}
use Rattle.std.specs.Result.{result_map_both}
use Rattle.market.specs.declared.refusal.Refusal.{Refusal}
use Rattle.market.specs.declared.refusal.Refusal.TheVariants.{BadField}
use Rattle.texts.specs.declared.refusal.Fault.{Fault}
use Rattle.texts.specs.Pieces.{body}
use Rattle.texts.specs.Fields.{Reader, fault, placed, and_then, field, done, start, line, AtAByte}
use Rattle.texts.proofs.Ends.{has_end}
use Rattle.texts.proofs.Spelling.{cut_first, place}

-- whatever stands from the column on to the line's end, a fault of the reader is at a byte of the line
pub record Inside {X : Type 0} (read : Reader X) : Type 0 where
  pub within : (last col : ℕ) (s : List ℕ) → 1 ≤ col → 1 ≤ last → col + length s ≡ last + 1 → AtAByte last (read (place last col s))

nothing_left : {X : Type 0} (v : X) (last col : ℕ) (s : List ℕ) → 1 ≤ col → 1 ≤ last → col + length s ≡ last + 1 → AtAByte last (done v (place last col s))
nothing_left v last col [] low some sum = tt
nothing_left v last col (b ∷ bs) low some sum = let c = cut_first 44 (b ∷ bs) (omega arith) in rw c.cut (low, omega arith)

pub done_inside : {X : Type 0} (v : X) → Inside (done v)
done_inside v = record { within = nothing_left v }

module _ {F X : Type 0} (f : List ℕ → Result F Refusal) (more : F → Reader X) (each : (y : F) → Inside (more y)) where
  read_value : (last col next : ℕ) (after : List ℕ) (r : Result F Refusal) → 1 ≤ col → col ≤ last → 1 ≤ next → next + length after ≡ last + 1 → AtAByte last (and_then (placed col r) (λ y. more y (place last next after)))
  read_value last col next after (Ok y) low high first sum = (each y).within last next after first (omega arith) sum
  read_value last col next after (Err e) low high first sum = (low, high)

  one_field : (last col : ℕ) (s : List ℕ) → 1 ≤ col → 1 ≤ last → col + length s ≡ last + 1 → AtAByte last (field f more (place last col s))
  one_field last col [] low some sum = (some, omega arith)
  one_field last col (b ∷ bs) low some sum =
      let c = cut_first 44 (b ∷ bs) (omega arith) in
      let size : length (b ∷ bs) ≡ length (c.front ++ c.last ∷ []) + length c.after = sizes (b ∷ bs) c.front c.after c.last c.whole in
      rw c.cut (read_value last col (col + length (c.front ++ c.last ∷ [])) c.after (f (body (c.front ++ c.last ∷ []))) low (omega arith) (omega arith) (omega arith))
    where
      sizes : (s ys zs : List ℕ) (b : ℕ) → s ≡ ys ++ b ∷ zs → length s ≡ length (ys ++ b ∷ []) + length zs
      sizes s ys zs b is = rw is (simp length-append (omega arith))

  pub field_inside : Inside (field f more)
  field_inside = record { within = one_field }

mapped_at : {X Y : Type 0} (g : X → Y) (size : ℕ) (r : Result X Fault) → AtAByte size r → AtAByte size (result_map_both g (λ e. e) r)
mapped_at g size (Ok x) h = tt
mapped_at g size (Err f) h = h

pub mapped_inside : {X Y : Type 0} (g : X → Y) (read : Reader X) → Inside read → Inside (λ at. result_map_both g (λ e. e) (read at))
mapped_inside g read each = record { within = λ last col s low some sum. mapped_at g last (read (place last col s)) (each.within last col s low some sum) }

ended_at : {X : Type 0} (t : Bool) (size : ℕ) (r : Result X Fault) → 1 ≤ size → AtAByte size r → AtAByte size (and_then (cond {A = Result (Unit {0}) Fault} t (Ok (tt {0})) (fault BadField size)) (λ _. r))
ended_at true size r some h = h
ended_at false size r some h = (some, omega arith)

pub line_at : {X : Type 0} (read : Reader X) → Inside read → (l : List ℕ) → 0 < length l → AtAByte (length l) (line read l)
line_at read each l some = ended_at (has_end l) (length l) (read (start l)) some (each.within (length l) 1 l (omega arith) some (omega arith))
