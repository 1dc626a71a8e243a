-- A line's fields, read one after the other.
use Rattle.std.specs.Prelude.{ℕ, ◌+◌, ◌-◌, ◌≤◌, cond, List, [], ◌∷◌, length, drop, Ok, Err, Result, ◌==◌, slice_index, slice_index_or}
use Rattle.market.specs.declared.refusal.Refusal.{Refusal}
use Rattle.market.specs.declared.refusal.Refusal.TheVariants.{BadField}
use Rattle.texts.specs.declared.refusal.Fault.{Fault}
use Rattle.texts.specs.Pieces.{pieces, body}

-- a place in a line: the column of the line's LF, that of the next field, and the fields left, each with the byte that ends it
pub record Cursor : Type 0 where
  pub last : ℕ
  pub column : ℕ
  pub left : List (List ℕ)

-- before the first field
abbrev pub start : List ℕ → Cursor
start l = record { last = length l; column = 1; left = pieces 44 l }

-- behind the next field, if there is one
abbrev pub stepped : Cursor → Cursor
stepped at = record { last = at.last; column = at.column + length (slice_index_or at.left 0 []); left = drop 1 at.left }

abbrev pub fault : {X : Type 0} → Refusal → ℕ → Result X Fault
fault why col = Err (record { refusal = why; column = col })

abbrev pub placed : {X : Type 0} → ℕ → Result X Refusal → Result X Fault
placed col (Ok x) = Ok x
placed col (Err why) = fault why col

-- what a field says that begins at the column
abbrev pub value_at : {X : Type 0} → (List ℕ → Result X Refusal) → ℕ → List ℕ → Result X Fault
value_at f col p = placed col (f (body p))

-- the first of the fields left; a missing field is told of at the LF
abbrev pub first_field : {X : Type 0} → (List ℕ → Result X Refusal) → ℕ → ℕ → List (List ℕ) → Result X Fault
first_field f last col [] = fault BadField last
first_field f last col (p ∷ ps) = value_at f col p

abbrev pub next_field : {X : Type 0} → (List ℕ → Result X Refusal) → Cursor → Result X Fault
next_field f at = first_field f at.last at.column at.left

-- no field is left
abbrev pub none_left : ℕ → List (List ℕ) → Result (Unit {0}) Fault
none_left col [] = Ok tt
none_left col (p ∷ ps) = fault BadField col

abbrev pub end_at : Cursor → Result (Unit {0}) Fault
end_at at = none_left at.column at.left

abbrev pub and_then : {X Y E : Type 0} → Result X E → (X → Result Y E) → Result Y E
and_then (Ok x) more = more x
and_then (Err e) more = Err e

-- what is read from a place in a line on
abbrev pub Reader : Type 0 → Type 0
Reader X = Cursor → Result X Fault

-- a field, and then what more reads
abbrev pub field : {F X : Type 0} → (List ℕ → Result F Refusal) → (F → Reader X) → Reader X
field f more at = and_then (next_field f at) (λ x. more x (stepped at))

-- the line is at its end
abbrev pub done : {X : Type 0} → X → Reader X
done x at = and_then (end_at at) (λ _. Ok x)

-- a line that lacks its LF is refused at its last byte
abbrev pub ended : List ℕ → Result (Unit {0}) Fault
ended l = cond (slice_index l (length l - 1) == 10) (Ok tt) (fault BadField (length l))

-- a whole line, with its LF
abbrev pub line : {X : Type 0} → Reader X → List ℕ → Result X Fault
line read l = and_then (ended l) (λ _. read (start l))

-- the law of faults: each is at a byte of its line
abbrev pub AtAByte : {X : Type 0} → ℕ → Result X Fault → Type 0
AtAByte size (Ok x) = Unit {0}
AtAByte size (Err f) = (1 ≤ f.column) × (f.column ≤ size)
