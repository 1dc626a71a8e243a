-- What a text of lines says, or where it is refused, for any meaning of a line.
use Rattle.std.specs.Prelude.{◌≡◌, ℕ, ◌+◌, ◌≤◌, Bool, true, cond, ◌&&◌, ◌⊎◌, List, [], ◌∷◌, ◌++◌, map, length, take, drop, Some, None, Ok, Err, Option, Result, nat_le}
use Rattle.std.specs.List.{concat, AllByRecursion, slice_get}
use Rattle.std.specs.Str.{bytes_eq}
use Rattle.market.specs.declared.refusal.Refusal.{Refusal}
use Rattle.market.specs.declared.refusal.Refusal.TheVariants.{FirstLine, LineCount}
use Rattle.texts.specs.declared.refusal.Fault.{Fault}
use Rattle.texts.specs.declared.refusal.TextRefusal.{TextRefusal}
use Rattle.texts.specs.Pieces.{pieces}
use Rattle.texts.specs.Fields.{and_then}

abbrev pub refused : {X : Type 0} → Refusal → ℕ → ℕ → Result X TextRefusal
refused why n col = Err (record { refusal = why; line = n; column = col })

-- the line of the number n
abbrev pub numbered : {X : Type 0} → ℕ → Result X Fault → Result X TextRefusal
numbered n (Ok x) = Ok x
numbered n (Err f) = refused f.refusal n f.column

-- the first and then the others, or the first that is refused
abbrev pub both : {X E : Type 0} → Result X E → Result (List X) E → Result (List X) E
both (Ok x) (Ok xs) = Ok (x ∷ xs)
both (Ok x) (Err e) = Err e
both (Err e) r = Err e

-- the lines, of which the first has the number n
abbrev pub lines : {X : Type 0} → (List ℕ → Result X Fault) → ℕ → List (List ℕ) → Result (List X) TextRefusal
lines f n [] = Ok []
lines f n (l ∷ ls) = both (numbered n (f l)) (lines f (n + 1) ls)

-- the bytes bs, if they are least to most lines
abbrev pub counted : ℕ → ℕ → List ℕ → Result (List ℕ) TextRefusal
counted least most bs =
    cond (nat_le least (length (pieces 10 bs)) && nat_le (length (pieces 10 bs)) most) (Ok bs) (refused LineCount 0 0)

-- the bytes behind the first line, which is header, with its LF
abbrev pub value_lines : List ℕ → ℕ → ℕ → List ℕ → Result (List ℕ) TextRefusal
value_lines header least most bs =
    cond (bytes_eq header (take (length header) bs)) (counted least most (drop (length header) bs)) (refused FirstLine 1 1)

-- a text: the first line, and then least to most lines of the meaning f
abbrev pub text : {X : Type 0} → List ℕ → (List ℕ → Result X Fault) → ℕ → ℕ → List ℕ → Result (List X) TextRefusal
text header f least most bs = and_then (value_lines header least most bs) (λ ls. lines f 2 (pieces 10 ls))

-- whether a text is refused, and where
abbrev pub checked : {X E : Type 0} → Result X E → Result (Unit {0}) E
checked (Ok x) = Ok tt
checked (Err e) = Err e

-- PLACES

-- the refusal is at a byte of one of the value lines ls, of which the first has the number 2
pub record InALine (ls : List (List ℕ)) (e : TextRefusal) : Type 0 where
  pub index : ℕ
  pub line : List ℕ
  pub here : slice_get ls index ≡ Some line
  pub number : e.line ≡ index + 2
  pub low : 1 ≤ e.column
  pub high : e.column ≤ length line

-- the law of places: a text is refused at its start, for the number of its lines, or at a byte of a value line
abbrev pub Placed : {X : Type 0} → List (List ℕ) → Result X TextRefusal → Type 0
Placed ls (Ok x) = Unit {0}
Placed ls (Err e) = (e ≡ record { refusal = FirstLine; line = 1; column = 1 }) ⊎ ((e ≡ record { refusal = LineCount; line = 0; column = 0 }) ⊎ InALine ls e)

-- WRITING

-- the first line, and each value on its line
abbrev pub text_of : {X : Type 0} → List ℕ → (X → List ℕ) → List X → List ℕ
text_of header written xs = header ++ concat (map written xs)

-- the values that a text can have
pub record Writable {X : Type 0} (writable : X → Bool) (least most : ℕ) (xs : List X) : Type 0 where
  pub enough : least ≤ length xs
  pub few : length xs ≤ most
  pub each : AllByRecursion (λ x. writable x ≡ true) xs

-- the law of a text: it says xs just if it can, and is their text
pub record Exact {X : Type 0} (header : List ℕ) (f : List ℕ → Result X Fault) (written : X → List ℕ) (writable : X → Bool) (least most : ℕ) (bs : List ℕ) : Type 0 where
  pub says : (xs : List X) → text header f least most bs ≡ Ok xs → Writable writable least most xs × (bs ≡ text_of header written xs)
  pub said : (xs : List X) → Writable writable least most xs → bs ≡ text_of header written xs → text header f least most bs ≡ Ok xs

-- ROWS

-- what each line says, by itself; the first has the number n
abbrev pub rows : {X : Type 0} → (List ℕ → Result X Fault) → ℕ → List (List ℕ) → List (Result X TextRefusal)
rows f n [] = []
rows f n (l ∷ ls) = numbered n (f l) ∷ rows f (n + 1) ls

-- what all the rows say, or where the first bad one is refused
abbrev pub all_good : {X E : Type 0} → List (Result X E) → Result (List X) E
all_good [] = Ok []
all_good (r ∷ rs) = both r (all_good rs)

-- a text whose lines are good or bad each by itself
abbrev pub text_rows : {X : Type 0} → List ℕ → (List ℕ → Result X Fault) → ℕ → ℕ → List ℕ → Result (List (Result X TextRefusal)) TextRefusal
text_rows header f least most bs = and_then (value_lines header least most bs) (λ ls. Ok (rows f 2 (pieces 10 ls)))

-- READING

-- a place in a text: the number of the next line, and the lines left; only the last may lack its LF
pub record Place : Type 0 where
  pub number : ℕ
  pub left : List (List ℕ)

-- before the value lines bs
abbrev pub first_place : List ℕ → Place
first_place bs = record { number = 2; left = pieces 10 bs }

abbrev pub rows_at : {X : Type 0} → (List ℕ → Result X Fault) → Place → List (Result X TextRefusal)
rows_at f at = rows f at.number at.left

abbrev pub first_of : {X : Type 0} → List X → Option X
first_of [] = None
first_of (x ∷ xs) = Some x

abbrev pub after_first : ℕ → List (List ℕ) → Place
after_first n [] = record { number = n; left = [] }
after_first n (l ∷ ls) = record { number = n + 1; left = ls }

-- behind the next line, if one is left
abbrev pub passed : Place → Place
passed at = after_first at.number at.left
