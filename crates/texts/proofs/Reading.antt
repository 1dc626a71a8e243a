-- From one line of a text to the next.
use Rattle.std.proofs.Common.{◌≡◌, ℕ, ◌+◌, ◌≤◌, List, [], ◌∷◌, length, drop, Ok, Err, Result, refl, ap, ◌∙◌, arith, length-drop}
use Rattle.std.specs.Result.{result_map_both, result_unwrap_or}
use Rattle.std.proofs.lemmas.List.{drop-drop}
use Rattle.texts.specs.declared.lines.Lines.{Lines}
use Rattle.texts.proofs.Answered.{no_refusal}
use Rattle.texts.specs.Pieces.{pieces}
use Rattle.texts.proofs.Cuts.{behind}
use Rattle.texts.specs.declared.refusal.Fault.{Fault}
use Rattle.texts.specs.declared.refusal.TextRefusal.{TextRefusal}
use Rattle.texts.specs.Texts.{Place, numbered, both, lines, rows, all_good, checked, first_place}
use Rattle.texts.specs.Fields.{and_then}

module _ {L : Type 0} where
  -- the next line, and those behind it
  pub record Next (l : Lines L) (line : List ℕ) : Type 0 where
    pub cut : pieces 10 (drop l.place l.bytes.now) ≡ line ∷ pieces 10 (drop (l.place + length line) l.bytes.now)
    pub within : l.place + length line ≤ length l.bytes.now
    pub counted : (l.number + 1) + length (pieces 10 (drop (l.place + length line) l.bytes.now)) ≤ 65537

  pub next : (l : Lines L) (bytes line : List ℕ) (others : List (List ℕ)) → bytes ≡ drop l.place l.bytes.now → pieces 10 bytes ≡ line ∷ others → Next l line
  next l bytes line others is first =
      let cut = rw is at first in
      let b = behind 10 (drop l.place l.bytes.now) line others cut in
      let left = length-drop l.place l.bytes.now in
      let same = drop-drop (length line) l.place l.bytes.now in
      let size = ap length cut in
      record {
        cut = rw (← same, ← b.left) cut;
        within = omega (arith, l.within, b.within);
        counted = rw (← same, ← b.left) (omega (arith, l.counted));
      }

-- lines that are all good are what their rows say
pub lines_rows : {X : Type 0} (f : List ℕ → Result X Fault) (n : ℕ) (ls : List (List ℕ)) → all_good (rows f n ls) ≡ lines f n ls
lines_rows f n [] = refl
lines_rows f n (l ∷ ls) = ap (both (numbered n (f l))) (lines_rows f (n + 1) ls)

text_said : {X : Type 0} (f : List ℕ → Result X Fault) (v : Result (List ℕ) TextRefusal) → and_then (and_then v (λ ls. Ok (rows f 2 (pieces 10 ls)))) all_good ≡ and_then v (λ ls. lines f 2 (pieces 10 ls))
text_said f (Ok ls) = lines_rows f 2 (pieces 10 ls)
text_said f (Err e) = refl

-- a text is refused where its rows are
pub text_checked : {X : Type 0} (f : List ℕ → Result X Fault) (v : Result (List ℕ) TextRefusal) (rs : List (Result X TextRefusal)) → Ok rs ≡ and_then v (λ ls. Ok (rows f 2 (pieces 10 ls))) → checked (all_good rs) ≡ checked (and_then v (λ ls. lines f 2 (pieces 10 ls)))
text_checked f v rs is = ap checked (ap (λ r. and_then r all_good) is ∙ text_said f v)

whole : {X E : Type 0} (r : Result (List X) E) (u : Unit {0}) → Ok u ≡ checked r → r ≡ Ok (result_unwrap_or r [])
whole (Ok xs) u good = refl
whole (Err e) u good = no_refusal good

-- the rows of a text that is not refused are its values
pub text_good : {X : Type 0} (f : List ℕ → Result X Fault) (v : Result (List ℕ) TextRefusal) (u : Unit {0}) → Ok u ≡ checked (and_then v (λ ls. lines f 2 (pieces 10 ls))) → all_good (result_unwrap_or (and_then v (λ ls. Ok (rows f 2 (pieces 10 ls)))) []) ≡ Ok (result_unwrap_or (and_then v (λ ls. lines f 2 (pieces 10 ls))) [])
text_good f (Ok ls) u good = lines_rows f 2 (pieces 10 ls) ∙ whole (lines f 2 (pieces 10 ls)) u good
text_good f (Err e) u good = no_refusal good

-- the first line that is read has the number 2
pub from_line_two : (at : Place) (rest : Result (List ℕ) TextRefusal) → Ok at ≡ result_map_both first_place (λ e. e) rest → at.number ≡ 2
from_line_two at (Ok bytes) e = let first : at ≡ first_place bytes = cc in ap (λ (p : Place). p.number) first
from_line_two at (Err refused) e = cc
