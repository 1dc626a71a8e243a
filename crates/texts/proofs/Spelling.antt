-- What is read field by field is spelled in one way.
use Rattle.std.proofs.Common.{◌≡◌, ℕ, ◌+◌, ◌-◌, ◌<◌, Bool, true, false, cond, not, ◌&&◌, eqb, List, [], ◌∷◌, ◌++◌, length, get_or, Ok, Err, Result, sym, refl, ap, ◌∙◌, arith, length-append}
use lib.Seq.{take-append_seam, get_or-append_seam}
use Rattle.std.proofs.lemmas.List.{get_or-append-add}
use Rattle.std.proofs.lemmas.Bool.{eqb-true, and_parts, false≢true}
use Rattle.std.specs.List.{AllByRecursion}
use Rattle.std.specs.Result.{result_map_both}
use Rattle.market.specs.declared.refusal.Refusal.{Refusal}
use Rattle.texts.specs.declared.refusal.Fault.{Fault}
use Rattle.texts.specs.Pieces.{onto, pieces, body}
use Rattle.texts.specs.Fields.{Cursor, Reader, placed, and_then, field, done, start, line}
use Rattle.texts.proofs.Answered.{no_value}
use Rattle.texts.proofs.Ends.{has_end}
use Rattle.texts.specs.Writing.{plain, fields_text, one_line, Written}

-- CUTTING

-- xs is cut behind its first byte that is end, or not at all
pub record Cut (end : ℕ) (xs : List ℕ) : Type 0 where
  pub front : List ℕ
  pub last : ℕ
  pub after : List ℕ
  pub whole : xs ≡ front ++ last ∷ after
  pub cut : pieces end xs ≡ (front ++ last ∷ []) ∷ pieces end after
  pub inner : 0 < length after → last ≡ end

next_cut : (end b : ℕ) (xs : List ℕ) (t : Bool) → eqb b end ≡ t → Cut end xs → Cut end (b ∷ xs)
next_cut end b xs true is c = record { front = []; last = b; after = xs; whole = refl; cut = rw is; inner = λ _. eqb-true b end is }
next_cut end b xs false is c = record { front = b ∷ c.front; last = c.last; after = c.after; whole = ap (λ ys. b ∷ ys) c.whole; cut = rw (is, c.cut); inner = c.inner }

one_cut : (end b : ℕ) (t : Bool) → eqb b end ≡ t → cond t ((b ∷ []) ∷ []) (onto b []) ≡ (b ∷ []) ∷ []
one_cut end b true is = refl
one_cut end b false is = refl

pub cut_first : (end : ℕ) (xs : List ℕ) → 0 < length xs → Cut end xs
cut_first end [] some = absurd (omega arith)
cut_first end (b ∷ []) some = record { front = []; last = b; after = []; whole = refl; cut = one_cut end b (eqb b end) refl; inner = λ h. absurd (omega arith) }
cut_first end (b ∷ c ∷ cs) some = next_cut end b (c ∷ cs) (eqb b end) refl (cut_first end (c ∷ cs) (omega arith))

pub body_of : (ys : List ℕ) (b : ℕ) → body (ys ++ b ∷ []) ≡ ys
body_of ys b = let n : length (ys ++ b ∷ []) - 1 ≡ length ys = simp length-append (omega arith) in rw n (take-append_seam ys (b ∷ []))

-- THE LF AT THE END

pub last_end : (ys : List ℕ) (b : ℕ) → has_end (ys ++ b ∷ []) ≡ eqb b 10
last_end ys b = let n : length (ys ++ b ∷ []) - 1 ≡ length ys = simp length-append (omega arith) in rw (n, get_or-append_seam ys b [] 0)

behind_one : (b : ℕ) (zs : List ℕ) → 0 < length zs → get_or (b ∷ zs) (length zs) 0 ≡ get_or zs (length zs - 1) 0
behind_one b [] some = absurd (omega arith)
behind_one b (z ∷ zs) some = let n : length (z ∷ zs) - 1 ≡ length zs = omega arith in rw n

later_end : (ys : List ℕ) (b : ℕ) (zs : List ℕ) → 0 < length zs → has_end (ys ++ b ∷ zs) ≡ has_end zs
later_end ys b zs some =
    let n : length (ys ++ b ∷ zs) - 1 ≡ length ys + length zs = simp length-append (omega arith) in
    rw n (ap (λ c. eqb c 10) (get_or-append-add ys (b ∷ zs) (length zs) 0 ∙ behind_one b zs some))

-- PLAIN FIELDS

plain_first : (b : ℕ) (bs : List ℕ) → plain (b ∷ bs) ≡ true → (eqb b 44 ≡ false) × (plain bs ≡ true) × (eqb b 10 ≡ false)
plain_first b bs h = by (eqb b 44) (eqb b 10) (plain bs) h
  where
    by : (s t u : Bool) → (not s && not t && u) ≡ true → (s ≡ false) × (u ≡ true) × (t ≡ false)
    by false false true h = (refl, refl, refl)
    by false false false h = absurd (false≢true h)
    by false true u h = absurd (false≢true h)
    by true t u h = absurd (false≢true h)

pieces_comma : (ys zs : List ℕ) → plain ys ≡ true → pieces 44 (ys ++ 44 ∷ zs) ≡ (ys ++ 44 ∷ []) ∷ pieces 44 zs
pieces_comma [] zs h = refl
pieces_comma (b ∷ bs) zs h = let p = plain_first b bs h in rw (p.0, pieces_comma bs zs p.1)

pieces_end : (ys : List ℕ) → plain ys ≡ true → pieces 44 (ys ++ 10 ∷ []) ≡ (ys ++ 10 ∷ []) ∷ []
pieces_end [] h = refl
pieces_end (b ∷ bs) h = let p = plain_first b bs h in rw (p.0, pieces_end bs p.1)

-- READING

-- before the bytes s of a line
abbrev pub place : ℕ → ℕ → List ℕ → Cursor
place last col s = record { last = last; column = col; left = pieces 44 s }

-- from the bytes s, to the line's end, the value x is read just if W x s
pub record Spelled {X : Type 0} (read : Reader X) (W : X → List ℕ → Type 0) : Type 0 where
  pub spells : (last col : ℕ) (s : List ℕ) (x : X) → (0 < length s → has_end s ≡ true) → read (place last col s) ≡ Ok x → W x s
  pub reads : (last col : ℕ) (s : List ℕ) (x : X) → W x s → read (place last col s) ≡ Ok x

nothing_more : {X : Type 0} (v : X) (last col : ℕ) (s : List ℕ) (x : X) → done v (place last col s) ≡ Ok x → (x ≡ v) × (s ≡ [])
nothing_more v last col [] x is = let e : x ≡ v = cc in (e, refl)
nothing_more v last col (b ∷ bs) x is =
    let c = cut_first 44 (b ∷ bs) (omega arith) in
    no_value (rw c.cut at is)

pub done_spelled : {X : Type 0} (v : X) → Spelled (done v) (λ x s. (x ≡ v) × (s ≡ []))
done_spelled v = record { spells = λ last col s x _ is. nothing_more v last col s x is; reads = λ last col s x h. rw (h.0, h.1) }

-- a field, the byte behind it, and what is read after it
pub record Part {F X : Type 0} (text : F → List ℕ) (writable : F → Bool) (W : F → X → List ℕ → Type 0) (x : X) (s : List ℕ) : Type 0 where
  pub value : F
  pub last : ℕ
  pub after : List ℕ
  pub fits : writable value ≡ true
  pub whole : s ≡ text value ++ last ∷ after
  pub comma : 0 < length after → last ≡ 44
  pub end : after ≡ [] → last ≡ 10
  pub rest : W value x after

module _ {F X : Type 0} {f : List ℕ → Result F Refusal} {text : F → List ℕ} {writable : F → Bool} (w : Written plain f text writable) (more : F → Reader X) (W : F → X → List ℕ → Type 0) (each : (y : F) → Spelled (more y) (W y)) where
  value_read : (last col : ℕ) (s : List ℕ) (x : X) (c : Cut 44 s) → has_end s ≡ true → (r : Result F Refusal) → f c.front ≡ r → and_then (placed col r) (λ y. more y (place last (col + length (c.front ++ c.last ∷ [])) c.after)) ≡ Ok x → Part text writable W x s
  value_read last col s x c ends (Err e) read is = no_value is
  value_read last col s x c ends (Ok y) read is =
      let r = w.read c.front y read in
      let ends-whole : has_end (c.front ++ c.last ∷ c.after) ≡ true = rw c.whole at ends in
      record {
        value = y;
        last = c.last;
        after = c.after;
        fits = r.0;
        whole = c.whole ∙ ap (λ ys. ys ++ c.last ∷ c.after) r.1;
        comma = c.inner;
        end = λ none. eqb-true c.last 10 (sym (last_end c.front c.last) ∙ rw none at ends-whole);
        rest = (each y).spells last _ c.after x (λ some. sym (later_end c.front c.last c.after some) ∙ ends-whole) is;
      }

  one_field : (last col : ℕ) (s : List ℕ) (x : X) → (0 < length s → has_end s ≡ true) → field f more (place last col s) ≡ Ok x → Part text writable W x s
  one_field last col [] x ends is = no_value is
  one_field last col (b ∷ bs) x ends is =
      let c = cut_first 44 (b ∷ bs) (omega arith) in
      value_read last col (b ∷ bs) x c (ends (omega arith)) (f c.front) refl (rw (c.cut, body_of c.front c.last) at is)

  field_back : (last col : ℕ) (s : List ℕ) (x : X) (p : Part text writable W x s) (after : List ℕ) → p.after ≡ after → field f more (place last col s) ≡ Ok x
  field_back last col s x p [] none =
      let y = p.value in
      let s-is : s ≡ text y ++ 10 ∷ [] = p.whole ∙ rw (p.end none, none) in
      let rest : W y x [] = rw none at p.rest in
      rw (s-is, pieces_end (text y) (w.shaped y p.fits), body_of (text y) 10, w.back y p.fits) ((each y).reads last _ [] x rest)
  field_back last col s x p (b ∷ bs) some =
      let y = p.value in
      let s-is : s ≡ text y ++ 44 ∷ b ∷ bs = p.whole ∙ rw (p.comma (rw some (omega arith)), some) in
      let rest : W y x (b ∷ bs) = rw some at p.rest in
      rw (s-is, pieces_comma (text y) (b ∷ bs) (w.shaped y p.fits), body_of (text y) 44, w.back y p.fits) ((each y).reads last _ (b ∷ bs) x rest)

  pub field_spelled : Spelled (field f more) (Part text writable W)
  field_spelled = record { spells = one_field; reads = λ last col s x p. field_back last col s x p p.after refl }

-- a reader whose value goes into another
pub mapped_spelled : {X Y : Type 0} (g : X → Y) (read : Reader X) (W : X → List ℕ → Type 0) → Spelled read W → Spelled (λ at. result_map_both g (λ e. e) (read at)) (λ y s. (x : X) × (y ≡ g x) × W x s)
mapped_spelled {X} g read W each = record {
  spells = λ last col s y ends is. from last col s y ends (read (place last col s)) refl is;
  reads = λ last col s y h. rw (each.reads last col s h.0 h.2) (ap Ok (sym h.1));
}
  where
    from : (last col : ℕ) (s : List ℕ) (y : _) → (0 < length s → has_end s ≡ true) → (r : Result X Fault) → read (place last col s) ≡ r → result_map_both g (λ e. e) r ≡ Ok y → (x : X) × (y ≡ g x) × W x s
    from last col s y ends (Ok x) was is = let e : y ≡ g x = cc in (x, e, each.spells last col s x ends was)
    from last col s y ends (Err e) was is = no_value is

ended_true : (l : List ℕ) (t : Bool) {X : Type 0} (r : Result X Fault) (x : X) (e : Fault) → and_then (cond {A = Result (Unit {0}) Fault} t (Ok (tt {0})) (Err e)) (λ _. r) ≡ Ok x → (t ≡ true) × (r ≡ Ok x)
ended_true l true r x e is = (refl, is)
ended_true l false r x e is = no_value is

-- a whole line
pub line_spelled : {X : Type 0} (read : Reader X) (W : X → List ℕ → Type 0) → Spelled read W → (l : List ℕ) (x : X) → line read l ≡ Ok x → W x l
line_spelled read W each l x is = let r = ended_true l (has_end l) (read (start l)) x _ is in each.spells (length l) 1 l x (λ _. r.0) r.1

pub line_back : {X : Type 0} (read : Reader X) (W : X → List ℕ → Type 0) → Spelled read W → (l : List ℕ) (x : X) → has_end l ≡ true → W x l → line read l ≡ Ok x
line_back read W each l x ends h = rw ends (each.reads (length l) 1 l x h)

-- SHAPES

-- a byte that is no LF, in front of a line
more_line : (b : ℕ) (t : List ℕ) → eqb b 10 ≡ false → one_line t ≡ true → one_line (b ∷ t) ≡ true
more_line b [] other is = absurd (false≢true is)
more_line b (c ∷ cs) other is = rw other is

front_line : (ys t : List ℕ) → plain ys ≡ true → one_line t ≡ true → one_line (ys ++ t) ≡ true
front_line [] t h is = is
front_line (b ∷ bs) t h is = let p = plain_first b bs h in more_line b (bs ++ t) p.2 (front_line bs t p.1 is)

-- fields with no comma and no LF make one line
pub fields_line : (fs : List (List ℕ)) → AllByRecursion (λ f. plain f ≡ true) fs → one_line (fields_text fs) ≡ true
fields_line [] all = refl
fields_line (f ∷ []) all = front_line f (10 ∷ []) all.0 refl
fields_line (f ∷ g ∷ fs) all = front_line f (44 ∷ fields_text (g ∷ fs)) all.0 (more_line 44 (fields_text (g ∷ fs)) refl (fields_line (g ∷ fs) all.1))

-- a line ends with its LF
pub line_end : (l : List ℕ) → one_line l ≡ true → has_end l ≡ true
line_end [] is = absurd (false≢true is)
line_end (b ∷ []) is = is
line_end (b ∷ c ∷ cs) is = later_end [] b (c ∷ cs) (omega arith) ∙ line_end (c ∷ cs) (and_parts (not (eqb b 10)) (one_line (c ∷ cs)) is).1

-- PARTS

module _ {F X : Type 0} {text : F → List ℕ} {writable : F → Bool} {W : F → X → List ℕ → Type 0} {x : X} {s : List ℕ} (p : Part text writable W x s) where
  pub some_part : 0 < length s
  some_part = rw p.whole (simp length-append (omega arith))

  pub last_part : p.after ≡ [] → s ≡ text p.value ++ 10 ∷ []
  last_part none = p.whole ∙ rw (p.end none, none)

  pub comma_part : (t : List ℕ) → 0 < length p.after → p.after ≡ t → s ≡ text p.value ++ 44 ∷ t
  comma_part t some is = p.whole ∙ rw (p.comma some, is)

module _ {F X : Type 0} {text : F → List ℕ} {writable : F → Bool} {W : F → X → List ℕ → Type 0} {x : X} (y : F) (fits : writable y ≡ true) where
  pub made_last : W y x [] → Part text writable W x (text y ++ 10 ∷ [])
  made_last rest = record { value = y; last = 10; after = []; fits = fits; whole = refl; comma = λ some. absurd (omega arith); end = λ _. refl; rest = rest }

  pub comma_made : (zs : List ℕ) → 0 < length zs → W y x zs → Part text writable W x (text y ++ 44 ∷ zs)
  comma_made zs some rest = record { value = y; last = 44; after = zs; fits = fits; whole = refl; comma = λ _. refl; end = λ none. absurd (let n = ap length none in omega arith); rest = rest }
