-- A text says just the values whose text it is.
use Rattle.std.proofs.Common.{◌≡◌, ℕ, ◌+◌, Bool, true, false, not, ◌&&◌, eqb, leb, List, [], ◌∷◌, ◌++◌, map, length, take, drop, Ok, Err, Result, sym, refl, ap, ◌∙◌, subst, arith, take-append-drop}
use lib.ListN.{length-map}
use lib.Seq.{take-append_seam, drop-append_seam}
use Rattle.std.specs.List.{concat, AllByRecursion}
use Rattle.std.specs.Str.{bytes_eq}
use Rattle.std.proofs.lemmas.Slice.Eq.{bytes_eq-Decides}
use Rattle.std.proofs.lemmas.Bool.{and_parts, and_from, leb-true, le-leb, false≢true, not-true}
use Rattle.texts.specs.declared.refusal.Fault.{Fault}
use Rattle.texts.specs.Pieces.{pieces}
use Rattle.texts.proofs.Answered.{no_value}
use Rattle.texts.proofs.Cuts.{joined_pieces}
use Rattle.texts.specs.Writing.{one_line, Written}
use Rattle.texts.specs.Texts.{numbered, both, lines, text, text_of, Writable, Exact}

-- PIECES

-- a line in front is the first piece
line_first : (l zs : List ℕ) → one_line l ≡ true → pieces 10 (l ++ zs) ≡ l ∷ pieces 10 zs
line_first [] zs is = absurd (false≢true is)
line_first (b ∷ []) zs is = rw is
line_first (b ∷ c ∷ cs) zs is =
    let parts = and_parts (not (eqb b 10)) (one_line (c ∷ cs)) is in
    rw (not-true (eqb b 10) parts.0, line_first (c ∷ cs) zs parts.1)

-- ROWS

both_good : {X E : Type 0} (r : Result X E) (rs : Result (List X) E) (xs : List X) → both r rs ≡ Ok xs → (x : X) × (ys : List X) × (r ≡ Ok x) × (rs ≡ Ok ys) × (xs ≡ x ∷ ys)
both_good (Ok x) (Ok ys) xs is = let e : xs ≡ x ∷ ys = cc in (x, ys, refl, refl, e)
both_good (Ok x) (Err e) xs is = no_value is
both_good (Err e) rs xs is = no_value is

numbered_good : {X : Type 0} (n : ℕ) (r : Result X Fault) (x : X) → numbered n r ≡ Ok x → r ≡ Ok x
numbered_good n (Ok y) x is = let e : y ≡ x = cc in ap Ok e
numbered_good n (Err f) x is = no_value is

module _ {X : Type 0} {f : List ℕ → Result X Fault} {written : X → List ℕ} {writable : X → Bool} (law : Written one_line f written writable) where
  abbrev AllFit : List X → Type 0
  AllFit = AllByRecursion (λ x. writable x ≡ true)

  cons_says : (l : List ℕ) (x : X) (ls : List (List ℕ)) (ys xs : List X) → xs ≡ x ∷ ys → l ≡ written x → ls ≡ map written ys → l ∷ ls ≡ map written xs
  cons_says l x ls ys xs is first more = rw (is, first, more)

  pub rows_say : (n : ℕ) (ls : List (List ℕ)) (xs : List X) → lines f n ls ≡ Ok xs → (ls ≡ map written xs) × AllFit xs
  rows_say n [] xs is = let e : xs ≡ [] = cc in (rw e, rw e tt)
  rows_say n (l ∷ ls) xs is =
      let g = both_good (numbered n (f l)) (lines f (n + 1) ls) xs is in
      let first = law.read l g.0 (numbered_good n (f l) g.0 g.2) in
      let more = rows_say (n + 1) ls g.1 g.3 in
      (cons_says l g.0 ls g.1 xs g.4 first.1 more.0, subst AllFit (sym g.4) (first.0, more.1))

  rows_back : (n : ℕ) (xs : List X) → AllFit xs → lines f n (map written xs) ≡ Ok xs
  rows_back n [] all = refl
  rows_back n (x ∷ xs) all = rw (law.back x all.0, rows_back (n + 1) xs all.1)

  pieces_back : (xs : List X) → AllFit xs → pieces 10 (concat (map written xs)) ≡ map written xs
  pieces_back [] all = refl
  pieces_back (x ∷ xs) all = line_first (written x) (concat (map written xs)) (law.shaped x all.0) ∙ ap (λ ls. written x ∷ ls) (pieces_back xs all.1)

  -- TEXTS

  module _ (header : List ℕ) (least most : ℕ) where
    says_by : (bs : List ℕ) (xs : List X) (a b : Bool) → bytes_eq header (take (length header) bs) ≡ a → (leb least (length (pieces 10 (drop (length header) bs))) && leb (length (pieces 10 (drop (length header) bs))) most) ≡ b → text header f least most bs ≡ Ok xs → Writable writable least most xs × (bs ≡ text_of header written xs)
    says_by bs xs true true h n is =
        let rest = drop (length header) bs in
        let r = rows_say 2 (pieces 10 rest) xs (rw (h, n) at is) in
        let count = and_parts (leb least (length (pieces 10 rest))) (leb (length (pieces 10 rest)) most) n in
        let low = leb-true least (length (pieces 10 rest)) count.0 in
        let high = leb-true (length (pieces 10 rest)) most count.1 in
        let size = ap length r.0 ∙ length-map xs written in
        let head = (bytes_eq-Decides header (take (length header) bs)).0 h in (
          record { enough = omega arith; few = omega arith; each = r.1 },
          sym (take-append-drop (length header) bs) ∙ ap (λ t. t ++ rest) (sym head) ∙ ap (λ t. header ++ t) (sym (joined_pieces 10 rest) ∙ ap concat r.0),
        )
    says_by bs xs true false h n is = no_value (rw (h, n) at is)
    says_by bs xs false b h n is = no_value (rw h at is)

    text_back : (xs : List X) → Writable writable least most xs → text header f least most (text_of header written xs) ≡ Ok xs
    text_back xs ok =
        let t = concat (map written xs) in
        let lines = pieces_back xs ok.each in
        let size : length (pieces 10 t) ≡ length xs = ap length lines ∙ length-map xs written in
        let head : bytes_eq header (take (length header) (header ++ t)) ≡ true = rw (take-append_seam header t) ((bytes_eq-Decides header header).1 refl) in
        let count : (leb least (length (pieces 10 t)) && leb (length (pieces 10 t)) most) ≡ true = rw size (and_from _ _ (le-leb least (length xs) ok.enough) (le-leb (length xs) most ok.few)) in
        rw (head, drop-append_seam header t, count, lines) (rows_back 2 xs ok.each)

    pub exact : (bs : List ℕ) → Exact header f written writable least most bs
    exact bs = record {
      says = λ xs is. says_by bs xs (bytes_eq header (take (length header) bs)) _ refl refl is;
      said = λ xs ok is. rw is (text_back xs ok);
    }
