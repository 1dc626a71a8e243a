-- Each kind of field reads what is written, and nothing else.
use Rattle.std.specs.Prelude.{◌≡◌, ℕ, ◌<◌, Bool, true, false, cond, not, ◌&&◌, ◌||◌, List, [], ◌∷◌, Some, None, Ok, Err, decimal, Option, ◌==◌, refl}
use Rattle.std.proofs.Common.{sym, ap, ◌∙◌, arith, rules}
use Rattle.std.specs.Option.{unwrap_or}
use Rattle.std.specs.Str.{bytes_eq}
use Rattle.std.proofs.lemmas.Slice.Eq.{bytes_eq-Decides}
use Rattle.std.proofs.lemmas.Bool.{ltb-true, lt-ltb, leb-true, eqb-true, and_parts, or_right}
use Rattle.std.proofs.lemmas.Bool.Decides.{nat_tests}
use Rattle.market.specs.declared.refusal.Refusal.TheVariants.{OutOfRange}
use Rattle.market.specs.declared.row.Kind.{Kind}
use Rattle.market.specs.declared.row.Kind.TheVariants.{Limit, Ioc, Market, Hidden, NonRoutable}
use Rattle.market.specs.declared.side.Side.{Side}
use Rattle.market.specs.declared.side.Side.TheVariants.{Buy, Sell}
use Rattle.market.specs.Prices.{on_grid}
use Rattle.market.specs.Quotes.{quotable}
use Rattle.market.specs.Venues.{is_venue}
use Rattle.texts.specs.declared.field.CallWord.{CallWord}
use Rattle.texts.specs.declared.field.CallWord.TheVariants.{Enter, Amend, Cancel, Advance}
use Rattle.texts.specs.declared.field.Unused.{Unused}
use Rattle.texts.proofs.Answered.{no_value}
use Rattle.texts.specs.Numbers.{digit, number, Decimal}
use Rattle.texts.specs.Writing.{plain, Written}
use Rattle.texts.specs.FieldKinds.{ranged, is_number, is_firm, grid_price_text, is_grid_price, priced, price_or_none_text, is_price_or_none, venue_number_text, is_venue_number, word, any, side_field, side_text, kind_field, kind_text, call_word_field, call_word_text, unused_field, unused_text}
use Rattle.texts.proofs.Decimals.{all_digits, own, read_back, number_law}
use Rattle.std.proofs.lemmas.Fmt.{digits_decimal}

-- NUMBERS

plain_digit : (c : ℕ) (t : Bool) → digit c ≡ true → t ≡ true → (not (c == 44) && not (c == 10) && t) ≡ true
plain_digit c t d h = grind (arith, nat_tests)

plain_digits : (cs : List ℕ) → all_digits cs ≡ true → plain cs ≡ true
plain_digits [] h = refl
plain_digits (c ∷ cs) h = let parts = and_parts (digit c) (all_digits cs) h in plain_digit c (plain cs) parts.0 (plain_digits cs parts.1)

plain_decimal : (n : ℕ) → n < 4294967296 → plain (decimal n) ≡ true
plain_decimal n small = plain_digits (decimal n) (digits_decimal own n (omega arith))

-- The values of a kind of field are numbers in a range.
pub record Coded {X : Type 0} (test : ℕ → Bool) (value : ℕ → X) (text : X → List ℕ) (writable : X → Bool) : Type 0 where
  pub code : X → ℕ
  pub texts : (x : X) → text x ≡ decimal (code x)
  pub valued : (n : ℕ) → n < 4294967296 → test n ≡ true → (code (value n) ≡ n) × (writable (value n) ≡ true)
  pub coded : (x : X) → writable x ≡ true → (code x < 4294967296) × (test (code x) ≡ true) × (value (code x) ≡ x)

module _ {X : Type 0} {test : ℕ → Bool} {value : ℕ → X} {text : X → List ℕ} {writable : X → Bool} (c : Coded test value text writable) where
  in_range : (bs : List ℕ) (n : ℕ) (t : Bool) (x : X) → Decimal bs (Some n) → test n ≡ t → cond t (Ok (value n)) (Err OutOfRange) ≡ Ok x → (writable x ≡ true) × (bs ≡ text x)
  in_range bs n true x d is ok =
      let e : value n ≡ x = cc in
      let v = c.valued n d.0 is in
      (rw (← e) v.1, d.1 ∙ ap decimal (sym v.0) ∙ sym (c.texts (value n)) ∙ ap text e)
  in_range bs n false x d is ok = no_value ok

  read_in : (bs : List ℕ) (o : Option ℕ) (x : X) → Decimal bs o → ranged test value o ≡ Ok x → (writable x ≡ true) × (bs ≡ text x)
  read_in bs None x d is = no_value is
  read_in bs (Some n) x d is = in_range bs n (test n) x d refl is

  pub numbers_written : Written plain (λ bs. ranged test value (number bs)) text writable
  numbers_written = record {
    read = λ bs x is. read_in bs (number bs) x (number_law bs (number bs) refl) is;
    back = λ x ok. let k = c.coded x ok in rw (c.texts x, read_back (c.code x) k.0, k.1) (ap Ok k.2);
    shaped = λ x ok. rw (c.texts x) (plain_decimal (c.code x) (c.coded x ok).0);
  }

pub plain_number : Coded (λ _. true) (λ n. n) decimal is_number
plain_number = record {
  code = λ n. n;
  texts = λ n. refl;
  valued = λ n small _. (refl, lt-ltb n 4294967296 small);
  coded = λ n ok. (ltb-true n 4294967296 ok, refl, refl);
}

pub firm_number : Coded is_firm (λ n. n) decimal is_firm
firm_number = record {
  code = λ n. n;
  texts = λ n. refl;
  valued = λ n small ok. (refl, ok);
  coded = λ n ok. let h = leb-true n 65535 ok in (omega arith, ok, refl);
}

grid_number : (n : ℕ) → on_grid n ≡ true → (n < 4294967296) × ((n == 0) ≡ false)
grid_number n h = (grind (arith, nat_tests), grind (arith, nat_tests))

pub grid_price : Coded on_grid (λ n. record { price = n }) grid_price_text is_grid_price
grid_price = record {
  code = λ x. x.price;
  texts = λ x. refl;
  valued = λ n small ok. (refl, ok);
  coded = λ x ok. ((grid_number x.price ok).0, ok, refl);
}

venue_small : (n : ℕ) → is_venue n ≡ true → n < 4294967296
venue_small n h = grind (arith, nat_tests)

pub venue_number : Coded is_venue (λ n. record { number = n }) venue_number_text is_venue_number
venue_number = record {
  code = λ x. x.number;
  texts = λ x. refl;
  valued = λ n small ok. (refl, ok);
  coded = λ x ok. (venue_small x.number ok, ok, refl);
}

priced_back : (n : ℕ) (t : Bool) → (n == 0) ≡ t → (t || on_grid n) ≡ true → (unwrap_or (cond t None (Some n)) 0 ≡ n) × (quotable (cond t None (Some n)) ≡ true)
priced_back n true z h = (sym (eqb-true n 0 z), refl)
priced_back n false z h = (refl, h)

priced_code : (o : Option ℕ) → quotable o ≡ true → (unwrap_or o 0 < 4294967296) × ((unwrap_or o 0 == 0 || on_grid (unwrap_or o 0)) ≡ true) × (priced (unwrap_or o 0) ≡ o)
priced_code None h = (omega arith, refl, refl)
priced_code (Some p) h = let g = grid_number p h in (g.0, or_right (p == 0) (on_grid p) h, rw g.1)

pub price_or_none : Coded (λ n. (n == 0) || on_grid n) (λ n. record { price = priced n }) price_or_none_text is_price_or_none
price_or_none = record {
  code = λ x. unwrap_or x.price 0;
  texts = λ x. refl;
  valued = λ n small ok. priced_back n (n == 0) refl ok;
  coded = λ x ok. let k = priced_code x.price ok in (k.0, k.1, ap (λ o. record { price = o }) k.2);
}

-- WORDS

same_from : (bs w : List ℕ) → bytes_eq bs w ≡ true → bs ≡ w
same_from bs w h = search (rules, bytes_eq-Decides bs w)

-- each value behind its word
abbrev words : {X : Type 0} → (X → List ℕ) → List X → List (List ℕ × X)
words text [] = []
words text (x ∷ xs) = (text x, x) ∷ words text xs

module _ {X : Type 0} (text : X → List ℕ) where
  pub word_read : (xs : List X) (bs : List ℕ) (x : X) → word (words text xs) bs ≡ Ok x → bs ≡ text x
  word_read [] bs x is = no_value is
  word_read (y ∷ ys) bs x is = chosen (bytes_eq bs (text y)) refl is (word_read ys bs x)
    where
      chosen : (t : Bool) → bytes_eq bs (text y) ≡ t → cond t (Ok y) (word (words text ys) bs) ≡ Ok x → (word (words text ys) bs ≡ Ok x → bs ≡ text x) → bs ≡ text x
      chosen true same is more = let e : y ≡ x = cc in same_from bs (text y) same ∙ ap text e
      chosen false same is more = more is

  -- a word that the list has, and that stands for one value
  pub words_written : (xs : List X) → ((x : X) → word (words text xs) (text x) ≡ Ok x) → ((x : X) → plain (text x) ≡ true) → Written plain (word (words text xs)) text any
  words_written xs back plainly = record {
    read = λ bs x is. (refl, word_read xs bs x is);
    back = λ x _. back x;
    shaped = λ x _. plainly x;
  }

side_back : (x : Side) → side_field (side_text x) ≡ Ok x
side_back Buy = refl
side_back Sell = refl

side_plain : (x : Side) → plain (side_text x) ≡ true
side_plain Buy = refl
side_plain Sell = refl

pub side_written : Written plain side_field side_text any
side_written = words_written side_text (Buy ∷ Sell ∷ []) side_back side_plain

kind_back : (x : Kind) → kind_field (kind_text x) ≡ Ok x
kind_back Limit = refl
kind_back Ioc = refl
kind_back Market = refl
kind_back Hidden = refl
kind_back NonRoutable = refl

kind_plain : (x : Kind) → plain (kind_text x) ≡ true
kind_plain Limit = refl
kind_plain Ioc = refl
kind_plain Market = refl
kind_plain Hidden = refl
kind_plain NonRoutable = refl

pub kind_written : Written plain kind_field kind_text any
kind_written = words_written kind_text (Limit ∷ Ioc ∷ Market ∷ Hidden ∷ NonRoutable ∷ []) kind_back kind_plain

call_word_back : (x : CallWord) → call_word_field (call_word_text x) ≡ Ok x
call_word_back Enter = refl
call_word_back Amend = refl
call_word_back Cancel = refl
call_word_back Advance = refl

call_word_plain : (x : CallWord) → plain (call_word_text x) ≡ true
call_word_plain Enter = refl
call_word_plain Amend = refl
call_word_plain Cancel = refl
call_word_plain Advance = refl

pub call_word_written : Written plain call_word_field call_word_text any
call_word_written = words_written call_word_text (Enter ∷ Amend ∷ Cancel ∷ Advance ∷ []) call_word_back call_word_plain

unused_back : (x : Unused) → unused_field (unused_text x) ≡ Ok x
unused_back x = refl

unused_plain : (x : Unused) → plain (unused_text x) ≡ true
unused_plain x = refl

pub unused_written : Written plain unused_field unused_text any
unused_written = words_written unused_text (record {} ∷ []) unused_back unused_plain
