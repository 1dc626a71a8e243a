-- What is read as a number is what is printed of it.
use Rattle.std.specs.Prelude.{◌≡◌, ℕ, ◌+◌, ◌-◌, ◌*◌, ◌<◌, Bool, true, false, cond, ◌&&◌, ltb, List, [], ◌∷◌, Some, None, decimal, Option, ◌≢◌, nat_lt, refl}
use Rattle.std.proofs.Common.{sym, ap, subst, ◌∙◌, ⊎_elim, arith, rules}
use Rattle.std.proofs.lemmas.Fmt.{decimal-digits_value, digits_decimal, digits_value-decimal, decimal_digit, decimal_nonempty, first_decimal, length-decimal-le}
use Rattle.std.proofs.lemmas.Option.{none-some}
use Rattle.std.proofs.lemmas.Str.Parse.{IsNumeralModel, IsDigitsTest, FoldsDigits, numerals_by_fold}
use Rattle.std.proofs.lemmas.Bool.{cases_lt, ltb-true, lt-ltb}
use Rattle.std.proofs.lemmas.Bool.Decides.{nat_tests}
use Rattle.texts.specs.Numbers.{digit, digits, sized, below, number, Decimal}

abbrev pub all_digits : List ℕ → Bool
all_digits [] = true
all_digits (c ∷ cs) = digit c && all_digits cs

abbrev value_after : ℕ → List ℕ → ℕ
value_after n [] = n
value_after n (c ∷ cs) = value_after (n * 10 + (c - 48)) cs

telling : IsDigitsTest (λ ds. all_digits ds ≡ true)
telling = search rules

folding : FoldsDigits value_after
folding = search rules

pub own : IsNumeralModel (λ ds. all_digits ds ≡ true) (value_after 0)
own = numerals_by_fold _ telling value_after folding

one_more : (t : Bool) (rest : Option ℕ) (d : Bool) (v : ℕ) → rest ≡ cond d (Some v) None → cond t rest None ≡ cond (t && d) (Some v) None
one_more true rest d v is = is
one_more false rest d v is = refl

digits_are : (n : ℕ) (cs : List ℕ) → digits n cs ≡ cond (all_digits cs) (Some (value_after n cs)) None
digits_are n [] = refl
digits_are n (c ∷ cs) = one_more (digit c) _ (all_digits cs) _ (digits_are (n * 10 + (c - 48)) cs)

-- the number that is read, by its three conditions
number_is : (cs : List ℕ) → number cs ≡ cond (sized cs && all_digits cs && nat_lt (value_after 0 cs) 4294967296) (Some (value_after 0 cs)) None
number_is cs = rw (digits_are 0 cs) (by (sized cs) (all_digits cs))
  where
    by : (s d : Bool) → cond s (below 4294967296 (cond d (Some (value_after 0 cs)) None)) None ≡ cond (s && d && nat_lt (value_after 0 cs) 4294967296) (Some (value_after 0 cs)) None
    by true true = refl
    by true false = refl
    by false d = refl

printed : (cs : List ℕ) → sized cs ≡ true → all_digits cs ≡ true → value_after 0 cs < 4294967296 → cs ≡ decimal (value_after 0 cs)
printed cs s d small = sym (decimal-digits_value own cs d (grind (arith, nat_tests)) (λ zero. grind (arith, nat_tests)) (omega arith))

sized_decimal : (n : ℕ) → n < 4294967296 → sized (decimal n) ≡ true
sized_decimal n small =
    ⊎_elim (λ zero. rw (decimal_digit n (omega arith))) (λ some. let first = first_decimal n some (omega arith) in let has = decimal_nonempty n (omega arith) in let short = length-decimal-le 10 n (omega arith) (omega arith) (omega arith) in grind (arith, nat_tests)) (cases_lt n 1)

pub read_back : (n : ℕ) → n < 4294967296 → number (decimal n) ≡ Some n
read_back n small =
    let v = digits_value-decimal own n (omega arith) in
    let lt : ltb (value_after 0 (decimal n)) 4294967296 ≡ true = lt-ltb _ _ (omega arith) in
    number_is (decimal n) ∙ rw (sized_decimal n small, digits_decimal own n (omega arith), lt) (ap Some v)

pub never : (cs : List ℕ) → number cs ≡ None → (n : ℕ) → n < 4294967296 → cs ≢ decimal n
never cs none n small is = none-some n (sym none ∙ ap number is ∙ read_back n small)

by_conditions : (cs : List ℕ) (s d l : Bool) → sized cs ≡ s → all_digits cs ≡ d → nat_lt (value_after 0 cs) 4294967296 ≡ l → number cs ≡ cond (s && d && l) (Some (value_after 0 cs)) None → Decimal cs (cond (s && d && l) (Some (value_after 0 cs)) None)
by_conditions cs true true true s d l is = let small = ltb-true (value_after 0 cs) 4294967296 l in (small, printed cs s d small)
by_conditions cs true true false s d l is = never cs is
by_conditions cs true false l s d h is = never cs is
by_conditions cs false d l s h k is = never cs is

-- the law holds of what is read
pub number_law : (cs : List ℕ) (r : Option ℕ) → r ≡ number cs → Decimal cs r
number_law cs r is =
    let e = number_is cs in
    subst (Decimal cs) (sym (is ∙ e)) (by_conditions cs (sized cs) (all_digits cs) (nat_lt (value_after 0 cs) 4294967296) refl refl refl e)
