-- The quotes of a source are formed.
use Rattle.std.proofs.Common.{◌≡◌, ℕ, true, List, [], ◌∷◌, Some, Ok, Err, Option, Result, unwrap_or, sym, refl, arith}
use Rattle.std.specs.Result.{result_unwrap_or}
use Rattle.std.proofs.lemmas.Bool.{and_parts}
use Rattle.std.proofs.lemmas.Option.{none-some}
use Rattle.market.specs.declared.quote.Quote.{Quote}
use Rattle.market.specs.Quotes.{formed, all_formed}
use Rattle.texts.specs.declared.refusal.TextRefusal.{TextRefusal}
use Rattle.texts.specs.Texts.{first_of}
use Rattle.texts.specs.Tapes.{tape_header, tape}
use Rattle.texts.proofs.Exactness.{exact}
use Rattle.texts.proofs.LinesWritten.{quote_written}
use Rattle.sources.specs.Sources.{or_stand_in}
use Rattle.sources.specs.Tapes.{the_quote, quotes_in}

pub next_formed : (qs : List Quote) (q : Quote) → Some q ≡ first_of qs → all_formed qs ≡ true → formed q ≡ true
next_formed [] q is h = absurd (none-some q (sym is))
next_formed (r ∷ qs) q is h = let e : q ≡ r = cc in rw e (and_parts (formed r) (all_formed qs) h).0

-- the first of the quotes, or another in its place
pub first_formed : (qs : List Quote) (r : Option Quote) (other : Quote) → r ≡ first_of qs → all_formed qs ≡ true → formed other ≡ true → formed (unwrap_or r other) ≡ true
first_formed [] r other is h o = rw is o
first_formed (q ∷ qs) r other is h o = rw is (and_parts (formed q) (all_formed qs) h).0

-- a tape has a quote
told : (bs : List ℕ) (r : Result (List Quote) TextRefusal) → tape bs ≡ r → or_stand_in (result_unwrap_or r []) ≡ result_unwrap_or r (the_quote ∷ [])
told bs (Ok []) is = let some = (((exact quote_written tape_header 1 65535 bs).says [] is).0).enough in absurd (omega arith)
told bs (Ok (q ∷ qs)) is = refl
told bs (Err e) is = refl

pub tape_told : (bs : List ℕ) → or_stand_in (result_unwrap_or (tape bs) []) ≡ quotes_in bs
tape_told bs = told bs (tape bs) refl
