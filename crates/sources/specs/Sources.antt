-- How a source of quotes goes on.
use Rattle.std.specs.Prelude.{List, [], ◌∷◌, Ok, Err, Result}
use Rattle.market.specs.declared.quote.Quote.{Quote}
use Rattle.market.specs.declared.refusal.Refusal.{Refusal}
use Rattle.market.specs.declared.refusal.Refusal.TheVariants.{NoFurtherQuote}
use Rattle.sources.specs.Tapes.{the_quote}

-- the answer to an advance, and the quotes that are left: the first goes if another follows
abbrev pub advanced : List Quote → Result (Unit {0}) Refusal × List Quote
advanced [] = (Err NoFurtherQuote, [])
advanced (q ∷ []) = (Err NoFurtherQuote, q ∷ [])
advanced (q ∷ r ∷ qs) = (Ok tt, r ∷ qs)

-- the quotes of a source: those of its text, or the one in their place where a refused text gives none
abbrev pub or_stand_in : List Quote → List Quote
or_stand_in [] = the_quote ∷ []
or_stand_in (q ∷ qs) = q ∷ qs

-- the last of the quotes, alone
abbrev pub last_only : List Quote → List Quote
last_only [] = []
last_only (q ∷ []) = q ∷ []
last_only (q ∷ r ∷ qs) = last_only (r ∷ qs)
