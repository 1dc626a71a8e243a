-- The quotes that a tape has to give.
use Rattle.std.specs.Prelude.{ℕ, List, [], ◌∷◌, None}
use Rattle.std.specs.Result.{result_unwrap_or}
use Rattle.market.specs.declared.quote.Quote.{Quote}
use Rattle.texts.specs.Tapes.{tape}

-- the quote that stands in for those of a text that is refused
abbrev pub the_quote : Quote
the_quote = record { bid = None; offer = None; reference = 100 }

-- the quotes of a text, or that one if it is no tape
abbrev pub quotes_in : List ℕ → List Quote
quotes_in bs = result_unwrap_or (tape bs) (the_quote ∷ [])
