-- The turn of an order in a pass of a repricing.
use Rattle.std.specs.Prelude.{ℕ, List}
use Rattle.market.specs.declared.quote.Quote.{Quote}
use Rattle.rules.specs.declared.repricing.Pass.{Pass}
use Rattle.rules.specs.declared.repricing.Pass.TheVariants.{First, Second}
use Rattle.rules.specs.Lines.{Line, Event}
use Rattle.rules.specs.Repricing.{fall, rise}

-- the events of the order with a number in the pass
abbrev pub turn : Quote → Pass → ℕ → Line → List Event
turn q First = fall q
turn q Second = rise q
