-- The refusals and their numbers.
use Rattle.std.specs.Prelude.{ℕ}
use Rattle.market.specs.declared.refusal.Refusal.{Refusal}
use Rattle.market.specs.declared.refusal.Refusal.TheVariants.{FirstLine, LineCount, BadField, OutOfRange, OrderTableSize, ReportTableSize, OldNumber, BadPrice, BadShares, NoFreeRow, NoSuchOrder, WrongState, NoFurtherQuote}

abbrev pub number_of : Refusal → ℕ
number_of FirstLine = 1
number_of LineCount = 2
number_of BadField = 3
number_of OutOfRange = 4
number_of OrderTableSize = 5
number_of ReportTableSize = 6
number_of OldNumber = 7
number_of BadPrice = 8
number_of BadShares = 9
number_of NoFreeRow = 10
number_of NoSuchOrder = 11
number_of WrongState = 12
number_of NoFurtherQuote = 13
