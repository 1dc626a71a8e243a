-- The check of an order table before a book is opened.
use Rattle.std.specs.Prelude.{ℕ, cond, ◌&&◌, Ok, Err, Result, nat_le}
use Rattle.market.specs.declared.refusal.Refusal.{Refusal}
use Rattle.market.specs.declared.refusal.Refusal.TheVariants.{OrderTableSize}

-- a table of 0 rows, or of more than 1,024, is refused
abbrev pub table_check : ℕ → Result (Unit {0}) Refusal
table_check rows = cond (nat_le 1 rows && nat_le rows 1024) (Ok tt) (Err OrderTableSize)
