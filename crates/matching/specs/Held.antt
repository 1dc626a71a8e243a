-- What a line holds, and what a change leaves of it.
use Rattle.std.specs.Prelude.{◌≡◌, ℕ, List, length, take}
use Rattle.market.specs.declared.row.OrderRow.{OrderRow}
use Rattle.matching.specs.declared.line.Line.{Line}

-- the orders in line
abbrev pub held : Line → List OrderRow
held l = take l.len l.rows.now

-- the size of the table
abbrev pub size : Line → ℕ
size l = length l.rows.now

-- after a change the line, in the same table, holds the orders
pub record Becomes (line : Line) (orders : List OrderRow) (line' : Line) : Type 0 where
  pub holds : held line' ≡ orders
  pub same_size : size line' ≡ size line
  pub same_table : line'.rows.ghost_name ≡ line.rows.ghost_name
