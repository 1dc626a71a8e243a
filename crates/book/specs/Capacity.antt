-- How many rows of an order table a book uses, and the lines that fit.
use Rattle.std.specs.Prelude.{ℕ, ◌≤◌, min}
use Rattle.matching.specs.declared.line.Line.{Line}
use Rattle.matching.specs.Held.{size}

abbrev pub capacity : ℕ → ℕ
capacity rows = min rows 1024

-- the line fits the rows in use
abbrev pub Fits : Line → Type 0
Fits l = l.len ≤ capacity (size l)
