-- A fault in a line of a text, and how the refusal of a text is printed.
use Rattle.std.specs.Prelude.{ℕ, List, codes, decimal}
use Rattle.market.specs.declared.refusal.Refusal.TheVariants.{BadField}
use Rattle.market.specs.Refusals.{number_of}
use Rattle.market.specs.Reports.{◌⸴◌}
use Rattle.texts.specs.declared.refusal.Fault.{Fault}
use Rattle.texts.specs.declared.refusal.TextRefusal.{TextRefusal}

-- a field at the column is bad, missing or too many
abbrev pub bad_field : ℕ → Fault
bad_field col = record { refusal = BadField; column = col }

-- the fault in the line of the number n
abbrev pub in_line : ℕ → Fault → TextRefusal
in_line n f = record { refusal = f.refusal; line = n; column = f.column }

-- its number, line and column, and a 0, in the shape of a report
abbrev pub refusal_text : TextRefusal → List ℕ
refusal_text e = codes "E" ⸴ decimal (number_of e.refusal) ⸴ decimal e.line ⸴ decimal e.column ⸴ codes "0"
