-- Where the reader of a script stands, and how it goes on.
use Rattle.std.specs.Prelude.{◌≡◌, ℕ, ◌+◌, List, length, take, Option, Result}
use Rattle.std.specs.Iterator.{YieldsFirst}
use Rattle.texts.specs.declared.refusal.TextRefusal.{TextRefusal}
use Rattle.texts.specs.Places.{place}
use Rattle.texts.specs.Texts.{rows_at}
use Rattle.texts.specs.declared.script.reader.Script.{Script}
use Rattle.texts.specs.declared.script.ScriptCall.{ScriptCall}
use Rattle.texts.specs.Scripts.{call_line}

-- the rows that it has yet to give
abbrev pub calls_left : Script → List (Result ScriptCall TextRefusal)
calls_left s = rows_at call_line (place s.lines)

-- the number of the next line
abbrev pub next_number : Script → ℕ
next_number s = (place s.lines).number

-- the first of the rows left is given, and its line is passed
pub record GivesCall (s : Script) (r : Option (Result ScriptCall TextRefusal)) (after : Script) : Type 0 where
  pub row : YieldsFirst calls_left s r after
  pub number : next_number after ≡ next_number s + length (take 1 (calls_left s))
