-- What is left of the values of a text, and how their reader goes on.
use Rattle.std.specs.Prelude.{◌≡◌, ℕ, List, Option, Result}
use Rattle.std.specs.Iterator.{YieldsFirst}
use Rattle.texts.specs.declared.refusal.Fault.{Fault}
use Rattle.texts.specs.declared.values.Values.{Values}
use Rattle.texts.specs.Places.{place}
use Rattle.texts.specs.Texts.{passed}
use Rattle.texts.specs.Values.{values}

abbrev pub left : {L : Type 0} {g : _} → (List ℕ → Result L Fault) → Values L g → List L
left f v = values f (place v.lines)

-- the first of the values left is given, and its line is passed
pub record GivesValue {L : Type 0} {g : _} (f : List ℕ → Result L Fault) (v : Values L g) (r : Option L) (after : Values L g) : Type 0 where
  pub value : YieldsFirst (left f) v r after
  pub behind : place after.lines ≡ passed (place v.lines)
