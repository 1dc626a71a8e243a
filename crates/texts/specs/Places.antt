-- Where the reader of a text's lines stands, and how it goes on.
use Rattle.std.specs.Prelude.{◌≡◌, ℕ, List, drop, Option, Result}
use Rattle.std.specs.Iterator.{YieldsFirst}
use Rattle.texts.specs.declared.lines.Lines.{Lines}
use Rattle.texts.specs.declared.refusal.Fault.{Fault}
use Rattle.texts.specs.declared.refusal.TextRefusal.{TextRefusal}
use Rattle.texts.specs.Pieces.{pieces}
use Rattle.texts.specs.Texts.{Place, rows_at, passed}

abbrev pub place : {L : Type 0} → Lines L → Place
place l = record { number = l.number; left = pieces 10 (drop l.place l.bytes.now) }

-- the first of the rows left is given, and the reader stands behind its line
pub record GivesRow {L : Type 0} (f : List ℕ → Result L Fault) (l : Lines L) (r : Option (Result L TextRefusal)) (after : Lines L) : Type 0 where
  pub row : YieldsFirst (λ m. rows_at f (place m)) l r after
  pub behind : place after ≡ passed (place l)
