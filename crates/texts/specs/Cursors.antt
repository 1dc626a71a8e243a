-- Where the reader of a line's fields stands.
use Rattle.texts.specs.declared.fields.Fields.{Fields}
use Rattle.texts.specs.Cuts.{cuts}
use Rattle.texts.specs.Fields.{Cursor}

abbrev pub cursor : Fields → Cursor
cursor f = record { last = f.last; column = f.column; left = cuts f.left }
