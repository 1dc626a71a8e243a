use Rattle.texts.proofs.Reading.{from_line_two}
use Rattle.texts.proofs.script.reader.Script.of.Goals as goal

pub returns-clause-number : goal.returns-clause-number
returns-clause-number c = from_line_two _ _ c.in_ok-lines.ensures.lines
