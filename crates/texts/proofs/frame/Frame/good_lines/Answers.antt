use Rattle.std.proofs.Common.{sym, ap, ◌∙◌}
use Rattle.texts.specs.Texts.{value_lines, all_good}
use Rattle.texts.proofs.Reading.{text_good}
use Rattle.texts.proofs.frame.Frame.good_lines.Goals as goal

pub returns-in-Ok-clause-rows : goal.returns-in-Ok-clause-rows
returns-in-Ok-clause-rows g c =
    ap all_good c.lines_or_none.ensures.rows ∙ text_good g.L.Line.meaning (value_lines c.args.self.header.now c.args.self.least c.args.self.most c.args.bytes.now) c.in-Ok.field-0 (sym c.in-Ok.is ∙ c.check.ensures)
