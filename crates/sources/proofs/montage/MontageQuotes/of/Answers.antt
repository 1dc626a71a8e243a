use Rattle.texts.specs.Montages.{venue_line}
use Rattle.texts.specs.Left.{left}
use Rattle.sources.proofs.Tables.{lines_proper, from_new, new_formed}
use Rattle.sources.proofs.montage.MontageQuotes.of.Goals as goal

pub invariant_of-result : goal.invariant_of-result
invariant_of-result c = record { well_formed = new_formed c.new.result.rows (left venue_line c.args.lines) c.new.ensures (lines_proper c.args.lines) }

pub returns : goal.returns
returns c = from_new c.new.result.rows (left venue_line c.args.lines) c.new.ensures (lines_proper c.args.lines)
