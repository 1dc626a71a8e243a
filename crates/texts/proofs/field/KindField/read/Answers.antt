use Rattle.std.proofs.Common.{arith, rules}
use Rattle.std.specs.Prelude.{codes}
use Rattle.std.proofs.lemmas.Slice.Eq.{text_from_reads}
use Rattle.texts.proofs.field.KindField.read.Goals as goal

pub returns-in-market : goal.returns-in-market
returns-in-market c = rw (text_from_reads c.args.field.now (codes "market") (omega arith) (search rules))

pub returns-in-hidden : goal.returns-in-hidden
returns-in-hidden c = rw (text_from_reads c.args.field.now (codes "hidden") (omega arith) (search rules))

pub returns-in-nonroute : goal.returns-in-nonroute
returns-in-nonroute c = rw (text_from_reads c.args.field.now (codes "nonroute") (omega arith) (search rules))
