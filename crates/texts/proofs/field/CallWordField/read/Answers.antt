use Rattle.std.proofs.Common.{arith, rules}
use Rattle.std.specs.Prelude.{codes}
use Rattle.std.proofs.lemmas.Slice.Eq.{text_from_reads}
use Rattle.texts.proofs.field.CallWordField.read.Goals as goal

pub returns-in-cancel : goal.returns-in-cancel
returns-in-cancel c = rw (text_from_reads c.args.field.now (codes "cancel") (omega arith) (search rules))

pub returns-in-advance : goal.returns-in-advance
returns-in-advance c = rw (text_from_reads c.args.field.now (codes "advance") (omega arith) (search rules))
