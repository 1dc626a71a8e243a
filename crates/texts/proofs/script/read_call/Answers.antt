use Rattle.std.proofs.Common.{length, sym, subst}
use Rattle.texts.specs.Fields.{AtAByte}
use Rattle.texts.proofs.CallsWritten.{call_written, call_placed}
use Rattle.texts.proofs.script.read_call.Goals as goal

pub returns-clause-law : goal.returns-clause-law
returns-clause-law c = call_written

pub returns-clause-place : goal.returns-clause-place
returns-clause-place c = λ some. subst (AtAByte (length c.args.line.now)) (sym c.call_of.ensures) (call_placed c.args.line.now some)
