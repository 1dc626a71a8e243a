use Rattle.std.proofs.Common.{length, drop, sym, subst}
use Rattle.texts.specs.Pieces.{pieces}
use Rattle.texts.specs.Texts.{Placed}
use Rattle.texts.specs.Tapes.{tape_header, quote_line}
use Rattle.texts.proofs.Exactness.{exact}
use Rattle.texts.proofs.LinesWritten.{quote_written, quote_placed}
use Rattle.texts.proofs.Refusing.{placed}
use Rattle.texts.proofs.tape.check_tape.Goals as goal

pub returns-clause-law : goal.returns-clause-law
returns-clause-law c = exact quote_written tape_header 1 65535 c.args.text.now

pub returns-clause-place : goal.returns-clause-place
returns-clause-place c =
    subst (Placed (pieces 10 (drop (length tape_header) c.args.text.now))) (sym c.check.ensures) (placed quote_line quote_placed tape_header 1 65535 c.args.text.now)
