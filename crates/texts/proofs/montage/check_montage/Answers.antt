use Rattle.std.proofs.Common.{length, drop, sym, subst}
use Rattle.texts.specs.Pieces.{pieces}
use Rattle.texts.specs.Texts.{Placed}
use Rattle.texts.specs.Montages.{montage_header, venue_line}
use Rattle.texts.proofs.Exactness.{exact}
use Rattle.texts.proofs.LinesWritten.{venue_written, venue_placed}
use Rattle.texts.proofs.Refusing.{placed}
use Rattle.texts.proofs.montage.check_montage.Goals as goal

pub returns-clause-law : goal.returns-clause-law
returns-clause-law c = exact venue_written montage_header 1 65535 c.args.text.now

pub returns-clause-place : goal.returns-clause-place
returns-clause-place c =
    subst (Placed (pieces 10 (drop (length montage_header) c.args.text.now))) (sym c.check.ensures) (placed venue_line venue_placed montage_header 1 65535 c.args.text.now)
