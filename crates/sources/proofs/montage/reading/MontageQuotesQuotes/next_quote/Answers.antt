use Rattle.texts.specs.Montages.{venue_line}
use Rattle.texts.specs.Left.{left}
use Rattle.sources.proofs.Tables.{lines_proper, first_known}
use Rattle.sources.proofs.montage.reading.MontageQuotesQuotes.next_quote.Goals as goal

pub quote_after-requires : goal.quote_after-requires
quote_after-requires c = first_known (left venue_line c.args.self.now.lines) _ c.in_ok-line.line (lines_proper c.args.self.now.lines) c.in_ok-line.ensures.steps.value
