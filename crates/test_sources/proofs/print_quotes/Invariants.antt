use Rattle.std.proofs.Common.{length}
use Rattle.test_sources.proofs.print_quotes.Given as goal

abbrev pub decreases-loop-source : goal.decreases-loop-source
decreases-loop-source g l = length (g.S.QuoteSource.quotes l.source)
