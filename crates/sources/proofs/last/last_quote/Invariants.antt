use Rattle.std.proofs.Common.{◌≡◌, length}
use Rattle.sources.specs.Sources.{last_only}
use Rattle.sources.proofs.last.last_quote.Given as goal

abbrev pub invariant-loop : goal.invariant-loop
invariant-loop g l = last_only (g.S.QuoteSource.quotes l.source) ≡ last_only (g.S.QuoteSource.quotes l.initial.source)

abbrev pub decreases-loop : goal.decreases-loop
decreases-loop g l = length (g.S.QuoteSource.quotes l.source)
