use Rattle.std.proofs.Common.{sym, ◌∙◌}
use Rattle.sources.proofs.StayFormed.{next_formed}
use Rattle.sources.proofs.source.reading.ReaderQuoteSource.advance.Goals as goal

pub invariant_of-self-2 : goal.invariant_of-self-2
invariant_of-self-2 g c =
    let later = c.args.self.now.later in
    record { well_formed = next_formed (g.Q.Quotes.coming later) c.in_ok-self.field-0 (sym c.in_ok-self.ensures.ok_part ∙ c.next_quote.ensures.value) (g.Q.Quotes.each_formed later) }
