use Rattle.std.proofs.Common.{refl}
use Rattle.sources.proofs.StayFormed.{first_formed}
use Rattle.sources.proofs.source.Reader.of.Goals as goal

pub invariant_of-result : goal.invariant_of-result
invariant_of-result g c =
    record { well_formed = rw c.unwrap_or-quote.ensures (first_formed (g.Q.Quotes.coming c.args.later) _ _ c.next_quote.ensures.value (g.Q.Quotes.each_formed c.args.later) refl) }
