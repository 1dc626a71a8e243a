use Rattle.std.proofs.Common.{inl, arith}
use Rattle.texts.proofs.Cuts.{pieces_few}
use Rattle.texts.proofs.frame.Frame.value_lines.Goals as goal

pub count-count-requires-clause-fits : goal.count-count-requires-clause-fits
count-count-requires-clause-fits c =
    let cases = rw c.in_ok-rest.ensures.ok_part at c.strip_prefix.ensures.cases in
    let few = pieces_few 10 c.in_ok-rest.rest.now in
    rw c.of.ensures (inl (omega arith))
