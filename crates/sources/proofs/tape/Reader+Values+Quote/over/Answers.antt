use Rattle.std.proofs.Common.{ap, ◌∙◌}
use Rattle.sources.specs.Sources.{or_stand_in}
use Rattle.sources.proofs.StayFormed.{tape_told}
use Rattle.sources.proofs.tape.Reader+Values+Quote.over.Goals as goal

pub returns : goal.returns
returns c = c.of.ensures ∙ ap or_stand_in c.tape_lines.ensures.values ∙ tape_told c.args.text.now
