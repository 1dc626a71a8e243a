use Rattle.std.proofs.Common.{◌∙◌}
use Rattle.matching.proofs.Ranks.{first_none, first_some}
use Rattle.matching.proofs.trade.first_on.Goals as goal

pub returns-in_err-place : goal.returns-in_err-place
returns-in_err-place c = c.from_residual.ensures ∙ first_none c.args.side c.args.line.now c.in_err-place.ensures

pub returns : goal.returns
returns c = first_some c.args.side c.args.line.now c.in_ok-place.place c.in_ok-place.ensures _
