use Rattle.std.proofs.Common.{◌∙◌}
use Rattle.matching.proofs.Finding.{found, missed}
use Rattle.matching.proofs.find.find.Goals as goal

pub returns-in_err-place : goal.returns-in_err-place
returns-in_err-place c = c.from_residual.ensures ∙ missed c.args.number c.args.line.now c.in_err-place.ensures

pub returns : goal.returns
returns c = found c.args.number c.args.line.now c.in_ok-place.place _ c.in_ok-place.ensures
