use Rattle.std.proofs.Common.{◌<◌, [], ◌∷◌, subst, arith}
use Rattle.matching.specs.Reported.{Reported}
use Rattle.matching.proofs.Arriving.{arrived, stays_formed}
use Rattle.matching.proofs.line.Line.arrive.Goals as goal

pub keep-requires-clause-formed : goal.keep-requires-clause-formed
keep-requires-clause-formed c =
    let some : 0 < c.trade-left.result.shares = omega arith in
    stays_formed c.args.quote c.args.entry c.args.self.now _ c.bound.ensures _ c.trade-left.ensures.left some _ c.remainder-remainder.ensures c.requires.shares

pub returns-clause-made : goal.returns-clause-made
returns-clause-made c =
    let some : 0 < c.trade-left.result.shares = omega arith in
    let told = subst (λ r. Reported (r ∷ []) c.trade-left.new.reports c.write.new.self) c.report.ensures c.write.ensures in
    arrived c.args.quote c.args.entry c.args.self.now _ c.bound.ensures _ c.trade-left.ensures.left some _ c.remainder-remainder.ensures c.trade-left.ensures.made c.keep.ensures.line told
