use Rattle.std.proofs.Common.{[], ◌∷◌, ◌++◌, ◌∙◌, subst}
use Rattle.matching.specs.Held.{held, Becomes}
use Rattle.matching.specs.Reported.{Reported}
use Rattle.matching.proofs.Following.{rises_emptied, rises_rests}
use Rattle.matching.proofs.line.Line.reprice_rising.Goals as goal

pub returns-then-left-eq0-clause-made : goal.returns-then-left-eq0-clause-made
returns-then-left-eq0-clause-made c =
    let told = subst (λ r. Reported (r ∷ []) c.args.reports.now c.write.new.self) c.report_of.ensures c.write.ensures in
    rises_emptied c.args.quote c.args.number c.args.self.now c.args.reports.now c.in-Some.found c.in-Some.ensures.row _ (c.row-new.ensures.value ∙ c.repriced_order.ensures) _ c.into.ensures c.remove.ensures.line told c.trade-left.ensures.made _ c.trade-left.ensures.left
    c.if-left-eq0.true

pub returns-clause-made : goal.returns-clause-made
returns-clause-made c =
    let told = subst (λ r. Reported (r ∷ []) c.args.reports.now c.write.new.self) c.report_of.ensures c.write.ensures in
    let rests = subst (λ r. Becomes c.trade-left.new.self (held c.trade-left.new.self ++ r ∷ []) c.append.new.self) c.known.ensures c.append.ensures.line in
    rises_rests c.args.quote c.args.number c.args.self.now c.args.reports.now c.in-Some.found c.in-Some.ensures.row _ (c.row-new.ensures.value ∙ c.repriced_order.ensures) _ c.into.ensures c.remove.ensures.line told c.trade-left.ensures.made _ c.trade-left.ensures.left
    c.if-left-eq0.false rests
