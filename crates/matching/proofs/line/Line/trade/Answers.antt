use Rattle.std.proofs.Common.{◌≡◌, [], ◌∷◌, Some, sym, ap, ◌∙◌, subst, arith}
use Rattle.rules.specs.Trading.{next_fill, fill_events}
use Rattle.matching.specs.Held.{held}
use Rattle.matching.specs.Changes.{Makes}
use Rattle.matching.specs.Reported.{Reported}
use Rattle.matching.proofs.Making.{held_length}
use Rattle.matching.proofs.Going.{Known, turn, ends, known, shorter}
use Rattle.matching.proofs.line.Line.trade.Goals as goal
use Rattle.matching.proofs.line.Line.trade.Goals.{In-Some}

found : (c : In-Some) → Some c.in-Some.fill ≡ next_fill c.loop-fill.left c.args.bound (held c.loop-fill.self)
found c = c.in-Some.ensures ∙ ap (next_fill c.loop-fill.left c.args.bound) c.orders.ensures

facts : (c : In-Some) → Known c.loop-fill.left (held c.loop-fill.self) c.in-Some.fill
facts c = known c.loop-fill.left c.args.bound (held c.loop-fill.self) c.in-Some.fill (found c)

pub take_shares-requires : goal.take_shares-requires
take_shares-requires c = let k = facts (goal.at.take_shares-requires c).In-Some in (omega (arith, k.within, held_length c.loop-fill.self), k.resting_formed c.loop-fill.self.formed)

pub loop-fill-preserved : goal.loop-fill-preserved
loop-fill-preserved c =
    let i = (goal.at.loop-fill-preserved c).In-Some in
    let k = facts i in
    let s = shorter k c.loop-fill.self.len c.take_shares.new.self.len c.take_shares.ensures.len (omega (arith, held_length c.loop-fill.self)) in
    let fewer = s.0 in
    let n = c.write.ensures.next_is in
    record {
      going = turn c.loop-fill.invariant.going c.in-Some.fill (found i) c.take_shares.ensures.line (subst (λ r. Reported (r ∷ []) c.loop-fill.reports c.write.new.self) c.into.ensures c.write.ensures);
      shorter = omega arith;
      most = omega (arith, c.loop-fill.invariant.room k.some);
      room = λ more. omega (arith, s.1 more, c.loop-fill.invariant.room k.some);
    }

pub returns-clause-made : goal.returns-clause-made
returns-clause-made c =
    let g = c.loop-fill.invariant.going in
    subst (λ fs. Makes (fill_events fs) c.args.self.now c.args.reports.now c.loop-fill.self c.loop-fill.reports) (sym (ends g (c.in_default.ensures ∙ ap (next_fill c.loop-fill.left c.args.bound) c.orders.ensures))) g.made
