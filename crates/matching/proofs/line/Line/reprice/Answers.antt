use Rattle.std.proofs.Common.{length, ap, ◌∙◌, arith}
use Rattle.matching.specs.Held.{held}
use Rattle.matching.proofs.Making.{held_length}
use Rattle.matching.proofs.Gathering.{passes_apart}
use Rattle.matching.proofs.Following.{both_passes}
use Rattle.matching.proofs.line.Line.reprice.Goals as goal

pub reprice_all-requires : goal.reprice_all-requires
reprice_all-requires c =
    let first = ap length (c.deref.ensures.0 ∙ c.gather.ensures) in
    omega (arith, c.requires.room, first, passes_apart c.args.quote (held c.args.self.now), held_length c.args.self.now)

pub reprice_all-requires-2 : goal.reprice_all-requires-2
reprice_all-requires-2 c =
    let first = ap length (c.deref.ensures.0 ∙ c.gather.ensures) in
    let second = ap length (c.deref-2.ensures.0 ∙ c.gather-2.ensures) in
    let e = c.reprice_all.ensures in
    omega (arith, c.requires.room, first, second, passes_apart c.args.quote (held c.args.self.now), held_length c.args.self.now, e.most, e.made.report_size)

pub returns-clause-made : goal.returns-clause-made
returns-clause-made c = both_passes c.args.quote _ _ (c.deref.ensures.0 ∙ c.gather.ensures) (c.deref-2.ensures.0 ∙ c.gather-2.ensures) c.reprice_all.ensures.made c.reprice_all-2.ensures.made
