use Rattle.std.proofs.Common.{ap, ◌∙◌}
use Rattle.market.specs.Rows.{formed}
use Rattle.rules.proofs.Formed.{follower_formed}
use Rattle.matching.proofs.reprice.repriced_order.Goals as goal

pub known-requires : goal.known-requires
known-requires c = ap formed c.repriced.ensures ∙ follower_formed c.args.quote c.args.row c.requires.row c.requires.follows
