use Rattle.std.proofs.Common.{set, ap, ◌∙◌}
use Rattle.matching.proofs.Edits.{set_replaces}
use Rattle.matching.proofs.table.write.Goals as goal

pub returns-clause-rows : goal.returns-clause-rows
returns-clause-rows c = ap (set c.args.rows.now c.args.i) c.row.ensures.value ∙ set_replaces c.args.i c.args.order c.args.rows.now
