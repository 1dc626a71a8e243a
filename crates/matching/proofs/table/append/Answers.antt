use Rattle.matching.proofs.Edits.{appended}
use Rattle.matching.proofs.table.append.Goals as goal

pub returns-clause-line : goal.returns-clause-line
returns-clause-line c = appended c.args.rows.now c.write.new.rows c.args.len c.args.order c.requires c.write.ensures.rows
