use Rattle.std.proofs.Common.{refl, arith, length-set}
use Rattle.matching.proofs.Edits.{written_one}
use Rattle.matching.proofs.reports.Reports.write.Goals as goal

pub returns : goal.returns
returns c = record { table_is = written_one c.args.self.now.table.now c.args.self.now.next c.args.report (omega (arith, c.requires)); next_is = refl; same_size = simp length-set; same_table = refl }
