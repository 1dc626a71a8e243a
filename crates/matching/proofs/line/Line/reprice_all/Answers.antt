use Rattle.std.proofs.Common.{refl, arith}
use Rattle.matching.specs.Turns.{turn}
use Rattle.matching.proofs.Following.{each_more}
use Rattle.matching.proofs.line.Line.reprice_all.Goals as goal

pub loop-number-preserved : goal.loop-number-preserved
loop-number-preserved c =
    let e = c.reprice_one.ensures in
    record {
      made = each_more (turn c.args.quote c.args.pass) c.args.numbers.now c.loop-number.number-index _ 0 refl c.loop-number-test.true c.loop-number.invariant.made e.made;
      shorter = omega (arith, e.len);
      most = omega (arith, e.most);
    }
