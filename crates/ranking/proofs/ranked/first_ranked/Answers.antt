use Rattle.std.proofs.Common.{sym, refl}
use Rattle.std.proofs.lemmas.Option.{slice_get_read}
use Rattle.ranking.proofs.Leading.{passes, keeps, starts, takes, ends}
use Rattle.ranking.proofs.ranked.first_ranked.Goals as goal
use Rattle.ranking.proofs.ranked.first_ranked.Goals.{then-qualifies+in-None, then-qualifies+in-Some+then-takes_lead, then-qualifies+in-Some+else-takes_lead, else-qualifies}

pub loop-i-preserved : goal.loop-i-preserved
loop-i-preserved g c =
    let laws = g.met.R.Ranked.ranking c.args.view in
    let here = slice_get_read c.args.rows.now _ c.loop-i.i c.index-rows-i.result refl c.loop-i-test.true c.index-rows-i.is in
    elim c.if-qualifies.branch [
      | then-qualifies+in-None w ↦ simp w.best-is (starts laws _ _ _ here (sym w.if-qualifies.ensures) (simp w.in-None.is at c.loop-i.invariant))
      | then-qualifies+in-Some+then-takes_lead w ↦ simp w.best-is (takes laws _ _ _ _ _ c.loop-i-test.true here w.index-rows-b.is (sym w.if-qualifies.ensures) (sym w.if-takes_lead.ensures) (simp w.in-Some.is at c.loop-i.invariant))
      | then-qualifies+in-Some+else-takes_lead w ↦ simp w.best-is (keeps laws _ _ _ _ _ c.loop-i-test.true here w.index-rows-b.is (sym w.if-takes_lead.ensures) (simp w.in-Some.is at c.loop-i.invariant))
      | else-qualifies w ↦ simp w.best-is (passes laws _ _ _ _ here (sym w.if-qualifies.ensures) c.loop-i.invariant)
    ]

pub returns : goal.returns
returns g c = ends (g.met.R.Ranked.ranking c.args.view) _ _ _ c.loop-i-test.false c.loop-i.invariant
