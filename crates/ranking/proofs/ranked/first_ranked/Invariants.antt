use Rattle.ranking.proofs.Leading.{Leads}
use Rattle.ranking.proofs.ranked.first_ranked.Given as goal

abbrev pub invariant-loop-i : goal.invariant-loop-i
invariant-loop-i g l = let m = g.R.Ranked in Leads (m.counts l.view) (m.ahead l.view) l.rows l.i l.best
