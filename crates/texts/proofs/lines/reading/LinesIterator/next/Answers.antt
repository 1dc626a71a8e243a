use Rattle.std.proofs.Common.{sym, ◌∙◌, rules}
use Rattle.texts.proofs.Reading.{Next, next}
use Rattle.texts.proofs.lines.reading.LinesIterator.next.Given as given
use Rattle.texts.proofs.lines.reading.LinesIterator.next.Goals as goal
use Rattle.texts.proofs.lines.reading.LinesIterator.next.Goals.{In_ok-line}

line_behind : (g : given.Over) (c : In_ok-line g) → Next c.args.self.now c.in_ok-line.line.now
line_behind g c = next c.args.self.now _ _ _ c.rest.ensures (sym c.of.ensures ∙ c.in_ok-line.ensures.steps)

pub invariant_of-self : goal.invariant_of-self
invariant_of-self g c = let n = line_behind g (goal.at.invariant_of-self g c).In_ok-line in record { within = n.within; counted = n.counted }

pub returns-clause-steps : goal.returns-clause-steps
returns-clause-steps g c = let n = line_behind g (goal.at.returns-clause-steps g c).In_ok-line in record { row = rw (n.cut, c.read_line.ensures); behind = rw n.cut }

pub returns-clause-goes : goal.returns-clause-goes
returns-clause-goes g c = let cut = (line_behind g (goal.at.returns-clause-goes g c).In_ok-line).cut in search rules
