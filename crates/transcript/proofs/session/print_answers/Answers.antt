use Rattle.transcript.proofs.Adding.{one_more, all_given}
use Rattle.transcript.proofs.session.print_answers.Goals as goal

pub loop-call-preserved : goal.loop-call-preserved
loop-call-preserved g c =
    let next = c.in-Some.ensures.steps in
    (c.number-line-in-Some.ensures, one_more c.loop-call.invariant.1 _ _ _ _ _ _ _ _ next.row next.number c.loop-call.invariant.0 c.answer-answer.ensures.answers c.in_ok-print_answer.ensures)

pub returns : goal.returns
returns g c = all_given c.loop-call.invariant.1 c.in_default.ensures.steps.row.0
