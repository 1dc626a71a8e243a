use Rattle.texts.specs.Texts.{value_lines}
use Rattle.texts.proofs.Reading.{text_checked}
use Rattle.texts.proofs.frame.Frame.check.Goals as goal

pub loop-line-init : goal.loop-line-init
loop-line-init g c =
    let text = c.args.self in
    rw c.into_iter-line-iterator.ensures.into_iter_gives (text_checked g.L.Line.meaning (value_lines text.header.now text.least text.most c.args.bytes.now) _ c.in_ok-line-items.ensures.rows)
