use Rattle.std.proofs.Common.{arith}
use Rattle.texts.proofs.Cuts.{cut_off, none_left}
use Rattle.texts.proofs.fields.Fields.next.Goals as goal

pub invariant_of-self : goal.invariant_of-self
invariant_of-self g c =
    let steps = rw c.in_err-field.ensures.ok_part at c.next.ensures.steps in
    let none = none_left c.next.new.self steps.1 in
    let within = c.args.self.now.placed in
    record { placed = omega arith }

pub invariant_of-self-2 : goal.invariant_of-self-2
invariant_of-self-2 g c =
    let steps = rw c.in_ok-field.ensures.ok_part at c.next.ensures.steps in
    let sizes = cut_off c.args.self.now.left c.next.new.self c.in_ok-field.field.now steps in
    let within = c.args.self.now.placed in
    record { placed = omega arith }
