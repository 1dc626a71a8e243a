use Rattle.std.proofs.Common.{sym, ◌∙◌, rules}
use Rattle.texts.proofs.field.read_ranged.Goals as goal

pub returns : goal.returns
returns g c = rw (sym c.read_number.ensures.value ∙ c.in_ok-number.ensures.ok_part) (c.try_from.result, c.try_from.ensures, search rules)
