use Rattle.std.proofs.Common.{rules}
use Rattle.texts.proofs.Decimals.{never, number_law}
use Rattle.texts.proofs.number.read_number.Goals as goal

pub returns-then-not-is_sized-clause-law : goal.returns-then-not-is_sized-clause-law
returns-then-not-is_sized-clause-law c = never c.args.field.now (search rules)

pub returns-in_err-read_digits-clause-law : goal.returns-in_err-read_digits-clause-law
returns-in_err-read_digits-clause-law c = number_law c.args.field.now _ (search rules)

pub returns-clause-law : goal.returns-clause-law
returns-clause-law c = number_law c.args.field.now _ (search rules)
