use Rattle.std.proofs.Common.{◌≡◌, false, eqb}
use Rattle.std.proofs.lemmas.Bool.{ne_eqb}
use Rattle.matching.proofs.Making.{makes_then}
use Rattle.book.specs.Calls.{change_reports}
use Rattle.book.proofs.Amending.{told}
use Rattle.book.proofs.amendment.Amendment.apply.Goals as goal

pub returns-else-self-found-clause-made : goal.returns-else-self-found-clause-made
returns-else-self-found-clause-made c =
    let other : eqb c.args.self.price c.args.found.row.limit ≡ false = ne_eqb _ _ c.if-self-found.false in
    rw other (makes_then (told (change_reports c.args.found.row c.args.self.shares) c.report_change.ensures) c.rearrive.ensures.made)
