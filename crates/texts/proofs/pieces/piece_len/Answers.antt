use Rattle.std.proofs.Common.{ℕ, ◌==◌, length, arith, rules}
use Rattle.std.proofs.lemmas.List.Sums.{position_or_len_is}
use Rattle.texts.proofs.Cuts.{first_len_is}
use Rattle.texts.proofs.pieces.piece_len.Goals as goal

pub returns-in-Some-clause-is : goal.returns-in-Some-clause-is
returns-in-Some-clause-is c =
    let bytes = c.args.bytes.now in
    let found = position_or_len_is (λ (b : ℕ). b == c.args.end) bytes c.in-Some.i 0 (search rules) (search rules) (search rules) in
    omega (arith, first_len_is c.args.end bytes, c.in-Some.ensures.bound)

pub returns-in-None-clause-is : goal.returns-in-None-clause-is
returns-in-None-clause-is c =
    let bytes = c.args.bytes.now in
    let none = position_or_len_is (λ (b : ℕ). b == c.args.end) bytes (length bytes) 0 (omega arith) (search rules) (search rules) in
    omega (arith, first_len_is c.args.end bytes)
