use Rattle.std.proofs.Common.{drop, sym, ap, ◌∙◌, arith}
use Rattle.texts.proofs.Cuts.{cut_at}
use Rattle.texts.proofs.pieces.first_piece.Goals as goal

pub returns : goal.returns
returns c =
    let is = c.piece_len.ensures.is in
    let parts = c.split_at.ensures in
    record {
      cut = λ some. cut_at c.args.end c.args.bytes.now _ c.split_at.result.1.now some (rw is at parts.front) (rw is at parts.back);
      some = λ some. omega (arith, c.piece_len.ensures.some some);
      len = omega arith;
      back = parts.back ∙ ap (λ n. drop n c.args.bytes.now) (sym parts.front_len);
    }
