use Rattle.std.proofs.Common.{◌<◌, IfSome, ap, subst, ◌∙◌}
use Rattle.rules.specs.declared.trading.Placed.{Placed}
use Rattle.rules.specs.Lines as lines
use Rattle.matching.specs.Held.{held}
use Rattle.matching.proofs.Finding.{found_within, found_formed}
use Rattle.matching.proofs.Making.{held_length}
use Rattle.matching.proofs.line.Line.find.Goals as goal

pub returns : goal.returns
returns c =
    let is = c.find.ensures ∙ ap (lines.find c.args.number) c.orders.ensures in
    record {
      row = is;
      within = subst (λ n. IfSome c.find.result (λ (p : Placed). p.place < n)) (held_length c.args.self.now) (found_within c.args.number (held c.args.self.now) c.find.result is);
      formed = found_formed c.args.number (held c.args.self.now) c.find.result is c.args.self.now.formed;
    }
