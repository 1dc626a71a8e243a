use Rattle.std.proofs.Common.{None, sym, subst}
use Rattle.std.proofs.lemmas.Option.{slice_get-get_or}
use Rattle.market.specs.Venues.{best, Best}
use Rattle.sources.proofs.BestPrice.{best_law, one_best, found, found_none}
use Rattle.sources.proofs.venues.VenueTable.best.Goals as goal

pub returns : goal.returns
returns c =
    let side = c.args.side in
    let vs = c.args.self.now.rows in
    let first = c.in_ok-first.ensures in
    let here = slice_get-get_or vs c.in_ok-first.first _ first.0.within in
    let law = subst (Best side vs) (sym c.price.ensures) (found side vs c.in_ok-first.first _ here first) in
    record { value = one_best side vs c.price.result (best side vs) law (best_law side vs); law = law }

pub returns-in_err-first : goal.returns-in_err-first
returns-in_err-first c =
    let side = c.args.side in
    let vs = c.args.self.now.rows in
    let law = found_none side vs c.in_err-first.ensures in
    rw c.from_residual.ensures (record { value = one_best side vs None (best side vs) law (best_law side vs); law = law })
