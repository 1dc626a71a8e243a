-- A formed row has at most 1,000,000 shares, so that the shares of the first i rows and of one more fit.
use Rattle.std.proofs.Common.{◌≡◌, ℕ, ◌+◌, ◌*◌, ◌^◌, ◌<◌, ◌≤◌, true, length, get_or, arith}
use Rattle.std.proofs.lemmas.Option.{slice_get-get_or}
use Rattle.std.proofs.lemmas.Bool.Decides.{nat_tests}
use Rattle.market.specs.declared.row.OrderRow.{OrderRow}
use Rattle.market.specs.Rows.{countable}
use Rattle.rules.specs.Lines.{Line, all_formed}
use Rattle.std.specs.Cmp.{first_so}
use Rattle.rules.proofs.Formed.{nth_formed}

module _ (line : Line) (i total : ℕ) (d : OrderRow) (all : all_formed line ≡ true) (h : i < length line) (so_far : total ≤ 1000000 * i) where
  shares_most : (get_or line i d).shares ≤ 1000000
  shares_most =
      let c : countable (get_or line i d).shares ≡ true = first_so _ _ (nth_formed line i (get_or line i d) all (slice_get-get_or line i d h)) in
      grind (arith, nat_tests)

  pub sum_fits : length line ≤ 1024 → total + (get_or line i d).shares < 2 ^ 32
  sum_fits few = omega (arith, shares_most)

  pub sum_more : (next : ℕ) → next ≤ total + (get_or line i d).shares → next ≤ 1000000 * (i + 1)
  sum_more next le = omega (arith, shares_most)
