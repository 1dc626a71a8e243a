-- The laws of the ranking of orders that rest on one side.
use Rattle.std.proofs.Common.{◌≡◌, true, false, arith}
use Rattle.std.proofs.lemmas.Bool.Decides.{nat_tests}
use Rattle.market.specs.declared.side.Side.{Side}
use Rattle.market.specs.declared.side.Side.TheVariants.{Buy, Sell}
use Rattle.market.specs.declared.row.OrderRow.{OrderRow}
use Rattle.market.specs.Rows.{outranks}

pub outranks_irrefl : (side : Side) (a : OrderRow) → outranks side a a ≡ false
outranks_irrefl Buy a = grind (arith, nat_tests)
outranks_irrefl Sell a = grind (arith, nat_tests)

pub outranks_asym : (side : Side) (a b : OrderRow) → outranks side a b ≡ true → outranks side b a ≡ false
outranks_asym Buy a b h = grind (arith, nat_tests)
outranks_asym Sell a b h = grind (arith, nat_tests)

pub outranks_trans : (side : Side) (a b c : OrderRow) → outranks side a b ≡ true → outranks side b c ≡ true → outranks side a c ≡ true
outranks_trans Buy a b c h k = grind (arith, nat_tests)
outranks_trans Sell a b c h k = grind (arith, nat_tests)

-- not to be outranked is transitive, so ties are
pub behind_trans : (side : Side) (a b c : OrderRow) → outranks side b a ≡ false → outranks side c b ≡ false → outranks side c a ≡ false
behind_trans Buy a b c h k = grind (arith, nat_tests)
behind_trans Sell a b c h k = grind (arith, nat_tests)
