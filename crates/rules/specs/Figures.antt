-- Worked figures of the rules, as one table of facts about the definitions.
use Rattle.std.specs.Prelude.{◌≡◌}
use Rattle.market.specs.declared.side.Side.TheVariants.{Buy}
use Rattle.market.specs.Prices.{step_above, step_below, collar}

pub record Figures : Type 0 where
  pub step_below_a_dollar : step_below 10000 ≡ 9999
  pub step_above_9999 : step_above 9999 ≡ 10000
  pub upper_collar_of_250000 : collar Buy 250000 ≡ 275000
  pub upper_collar_of_250100 : collar Buy 250100 ≡ 262605
