-- The values of the lines that are left of a text, if all are good.
use Rattle.std.specs.Prelude.{ℕ, Bool, List, [], is_ok, Result}
use Rattle.std.specs.Result.{result_unwrap_or}
use Rattle.texts.specs.declared.refusal.Fault.{Fault}
use Rattle.texts.specs.Texts.{Place, rows_at, all_good}

-- every line left is good
abbrev pub readable : {X : Type 0} → (List ℕ → Result X Fault) → Place → Bool
readable f at = is_ok (all_good (rows_at f at))

abbrev pub values : {X : Type 0} → (List ℕ → Result X Fault) → Place → List X
values f at = result_unwrap_or (all_good (rows_at f at)) []
