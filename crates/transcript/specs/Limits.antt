-- How the texts of a session are judged: the number of their bytes goes before everything else.
use Rattle.std.specs.Prelude.{ℕ, cond, List, [], length, Ok, Result, nat_le}
use Rattle.std.specs.Result.{result_unwrap_or}
use Rattle.market.specs.declared.refusal.Refusal.TheVariants.{LineCount}
use Rattle.texts.specs.Fields.{and_then}
use Rattle.texts.specs.declared.refusal.TextRefusal.{TextRefusal}
use Rattle.texts.specs.Tapes.{tape}
use Rattle.texts.specs.Texts.{refused, checked}
use Rattle.texts.specs.declared.script.ScriptCall.{ScriptCall}
use Rattle.texts.specs.Scripts.{script}

-- at most 65,536 bytes
abbrev pub sized : List ℕ → Result (Unit {0}) TextRefusal
sized bs = cond (nat_le (length bs) 65536) (Ok tt) (refused LineCount 0 0)

abbrev pub quotes_checked : List ℕ → Result (Unit {0}) TextRefusal
quotes_checked bs = and_then (sized bs) (λ _. checked (tape bs))

abbrev pub script_checked : List ℕ → Result (Unit {0}) TextRefusal
script_checked bs = and_then (sized bs) (λ _. checked (script bs))

-- the quotes go before the script
abbrev pub texts_checked : List ℕ → List ℕ → Result (Unit {0}) TextRefusal
texts_checked quotes calls = and_then (quotes_checked quotes) (λ _. script_checked calls)

-- the lines of a script behind its first; none if it is refused
abbrev pub calls_in : List ℕ → List (Result ScriptCall TextRefusal)
calls_in bs = result_unwrap_or (script bs) []
