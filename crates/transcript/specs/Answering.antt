-- What a session answers to each line of its script, on the line of orders and the quotes as the lines before left them.
use Rattle.std.specs.Prelude.{◌≡◌, ℕ, ◌+◌, List, [], ◌∷◌, take, Ok, Err, Result}
use Rattle.market.specs.declared.quote.Quote.{Quote}
use Rattle.market.specs.declared.refusal.Refusal.{Refusal}
use Rattle.market.specs.declared.report.Report.{Report}
use Rattle.texts.specs.declared.refusal.TextRefusal.{TextRefusal}
use Rattle.texts.specs.declared.script.ScriptCall.{ScriptCall}
use Rattle.texts.specs.declared.script.ScriptCall.TheVariants.{Enter, Amend, Cancel, Advance}
use Rattle.rules.specs.Lines.{Line, Event, replay, all_reports}
use Rattle.rules.specs.Arrival.{arrival}
use Rattle.rules.specs.Repricing.{reprices}
use Rattle.sources.specs.Sources.{advanced}
use Rattle.book.specs.Calls.{in_force, amendment, cancellation}

-- a line of a script: a call, or why the line is refused
abbrev pub Row : Type 0
Row = Result ScriptCall TextRefusal

-- what a session answers to a line of its script: its reports, or why it is refused
abbrev pub Answer : Type 0
Answer = Result (List Report) TextRefusal

-- THE CALLS

-- an advance goes on to the next quote; the other calls leave the quotes
abbrev pub quotes_behind : ScriptCall → List Quote → List Quote
quotes_behind (Enter entry) quotes = quotes
quotes_behind (Amend number price shares) quotes = quotes
quotes_behind (Cancel number) quotes = quotes
quotes_behind Advance quotes = (advanced quotes).1

-- what a call makes of the line if it is accepted
abbrev pub events_of : ScriptCall → List Quote → Line → List Event
events_of (Enter entry) quotes line = arrival (in_force quotes) entry line
events_of (Amend number price shares) quotes line = amendment (in_force quotes) number price shares line
events_of (Cancel number) quotes line = cancellation number line
events_of Advance quotes line = reprices (in_force (advanced quotes).1) line

-- ONE LINE

-- a line that is refused is answered by its refusal; a call by just its reports, or by a refusal of the book, which has
-- the line's number and column 0
abbrev pub IsAnswer : ℕ → List Quote → Line → Row → Answer → Type 0
IsAnswer number quotes line (Err refused) answer = answer ≡ Err refused
IsAnswer number quotes line (Ok call) (Ok reports) = reports ≡ all_reports (events_of call quotes line)
IsAnswer number quotes line (Ok call) (Err refused) = (refused.line ≡ number) × (refused.column ≡ 0)

-- only an accepted call changes the quotes and the line
abbrev pub quotes_after : Row → Answer → List Quote → List Quote
quotes_after (Ok call) (Ok reports) quotes = quotes_behind call quotes
quotes_after (Ok call) (Err refused) quotes = quotes
quotes_after (Err refused) answer quotes = quotes

abbrev pub line_after : Row → Answer → List Quote → Line → Line
line_after (Ok call) (Ok reports) quotes line = replay (events_of call quotes line) line
line_after (Ok call) (Err refused) quotes line = line
line_after (Err refused) answer quotes line = line

-- ALL LINES, the first of them with that number: each has its answer, and there are no others
abbrev pub AreAnswers : ℕ → List Quote → Line → List Row → List Answer → Type 0
AreAnswers number quotes line rows [] = rows ≡ []
AreAnswers number quotes line [] (answer ∷ answers) = answer ∷ answers ≡ []
AreAnswers number quotes line (row ∷ rows) (answer ∷ answers) =
    IsAnswer number quotes line row answer × AreAnswers (number + 1) (quotes_after row answer quotes) (line_after row answer quotes line) rows answers

-- the call was made: an accepted one by just its reports, at the front of the table, and by its events; a refused one left
-- all as it was
abbrev pub Performs : ScriptCall → List Quote → Line → Result ℕ Refusal → List Report → List Quote → Line → Type 0
Performs call quotes line (Ok count) table quotes' line' =
    (take count table ≡ all_reports (events_of call quotes line)) × ((line' ≡ replay (events_of call quotes line) line) × (quotes' ≡ quotes_behind call quotes))
Performs call quotes line (Err refusal) table quotes' line' = (line' ≡ line) × (quotes' ≡ quotes)

-- the line of the script with that number was answered, and this is what it left
pub record AnswersRow (number : ℕ) (row : Row) (quotes : List Quote) (line : Line) (answer : Answer) (quotes' : List Quote) (line' : Line) : Type 0 where
  pub is_answer : IsAnswer number quotes line row answer
  pub quotes_are : quotes' ≡ quotes_after row answer quotes
  pub line_is : line' ≡ line_after row answer quotes line
