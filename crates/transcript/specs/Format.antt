-- The printed report, line by line.
use Rattle.std.specs.Prelude.{◌≡◌, ℕ, Bool, true, List, [], ◌∷◌, ◌++◌, length, take, is_some, IfSome, Some, None, Ok, Err, codes, decimal, Option, Result}
use Rattle.std.specs.List.{flat_map}
use Rattle.std.specs.Option.{unwrap_or}
use Rattle.std.specs.Str.{bytes_eq}
use Rattle.market.specs.declared.quote.Quote.{Quote}
use Rattle.market.specs.declared.report.Report.{Report}
use Rattle.market.specs.declared.side.Side.{Side}
use Rattle.market.specs.declared.side.Side.TheVariants.{Buy, Sell}
use Rattle.market.specs.Reports.{◌⸴◌, report_text}
use Rattle.texts.specs.declared.refusal.TextRefusal.{TextRefusal}
use Rattle.texts.specs.Faults.{refusal_text}
use Rattle.rules.specs.Lines.{Line}
use Rattle.transcript.specs.declared.printing.Top.{Top}
use Rattle.transcript.specs.Answering.{Row, Answer, AreAnswers}

abbrev pub report_line : Report → List ℕ
report_line r = report_text r ++ codes "\n"

abbrev pub refusal_line : TextRefusal → List ℕ
refusal_line e = refusal_text e ++ codes "\n"

-- a refusal has one line, and reports have one each
abbrev pub answer_lines : Answer → List ℕ
answer_lines (Err refused) = refusal_line refused
answer_lines (Ok reports) = flat_map report_line reports

abbrev pub side_number : Side → ℕ
side_number Buy = 1
side_number Sell = 2

-- the best display price of a side and the shares at it, or zeros
abbrev pub top_text : Top → List ℕ
top_text t = codes "T" ⸴ decimal (side_number t.side) ⸴ codes "0" ⸴ decimal (unwrap_or t.best (0, 0)).0 ⸴ decimal (unwrap_or t.best (0, 0)).1

abbrev pub top_lines : Top → Top → List ℕ
top_lines buy sell = (top_text buy ++ codes "\n") ++ (top_text sell ++ codes "\n")

-- the tops of both sides, or nothing where the session ended early
abbrev pub closing_lines : Option (Top × Top) → List ℕ
closing_lines None = []
closing_lines (Some tops) = top_lines tops.0 tops.1

abbrev pub header : List ℕ
header = codes "report,number,other,price,shares\n"

abbrev pub begins_with_header : List ℕ → Bool
begins_with_header bytes = bytes_eq header (take (length header) bytes)

-- the reports that a count says of a table, or the refusal
abbrev pub answered : List Report → Result ℕ TextRefusal → Answer
answered table (Ok count) = Ok (take count table)
answered table (Err refused) = Err refused

-- the answers to these lines of a script, the first of which has that number, were printed one after the other
pub record AddsAnswers (number : ℕ) (quotes : List Quote) (line : Line) (rows : List Row) (before after : List ℕ) : Type 0 where
  pub answers : List Answer
  pub given : AreAnswers number quotes line rows answers
  pub is : after ≡ before ++ flat_map answer_lines answers

-- answers one after the other, and then the tops of both sides or nothing
abbrev pub rest_text : List Answer → Option (Top × Top) → List ℕ
rest_text answers closing = flat_map answer_lines answers ++ closing_lines closing

-- a session whose texts are refused answers that and no more; any other answers each line of its script on a new book, the
-- first with the number 2, and closes with the top of the buys and that of the sells
abbrev pub Answers : Result (Unit {0}) TextRefusal → List Quote → List Row → List Answer → Option (Top × Top) → Type 0
Answers (Err refused) quotes rows answers closing = (answers ≡ Err refused ∷ []) × (closing ≡ None)
Answers (Ok x) quotes rows answers closing = AreAnswers 2 quotes [] rows answers × ((is_some closing ≡ true) × IfSome closing (λ (tops : Top × Top). (tops.0.side ≡ Buy) × (tops.1.side ≡ Sell)))

-- the rest of a transcript was printed
pub record Completes (checked : Result (Unit {0}) TextRefusal) (quotes : List Quote) (rows : List Row) (before after : List ℕ) : Type 0 where
  pub answers : List Answer
  pub closing : Option (Top × Top)
  pub given : Answers checked quotes rows answers closing
  pub is : after ≡ before ++ rest_text answers closing

-- all that a session prints
abbrev pub transcript_text : List Answer → Option (Top × Top) → List ℕ
transcript_text answers closing = header ++ rest_text answers closing

pub record Transcript (checked : Result (Unit {0}) TextRefusal) (quotes : List Quote) (rows : List Row) (bytes : List ℕ) : Type 0 where
  pub answers : List Answer
  pub closing : Option (Top × Top)
  pub given : Answers checked quotes rows answers closing
  pub is : bytes ≡ transcript_text answers closing
