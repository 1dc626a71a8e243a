-- How a report is printed: a letter, and four numbers parted by commas.
use Rattle.std.specs.Prelude.{ℕ, List, ◌++◌, codes, decimal}
use Rattle.std.specs.Option.{unwrap_or}
use Rattle.market.specs.declared.report.Report.{Report}
use Rattle.market.specs.declared.report.Report.TheVariants.{Filled, Cancelled, Added, Waiting, Resting, Repriced}

-- one field, a comma, and the fields behind it
infixr 60 ◌⸴◌
abbrev pub ◌⸴◌ : List ℕ → List ℕ → List ℕ
a ⸴ b = a ++ (codes "," ++ b)

-- the order's number, the other order or the display price, a price, and shares; 0 where there is none
abbrev pub report_text : Report → List ℕ
report_text (Filled number resting price shares) = codes "F" ⸴ decimal number ⸴ decimal resting ⸴ decimal price ⸴ decimal shares
report_text (Cancelled number shares) = codes "C" ⸴ decimal number ⸴ codes "0" ⸴ codes "0" ⸴ decimal shares
report_text (Added number shares) = codes "A" ⸴ decimal number ⸴ codes "0" ⸴ codes "0" ⸴ decimal shares
report_text (Waiting number away shares) = codes "W" ⸴ decimal number ⸴ codes "0" ⸴ decimal away ⸴ decimal shares
report_text (Resting number display working shares) = codes "R" ⸴ decimal number ⸴ decimal (unwrap_or display 0) ⸴ decimal working ⸴ decimal shares
report_text (Repriced number display working shares) = codes "P" ⸴ decimal number ⸴ decimal (unwrap_or display 0) ⸴ decimal working ⸴ decimal shares
