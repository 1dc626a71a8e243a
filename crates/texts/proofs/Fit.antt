-- The values of good lines may be written.
use Rattle.std.proofs.Common.{◌≡◌, ℕ, Bool, true, List, [], ◌∷◌, Ok, Err, Result, sym, refl, ◌∙◌}
use Rattle.std.specs.Result.{result_unwrap_or}
use Rattle.std.specs.List.{AllByRecursion}
use Rattle.std.proofs.lemmas.Bool.{and_from}
use Rattle.market.specs.declared.quote.Quote.{Quote}
use Rattle.market.specs.Quotes.{formed, all_formed}
use Rattle.texts.specs.declared.refusal.Fault.{Fault}
use Rattle.texts.specs.declared.refusal.TextRefusal.{TextRefusal}
use Rattle.texts.specs.Writing.{one_line, Written}
use Rattle.texts.specs.Texts.{Place, rows_at, all_good}
use Rattle.texts.specs.Tapes.{quote_line}
use Rattle.texts.specs.Values.{values}
use Rattle.texts.proofs.Exactness.{rows_say}
use Rattle.texts.proofs.Reading.{lines_rows}
use Rattle.texts.proofs.LinesWritten.{quote_written}

module _ {X : Type 0} {f : List ℕ → Result X Fault} {written : X → List ℕ} {writable : X → Bool} (law : Written one_line f written writable) where
  fit : (at : Place) (r : Result (List X) TextRefusal) → all_good (rows_at f at) ≡ r → AllByRecursion (λ x. writable x ≡ true) (result_unwrap_or r [])
  fit at (Ok xs) is = (rows_say law at.number at.left xs (sym (lines_rows f at.number at.left) ∙ is)).1
  fit at (Err e) is = tt

  pub values_fit : (at : Place) → AllByRecursion (λ x. writable x ≡ true) (values f at)
  values_fit at = fit at (all_good (rows_at f at)) refl

formed_all : (qs : List Quote) → AllByRecursion (λ q. formed q ≡ true) qs → all_formed qs ≡ true
formed_all [] h = refl
formed_all (q ∷ qs) h = and_from (formed q) (all_formed qs) h.0 (formed_all qs h.1)

-- every quote that is read is formed
pub quotes_formed : (at : Place) → all_formed (values quote_line at) ≡ true
quotes_formed at = formed_all (values quote_line at) (values_fit quote_written at)
