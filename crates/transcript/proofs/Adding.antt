-- Answers printed one after the other, and what completes a transcript.
use Rattle.std.proofs.Common.{◌≡◌, ℕ, ◌+◌, List, [], ◌∷◌, ◌++◌, Some, None, Ok, Err, length, take, refl, sym, ap, ◌∙◌, subst, append_assoc, arith}
use Rattle.std.specs.List.{flat_map}
use Rattle.std.proofs.lemmas.List.{flat_map_more, append-nil}
use Rattle.market.specs.declared.quote.Quote.{Quote}
use Rattle.market.specs.declared.side.Side.TheVariants.{Buy, Sell}
use Rattle.texts.specs.declared.refusal.TextRefusal.{TextRefusal}
use Rattle.rules.specs.Lines.{Line}
use Rattle.transcript.specs.declared.printing.Top.{Top}
use Rattle.transcript.specs.Answering.{Row, Answer, IsAnswer, AreAnswers, AnswersRow, quotes_after}
use Rattle.transcript.specs.Format.{answer_lines, refusal_line, top_lines, AddsAnswers, Completes}

-- The answers so far: with more answers to the lines left, they are the answers to all lines.
pub record SoFar (number : ℕ) (quotes : List Quote) (line : Line) (rows : List Row) (before : List ℕ) (number' : ℕ) (quotes' : List Quote) (line' : Line) (rows' : List Row) (after : List ℕ) : Type 0 where
  pub answers : List Answer
  pub given : (more : List Answer) → AreAnswers number' quotes' line' rows' more → AreAnswers number quotes line rows (answers ++ more)
  pub is : after ≡ before ++ flat_map answer_lines answers

module _ {number : ℕ} {quotes : List Quote} {line : Line} {rows : List Row} {before : List ℕ} {n : ℕ} {qs : List Quote} {l : Line} {left : List Row} {between : List ℕ} (h : SoFar number quotes line rows before n qs l left between) where
  pub one_more : (k : ℕ) (row : Row) (answer : Answer) (n' : ℕ) (qs' : List Quote) (l' : Line) (left' : List Row) (after : List ℕ)
      → left ≡ row ∷ left' → n' ≡ n + length (take 1 left) → k ≡ n → AnswersRow k row qs l answer qs' l' → after ≡ between ++ answer_lines answer
      → SoFar number quotes line rows before n' qs' l' left' after
  one_more k row answer n' qs' l' left' after first next is_n a e =
      let next_line : n' ≡ n + 1 = omega (arith, next, ap (λ rs. length (take 1 rs)) first) in
      record {
        answers = h.answers ++ answer ∷ [];
        given = λ more m.
            let m1 = subst (λ k. AreAnswers k qs' l' left' more) next_line m in
            let m2 = subst (λ k. AreAnswers (n + 1) k l' left' more) a.quotes_are m1 in
            let m3 = subst (λ k. AreAnswers (n + 1) (quotes_after row answer qs) k left' more) a.line_is m2 in
            let whole = h.given (answer ∷ more) (subst (λ rs. AreAnswers n qs l rs (answer ∷ more)) (sym first) (subst (λ m. IsAnswer m qs l row answer) is_n a.is_answer, m3)) in
            subst (λ all. AreAnswers number quotes line rows all) (sym (append_assoc h.answers (answer ∷ []) more)) whole;
        is = e ∙ ap (λ text. text ++ answer_lines answer) h.is ∙ flat_map_more answer_lines before h.answers answer;
      }

  pub all_given : left ≡ [] → AddsAnswers number quotes line rows before between
  all_given none = record { answers = h.answers; given = subst (λ all. AreAnswers number quotes line rows all) (append-nil h.answers) (h.given [] none); is = h.is }

pub tops_complete : (buy sell : Top) (quotes : List Quote) (rows : List Row) (before between after : List ℕ) → AddsAnswers 2 quotes [] rows before between → buy.side ≡ Buy → sell.side ≡ Sell → after ≡ between ++ top_lines buy sell → Completes (Ok tt) quotes rows before after
tops_complete buy sell quotes rows before between after h is_buy is_sell e =
    record {
      answers = h.answers;
      closing = Some (buy, sell);
      given = (h.given, (refl, (is_buy, is_sell)));
      is = e ∙ ap (λ text. text ++ top_lines buy sell) h.is ∙ append_assoc before (flat_map answer_lines h.answers) (top_lines buy sell);
    }

pub refusal_completes : (refused : TextRefusal) (quotes : List Quote) (rows : List Row) (before after : List ℕ) → after ≡ before ++ refusal_line refused → Completes (Err refused) quotes rows before after
refusal_completes refused quotes rows before after e =
    record {
      answers = Err refused ∷ [];
      closing = None;
      given = (refl, refl);
      is = e ∙ ap (λ line. before ++ line) (sym (append-nil (refusal_line refused ++ []) ∙ append-nil (refusal_line refused)));
    }
