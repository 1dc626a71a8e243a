-- The arrival, from the trade and what becomes of the remainder.
use Rattle.std.proofs.Common.{◌≡◌, ℕ, ◌<◌, ◌≤◌, true, false, eqb, [], ◌∷◌, ◌++◌, sym, refl, ap, ◌∙◌, subst, append-nil, arith}
use Rattle.std.proofs.lemmas.Bool.Decides.{nat_tests}
use Rattle.market.specs.declared.quote.Quote.{Quote}
use Rattle.market.specs.declared.row.Entry.{Entry}
use Rattle.market.specs.Rows.{countable}
use Rattle.rules.specs.declared.arrival.Remainder.{Remainder}
use Rattle.rules.specs.declared.arrival.Remainder.TheVariants.{Cancels, Waits, Rests}
use Rattle.rules.specs.Lines as lines
use Rattle.rules.specs.Lines.{replay, all_reports, all_formed}
use Rattle.rules.specs.Trading.{fills_of, total, fewer, fill_events}
use Rattle.rules.specs.Arrival.{bound, remainder, remainder_rows, remainder_report, remainder_events, ending, arrival, arrival_fills}
use Rattle.rules.proofs.Formed.{remainder_formed}
use Rattle.matching.specs.declared.line.Line.{Line}
use Rattle.matching.specs.declared.reports.Reports.{Reports}
use Rattle.matching.specs.Held.{held, Becomes}
use Rattle.matching.specs.Reported.{Reported}
use Rattle.matching.specs.Changes.{Makes}
use Rattle.matching.proofs.Making.{makes_then, makes}

remainder_joins : (e : Entry) (x : Remainder) (line : lines.Line) → replay (remainder_events e x) line ≡ line ++ remainder_rows e x
remainder_joins e Cancels line = sym (append-nil line)
remainder_joins e (Waits a) line = refl
remainder_joins e (Rests w d) line = refl

remainder_tells : (e : Entry) (x : Remainder) → all_reports (remainder_events e x) ≡ remainder_report e x ∷ []
remainder_tells e Cancels = refl
remainder_tells e (Waits a) = refl
remainder_tells e (Rests w d) = refl

-- the order in hand has shares left after its trade
module _ (q : Quote) (entry : Entry) (line : Line) (b : ℕ) (is_bound : b ≡ bound q entry) (left : Entry) (is-left : left ≡ fewer (total (fills_of entry b (held line))) entry)
    (some : 0 < left.shares) (x : Remainder) (is-remainder : x ≡ remainder q left) where
  events : arrival q entry (held line) ≡ fill_events (fills_of entry b (held line)) ++ remainder_events left x
  events =
      let l : left ≡ fewer (total (arrival_fills q entry (held line))) entry = rw is_bound at is-left in
      let t : eqb left.shares 0 ≡ false = grind (arith, nat_tests) in
      let e : ending q left ≡ remainder_events left x = rw (t, is-remainder) refl in
      ap (λ y. fill_events (arrival_fills q entry (held line)) ++ ending q y) (sym l)
      ∙ ap (λ z. fill_events (arrival_fills q entry (held line)) ++ z) e
      ∙ ap (λ b. fill_events (fills_of entry b (held line)) ++ remainder_events left x) (sym is_bound)

  pub stays_formed : entry.shares ≤ 1000000 → all_formed (remainder_rows left x) ≡ true
  stays_formed most =
      let s = ap (λ e. e.shares) is-left in
      let n : countable left.shares ≡ true = grind (arith, nat_tests) in
      ap (λ x. all_formed (remainder_rows left x)) is-remainder ∙ remainder_formed q left n

  -- the trade, then the remainder
  pub arrived : {line₁ line₂ : Line} {reports reports₁ reports₂ : Reports} → Makes (fill_events (fills_of entry b (held line))) line reports line₁ reports₁
      → Becomes line₁ (held line₁ ++ remainder_rows left x) line₂ → Reported (remainder_report left x ∷ []) reports₁ reports₂ → Makes (arrival q entry (held line)) line reports line₂ reports₂
  arrived {line₁} {line₂} {reports} {reports₁} {reports₂} traded l r =
      let kept = subst (λ xs. Becomes line₁ xs line₂) (sym (remainder_joins left x (held line₁))) l in
      let told = subst (λ rs. Reported rs reports₁ reports₂) (sym (remainder_tells left x)) r in
      subst (λ es. Makes es line reports line₂ reports₂) (sym events) (makes_then traded (makes (remainder_events left x) kept told))
