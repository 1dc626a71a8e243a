-- The loop that trades: one turn, and its end.
use Rattle.std.proofs.Common.{◌≡◌, ℕ, ◌+◌, ◌-◌, ◌<◌, ◌≤◌, Bool, true, false, cond, leb, List, [], ◌∷◌, ◌++◌, length, Some, None, sym, refl, ap, ◌∙◌, subst, inl, append_assoc, append-nil, arith}
use Rattle.std.proofs.lemmas.Bool.Decides.{nat_tests}
use Rattle.std.proofs.lemmas.Option.{slice_get_past}
use Rattle.std.proofs.lemmas.Bool.{cases_lt}
use Rattle.market.specs.declared.row.Entry.{Entry}
use Rattle.market.specs.Sides.{opposite}
use Rattle.market.specs.Rows.{entry_with, formed}
use Rattle.rules.specs.declared.trading.Fill.{Fill}
use Rattle.rules.specs.Lines as lines
use Rattle.rules.specs.Lines.{fills, after, replay, fill_report, all_reports, all_formed}
use Rattle.rules.specs.Trading.{next_fill, fills_of, total, fewer, fill_events}
use Rattle.rules.proofs.Rank.{first_top}
use Rattle.rules.proofs.Trade.{Met, Next, placed, stops, goes, upto, trades, one_way}
use Rattle.rules.proofs.Formed.{met_formed, fill_formed}
use Rattle.matching.specs.declared.line.Line.{Line}
use Rattle.matching.specs.declared.reports.Reports.{Reports}
use Rattle.matching.specs.Held.{held, Becomes}
use Rattle.matching.specs.Reported.{Reported}
use Rattle.matching.specs.Changes.{Makes}
use Rattle.matching.proofs.Making.{makes_then, makes}

events-++ : (fs gs : List Fill) → fill_events (fs ++ gs) ≡ fill_events fs ++ fill_events gs
events-++ [] gs = refl
events-++ (f ∷ fs) gs = ap (λ z. fills f ∷ z) (events-++ fs gs)

total-++ : (fs gs : List Fill) → total (fs ++ gs) ≡ total fs + total gs
total-++ [] gs = omega arith
total-++ (f ∷ fs) gs = let h = total-++ fs gs in omega arith

-- all fills, where the next one is known
fills_some : (e : Entry) (b : ℕ) (line : lines.Line) (f : Fill) → next_fill e b line ≡ Some f → fills_of e b line ≡ f ∷ fills_of (fewer f.shares e) b (after (fills f) line)
fills_some e b line f is = one_way (trades _ e b line (inl (omega arith))) (goes (subst (Next e b line) is (upto e b line)) (trades _ _ b _ (inl (omega arith))))

fills_none : (e : Entry) (b : ℕ) (line : lines.Line) → next_fill e b line ≡ None → fills_of e b line ≡ []
fills_none e b line is = one_way (trades _ e b line (inl (omega arith))) (stops (subst (Next e b line) is (upto e b line)))

-- THE TRADE SO FAR: the fills that are done, and those of the order in hand that are left, are all fills

pub record Going (entry : Entry) (b : ℕ) (line₀ : Line) (reports₀ : Reports) (left : Entry) (line : Line) (reports : Reports) : Type 0 where
  pub done : List Fill
  pub whole : fills_of entry b (held line₀) ≡ done ++ fills_of left b (held line)
  pub made : Makes (fill_events done) line₀ reports₀ line reports
  pub left_is : left ≡ fewer (total done) entry

module _ {entry : Entry} {b : ℕ} {line₀ : Line} {reports₀ : Reports} {left : Entry} {line : Line} {reports : Reports} (g : Going entry b line₀ reports₀ left line reports) where
  pub turn : (f : Fill) {line' : Line} {reports' : Reports} → Some f ≡ next_fill left b (held line) → Becomes line (after (fills f) (held line)) line' → Reported (fill_report f ∷ []) reports reports'
      → Going entry b line₀ reports₀ (fewer f.shares left) line' reports'
  turn f {line'} {reports'} e l r =
      let sum : entry.shares - total g.done - f.shares ≡ entry.shares - total (g.done ++ f ∷ []) = omega (arith, total-++ g.done (f ∷ [])) in
      record {
        done = g.done ++ f ∷ [];
        whole = g.whole ∙ ap (λ z. g.done ++ z) (fills_some left b (held line) f (sym e) ∙ ap (λ z. f ∷ fills_of (fewer f.shares left) b z) (sym l.holds)) ∙ sym (append_assoc g.done (f ∷ []) _);
        made = subst (λ es. Makes es line₀ reports₀ line' reports') (sym (events-++ g.done (f ∷ []))) (makes_then g.made (makes (fills f ∷ []) l r));
        left_is = ap (fewer f.shares) g.left_is ∙ ap (λ k. entry_with k entry) sum;
      }

  pub ends : None ≡ next_fill left b (held line) → fills_of entry b (held line₀) ≡ g.done
  ends e = g.whole ∙ ap (λ z. g.done ++ z) (fills_none left b (held line) (sym e)) ∙ append-nil g.done

-- WHAT IS KNOWN OF A FILL

pub record Known (e : Entry) (line : lines.Line) (f : Fill) : Type 0 where
  pub within : f.place < length line
  pub some : 0 < e.shares
  pub resting_formed : all_formed line ≡ true → formed f.resting ≡ true
  pub stays_formed : all_formed line ≡ true → all_formed (after (fills f) line) ≡ true
  pub empties : f.shares < f.resting.shares → e.shares - f.shares ≡ 0

pub known : (e : Entry) (b : ℕ) (line : lines.Line) (f : Fill) → Some f ≡ next_fill e b line → Known e line f
known e b line f is =
    let m : Met e b line f = subst (Next e b line) (sym is) (upto e b line) in
    let size = m.size in
    let there = (first_top (opposite e.side) line (placed f) m.is).there in
    record { within = grind (arith, slice_get_past line f.place, cases_lt f.place (length line), there); some = m.some; resting_formed = met_formed m; stays_formed = fill_formed m; empties = λ h. omega arith }

-- the line is shorter after a fill, or nothing is left in hand
module _ {e : Entry} {line : lines.Line} {f : Fill} (k : Known e line f) (len len' : ℕ) (is : len' ≡ cond (leb f.resting.shares f.shares) (len - 1) len) (h : length line ≤ len) where
  pub shorter : (len' ≤ len) × (0 < e.shares - f.shares → len' + 1 ≤ len)
  shorter = go (leb f.resting.shares f.shares) refl is
    where
      go : (c : Bool) → leb f.resting.shares f.shares ≡ c → len' ≡ cond c (len - 1) len → (len' ≤ len) × (0 < e.shares - f.shares → len' + 1 ≤ len)
      go true d is = (omega arith, λ m. omega (arith, k.within))
      go false d is = (omega arith, λ m. let l : f.shares < f.resting.shares = grind (arith, nat_tests) in let z = k.empties l in absurd (omega arith))
