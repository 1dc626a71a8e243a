-- The second pass over one order, and a pass over one number after another.
use Rattle.std.proofs.Common.{◌≡◌, ℕ, ◌+◌, ◌-◌, ◌<◌, true, false, eqb, List, [], ◌∷◌, ◌++◌, length, get_or, take, Some, sym, refl, ap, ◌∙◌, subst, append_assoc, append-nil, arith}
use Rattle.std.proofs.lemmas.List.{take_more}
use Rattle.std.proofs.lemmas.Bool.Decides.{nat_tests}
use Rattle.std.proofs.lemmas.Bool.{ne_eqb}
use Rattle.market.specs.declared.row.OrderRow.{OrderRow}
use Rattle.market.specs.declared.row.Entry.{Entry}
use Rattle.market.specs.declared.quote.Quote.{Quote}
use Rattle.market.specs.Rows.{entry_of, with_shares}
use Rattle.rules.specs.declared.repricing.Pass.TheVariants.{First, Second}
use Rattle.rules.specs.declared.trading.Placed.{Placed}
use Rattle.rules.specs.Lines as lines
use Rattle.rules.specs.Lines.{Event, replay, joins, leaves, becomes, reports, replace_at, less_shares}
use Rattle.rules.specs.Trading.{fewer, fills_of, total, fill_events}
use Rattle.rules.specs.Repricing.{repriced, follower, repriced_report, fall, rests_last, row_rises, rise_of, rise, each, numbers, reprices}
use Rattle.rules.proofs.Events.{replay-++}
use Rattle.matching.specs.declared.line.Line.{Line}
use Rattle.matching.specs.declared.reports.Reports.{Reports}
use Rattle.matching.specs.Held.{held, Becomes}
use Rattle.matching.specs.Reported.{Reported}
use Rattle.matching.specs.Changes.{Makes}
use Rattle.matching.proofs.Making.{reported_none, makes_none, makes_then, makes}

-- THE SECOND PASS

module _ (q : Quote) (number : ℕ) (line : Line) (table : Reports) (p : Placed) (e : Some p ≡ follower number (held line)) (new : OrderRow) (is : new ≡ repriced q p.row) (entry : Entry) (entry-is : entry ≡ entry_of new)
    {line₁ line₂ : Line} {table₁ table₂ : Reports} (removed : Becomes line (replace_at p.place [] (held line)) line₁) (t : Reported (repriced_report new ∷ []) table table₁)
    (traded : Makes (fill_events (fills_of entry new.working (held line₁))) line₁ table₁ line₂ table₂) where
  fills_are : fills_of (entry_of new) new.working (replace_at p.place [] (held line)) ≡ fills_of entry new.working (held line₁)
  fills_are = sym (λ i. fills_of (entry-is i) new.working (removed.holds i))

  rises_is : rise q number (held line) ≡ (reports (repriced_report new) ∷ leaves p.place ∷ []) ++ (fill_events (fills_of entry new.working (held line₁)) ++ rests_last new (fills_of entry new.working (held line₁)))
  rises_is = ap (λ o. rise_of q o (held line)) (sym e) ∙ ap (λ n. row_rises n p (held line)) (sym is) ∙ ap (λ fs. reports (repriced_report new) ∷ leaves p.place ∷ (fill_events fs ++ rests_last new fs)) fills_are

  -- the events up to the fills, and then what becomes of the rest
  rises_with : {es : List Event} {line₃ : Line} {table₃ : Reports} → rests_last new (fills_of entry new.working (held line₁)) ≡ es → Makes es line₂ table₂ line₃ table₃ → Makes (rise q number (held line)) line table line₃ table₃
  rises_with {es} {line₃} {table₃} r m =
      let all : rise q number (held line) ≡ (reports (repriced_report new) ∷ leaves p.place ∷ []) ++ (fill_events (fills_of entry new.working (held line₁)) ++ es) = rises_is ∙ ap (λ es. (reports (repriced_report new) ∷ leaves p.place ∷ []) ++ (fill_events (fills_of entry new.working (held line₁)) ++ es)) r in
      subst (λ es. Makes es line table line₃ table₃) (sym all) (makes_then (makes (reports (repriced_report new) ∷ leaves p.place ∷ []) removed t) (makes_then traded m))

  module _ (left : Entry) (left_is : left ≡ fewer (total (fills_of entry new.working (held line₁))) entry) where
    shares_left : left.shares ≡ new.shares - total (fills_of entry new.working (held line₁))
    shares_left = ap (λ e. e.shares) left_is ∙ ap (λ e. e.shares - total (fills_of entry new.working (held line₁))) entry-is

    pub rises_emptied : left.shares ≡ 0 → Makes (rise q number (held line)) line table line₂ table₂
    rises_emptied z =
        let c : eqb (new.shares - total (fills_of entry new.working (held line₁))) 0 ≡ true = grind (arith, nat_tests, shares_left) in
        rises_with (rw c refl) (makes_none line₂ table₂)

    pub rises_rests : (left.shares ≡ 0 → ⊥) → {line₃ : Line} → Becomes line₂ (held line₂ ++ with_shares left.shares new ∷ []) line₃ → Makes (rise q number (held line)) line table line₃ table₂
    rises_rests some {line₃} l =
        let z : new.shares - total (fills_of entry new.working (held line₁)) ≡ 0 → ⊥ = λ h. some (shares_left ∙ h) in
        let c : eqb (new.shares - total (fills_of entry new.working (held line₁))) 0 ≡ false = ne_eqb _ _ z in
        rises_with (rw (c, ← shares_left) refl) (makes (joins (with_shares left.shares new) ∷ []) l (reported_none table₂))

-- ONE NUMBER AFTER ANOTHER

each_push : (f : ℕ → lines.Line → List Event) (ns : List ℕ) (n : ℕ) (line : lines.Line) → each f (ns ++ n ∷ []) line ≡ each f ns line ++ f n (replay (each f ns line) line)
each_push f [] n line = append-nil (f n line)
each_push f (m ∷ ms) n line =
    ap (λ es. f m line ++ es) (each_push f ms n (replay (f m line) line))
    ∙ sym (append_assoc (f m line) (each f ms (replay (f m line) line)) _)
    ∙ ap (λ l. (f m line ++ each f ms (replay (f m line) line)) ++ f n l) (sym (replay-++ (f m line) (each f ms (replay (f m line) line)) line))

-- the turn of the number at k, after the turns of those before it
pub each_more : (f : ℕ → lines.Line → List Event) (ns : List ℕ) (k n d : ℕ) {line line₁ line₂ : Line} {table table₁ table₂ : Reports} → n ≡ get_or ns k d → k < length ns
    → Makes (each f (take k ns) (held line)) line table line₁ table₁ → Makes (f n (held line₁)) line₁ table₁ line₂ table₂ → Makes (each f (take (k + 1) ns) (held line)) line table line₂ table₂
each_more f ns k n d {line} {line₁} {line₂} {table} {table₁} {table₂} is more m one =
    let e : each f (take (k + 1) ns) (held line) ≡ each f (take k ns) (held line) ++ f n (replay (each f (take k ns) (held line)) (held line)) = ap (λ xs. each f xs (held line)) (take_more ns k d more ∙ ap (λ x. take k ns ++ x ∷ []) (sym is)) ∙ each_push f (take k ns) n (held line) in
    let l : f n (replay (each f (take k ns) (held line)) (held line)) ≡ f n (held line₁) = ap (f n) (sym m.made.line_is) in
    subst (λ es. Makes es line table line₂ table₂) (sym (e ∙ ap (λ es. each f (take k ns) (held line) ++ es) l)) (makes_then m one)

-- the first pass, and then the second
pub both_passes : (q : Quote) (ns₁ ns₂ : List ℕ) {line line₁ line₂ : Line} {table table₁ table₂ : Reports} → ns₁ ≡ numbers q First (held line) → ns₂ ≡ numbers q Second (held line)
    → Makes (each (fall q) ns₁ (held line)) line table line₁ table₁ → Makes (each (rise q) ns₂ (held line₁)) line₁ table₁ line₂ table₂ → Makes (reprices q (held line)) line table line₂ table₂
both_passes q ns₁ ns₂ {line} {line₁} {line₂} {table} {table₁} {table₂} e₁ e₂ m₁ m₂ =
    let es = each (fall q) (numbers q First (held line)) (held line) in
    let m : Makes es line table line₁ table₁ = subst (λ ns. Makes (each (fall q) ns (held line)) line table line₁ table₁) e₁ m₁ in
    let l : each (rise q) ns₂ (held line₁) ≡ each (rise q) (numbers q Second (held line)) (replay es (held line)) = λ i. each (rise q) (e₂ i) (m.made.line_is i) in
    subst (λ fs. Makes (es ++ fs) line table line₂ table₂) l (makes_then m m₂)
