-- Every row that the rules put into a line of formed rows is formed.
use Rattle.std.proofs.Common.{◌≡◌, ℕ, zero, suc, ◌-◌, ◌<◌, Bool, true, false, cond, leb, [], ◌∷◌, ◌++◌, Some, None, Option, sym, refl, ap, ◌∙◌, subst, arith}
use Rattle.std.proofs.lemmas.Bool.Decides.{nat_tests}
use Rattle.std.proofs.lemmas.List.Folds.{list_all-append}
use Rattle.std.specs.Cmp.{first_so, second_so}
use Rattle.std.specs.Cmp.Derive.{both_true}
use Rattle.std.specs.List.{slice_get}
use Rattle.market.specs.declared.side.Side.{Side}
use Rattle.market.specs.declared.side.Side.TheVariants.{Buy, Sell}
use Rattle.market.specs.declared.row.Kind.{Kind}
use Rattle.market.specs.declared.row.Kind.TheVariants.{Limit, Ioc, Market, Hidden, NonRoutable}
use Rattle.market.specs.declared.row.State.{State}
use Rattle.market.specs.declared.row.State.TheVariants as state
use Rattle.market.specs.declared.row.OrderRow.{OrderRow}
use Rattle.market.specs.declared.row.Entry.{Entry}
use Rattle.market.specs.declared.quote.Quote.{Quote}
use Rattle.market.specs.Sides.{opposite, inside}
use Rattle.market.specs.Prices.{step_back}
use Rattle.market.specs.Quotes.{away}
use Rattle.market.specs.Rows.{row_of, with_shares, is_resting, countable, displays_behind, well_priced, formed}
use Rattle.rules.specs.declared.trading.Fill.{Fill}
use Rattle.rules.specs.Lines.{Line, fills, less_shares, unfilled, after, replace_at, to_end, all_formed}
use Rattle.rules.specs.Arrival.{limit_or_collar, held_to, bound, reached, reached_by, remainder_of, remainder, remainder_rows}
use Rattle.rules.specs.Repricing.{at_prices, at_limit, at_away, slid, off_limit, is_at_limit, repriced_as, repriced, follows}
use Rattle.rules.proofs.Rank.{first_top}
use Rattle.rules.proofs.Trade.{Met, placed}

-- LINES

pub nth_formed : (line : Line) (i : ℕ) (r : OrderRow) → all_formed line ≡ true → slice_get line i ≡ Some r → formed r ≡ true
nth_formed [] i r h e = cc
nth_formed (x ∷ xs) zero r h e = let q : x ≡ r = cc in ap formed (sym q) ∙ first_so _ _ h
nth_formed (x ∷ xs) (suc i) r h e = nth_formed xs i r (second_so _ _ h) e

pub append_formed : (xs ys : Line) → all_formed xs ≡ true → all_formed ys ≡ true → all_formed (xs ++ ys) ≡ true
append_formed xs ys h k = list_all-append formed xs ys ∙ both_true h k

pub replace_formed : (i : ℕ) (new line : Line) → all_formed line ≡ true → all_formed new ≡ true → all_formed (replace_at i new line) ≡ true
replace_formed i new [] h k = refl
replace_formed zero new (x ∷ xs) h k = append_formed new xs k (second_so _ _ h)
replace_formed (suc i) new (x ∷ xs) h k = both_true (first_so _ _ h) (replace_formed i new xs (second_so _ _ h) k)

pub to_end_formed : (i : ℕ) (line : Line) → all_formed line ≡ true → all_formed (to_end i line) ≡ true
to_end_formed i [] h = refl
to_end_formed zero (x ∷ xs) h = append_formed xs (x ∷ []) (second_so _ _ h) (both_true (first_so _ _ h) refl)
to_end_formed (suc i) (x ∷ xs) h = both_true (first_so _ _ h) (to_end_formed i xs (second_so _ _ h))

pub one_formed : (r : OrderRow) → formed r ≡ true → all_formed (r ∷ []) ≡ true
one_formed r h = both_true h refl

pub shares_formed : (r : OrderRow) (n : ℕ) → formed r ≡ true → countable n ≡ true → formed (with_shares n r) ≡ true
shares_formed r n f c = both_true c (second_so (countable r.shares) _ f)

-- FILLS

fewer_countable : (n k : ℕ) → k < n → countable n ≡ true → countable (n - k) ≡ true
fewer_countable n k h e = grind (arith, nat_tests)

pub less_formed : (r : OrderRow) (k : ℕ) → k < r.shares → formed r ≡ true → formed (less_shares k r) ≡ true
less_formed r k h e = both_true (fewer_countable r.shares k h (first_so _ _ e)) (second_so (countable r.shares) _ e)

pub unfilled_formed : (r : OrderRow) (k : ℕ) → formed r ≡ true → all_formed (unfilled r k) ≡ true
unfilled_formed r k e = go (leb r.shares k) refl
  where
    go : (b : Bool) → leb r.shares k ≡ b → all_formed (cond b [] (less_shares k r ∷ [])) ≡ true
    go true d = refl
    go false d = let l : k < r.shares = grind (arith, nat_tests) in one_formed (less_shares k r) (less_formed r k l e)

pub met_formed : {e : Entry} {b : ℕ} {line : Line} {f : Fill} → Met e b line f → all_formed line ≡ true → formed f.resting ≡ true
met_formed {e} {b} {line} {f} m h = nth_formed line f.place f.resting h (first_top (opposite e.side) line (placed f) m.is).there

pub fill_formed : {e : Entry} {b : ℕ} {line : Line} {f : Fill} → Met e b line f → all_formed line ≡ true → all_formed (after (fills f) line) ≡ true
fill_formed {line} {f} m h = replace_formed f.place (unfilled f.resting f.shares) line h (unfilled_formed f.resting f.shares (met_formed m h))

-- REMAINDERS

pub inside_refl : (side : Side) (p : ℕ) → inside side p p ≡ true
inside_refl Buy p = grind (arith, nat_tests)
inside_refl Sell p = grind (arith, nat_tests)

inside_trans : (side : Side) (a b c : ℕ) → inside side a b ≡ true → inside side b c ≡ true → inside side a c ≡ true
inside_trans Buy a b c h k = grind (arith, nat_tests)
inside_trans Sell a b c h k = grind (arith, nat_tests)

pub step_back_inside : (side : Side) (p : ℕ) → inside side (step_back side p) p ≡ true
step_back_inside Buy p = grind (arith, nat_tests)
step_back_inside Sell p = grind (arith, nat_tests)

pub held_inside : (side : Side) (p : ℕ) (a : Option ℕ) → inside side (held_to side p a) p ≡ true
held_inside side p None = inside_refl side p
held_inside Buy p (Some a) = grind (arith, nat_tests)
held_inside Sell p (Some a) = grind (arith, nat_tests)

pub reached_inside : (side : Side) (p : ℕ) (a : Option ℕ) (x : ℕ) → reached side p a ≡ Some x → inside side x p ≡ true
reached_inside side p None x e = cc
reached_inside Buy p (Some y) x e = grind (arith, nat_tests)
reached_inside Sell p (Some y) x e = grind (arith, nat_tests)

pub rests_formed : (e : Entry) (w : ℕ) (d : Option ℕ) → countable e.shares ≡ true → inside e.side w e.limit ≡ true → displays_behind e.side d w ≡ true → formed (row_of e state.Resting w d) ≡ true
rests_formed e w d c i s = both_true c (both_true i s)

module _ (q : Quote) (e : Entry) (c : countable e.shares ≡ true) where
  rests_at_limit : all_formed (row_of e state.Resting e.limit (Some e.limit) ∷ []) ≡ true
  rests_at_limit = one_formed (row_of e state.Resting e.limit (Some e.limit)) (rests_formed e e.limit (Some e.limit) c (inside_refl e.side e.limit) (inside_refl e.side e.limit))

  waits : all_formed (row_of e state.Waiting 0 None ∷ []) ≡ true
  waits = one_formed (row_of e state.Waiting 0 None) (both_true c refl)

  hidden : Hidden ≡ e.kind → all_formed (row_of e state.Resting (bound q e) None ∷ []) ≡ true
  hidden k =
      let i : inside e.side (bound q e) e.limit ≡ true = subst (λ k. inside e.side (held_to e.side (limit_or_collar q e k) (away q e.side)) e.limit ≡ true) k (held_inside e.side e.limit (away q e.side)) in
      one_formed (row_of e state.Resting (bound q e) None) (rests_formed e (bound q e) None c i refl)

  by_kind : (k : Kind) (a : Option ℕ) → k ≡ e.kind → reached e.side (limit_or_collar q e k) (away q e.side) ≡ a → all_formed (remainder_rows e (remainder_of q e k a)) ≡ true
  by_kind Limit (Some a) k h = waits
  by_kind Limit None k h = rests_at_limit
  by_kind Ioc (Some a) k h = refl
  by_kind Ioc None k h = refl
  by_kind Market (Some a) k h = waits
  by_kind Market None k h = refl
  by_kind Hidden (Some a) k h = hidden k
  by_kind Hidden None k h = hidden k
  by_kind NonRoutable (Some a) k h = one_formed (row_of e state.Resting a (Some (step_back e.side a))) (rests_formed e a (Some (step_back e.side a)) c (reached_inside e.side e.limit (away q e.side) a h) (step_back_inside e.side a))
  by_kind NonRoutable None k h = rests_at_limit

  pub remainder_formed : all_formed (remainder_rows e (remainder q e)) ≡ true
  remainder_formed = by_kind e.kind (reached_by q e) refl refl

-- REPRICED ROWS

module _ (r : OrderRow) (f : formed r ≡ true) where
  priced_formed : (w : ℕ) (d : Option ℕ) → inside r.side w r.limit ≡ true → displays_behind r.side d w ≡ true → r.state ≡ state.Resting → formed (at_prices w d r) ≡ true
  priced_formed w d i s k =
      both_true (first_so _ _ f)
      (ap (λ t. well_priced t r.side r.limit w d) k ∙ both_true i s)

  limit_formed : r.state ≡ state.Resting → formed (at_limit r) ≡ true
  limit_formed k = priced_formed r.limit (Some r.limit) (inside_refl r.side r.limit) (inside_refl r.side r.limit) k

  away_formed : (a : ℕ) → inside r.side a r.limit ≡ true → r.state ≡ state.Resting → formed (at_away a r) ≡ true
  away_formed a i k = priced_formed a (Some (step_back r.side a)) i (step_back_inside r.side a) k

  display_inside : (d : ℕ) → r.display ≡ Some d → r.state ≡ state.Resting → inside r.side d r.limit ≡ true
  display_inside d e k =
      let w : well_priced state.Resting r.side r.limit r.working (Some d) ≡ true = sym (λ i. well_priced (k i) r.side r.limit r.working (e i)) ∙ second_so (countable r.shares) _ f in
      inside_trans r.side d r.working r.limit (second_so (inside r.side r.working r.limit) _ w) (first_so _ _ w)

  slid_formed : (o : Option ℕ) (a : ℕ) → r.display ≡ o → inside r.side a r.limit ≡ true → r.state ≡ state.Resting → formed (slid o a r) ≡ true
  slid_formed None a e i k = away_formed a i k
  slid_formed (Some d) a e i k = go (inside r.side a d)
    where
      go : (b : Bool) → formed (cond b (at_prices d (Some d) r) (at_away a r)) ≡ true
      go true = priced_formed d (Some d) (display_inside d e k) (inside_refl r.side d) k
      go false = away_formed a i k

  off_formed : (o away : Option ℕ) → reached r.side r.limit away ≡ o → r.state ≡ state.Resting → formed (off_limit o r) ≡ true
  off_formed None away e k = limit_formed k
  off_formed (Some a) away e k = slid_formed r.display a refl (reached_inside r.side r.limit away a e) k

  kind_formed : (q : Quote) (k : Kind) → r.state ≡ state.Resting → formed (repriced_as q r k) ≡ true
  kind_formed q Limit k = f
  kind_formed q Ioc k = f
  kind_formed q Market k = f
  kind_formed q Hidden k = priced_formed _ None (held_inside r.side r.limit (away q r.side)) refl k
  kind_formed q NonRoutable k = go (is_at_limit r)
    where
      go : (b : Bool) → formed (cond b r (off_limit (reached r.side r.limit (away q r.side)) r)) ≡ true
      go true = f
      go false = off_formed (reached r.side r.limit (away q r.side)) (away q r.side) refl k

  pub repriced_formed : (q : Quote) → r.state ≡ state.Resting → formed (repriced q r) ≡ true
  repriced_formed q k = kind_formed q r.kind k

resting_is : (s : State) → is_resting s ≡ true → s ≡ state.Resting
resting_is state.Resting e = refl
resting_is state.Waiting e = cc
resting_is state.Away e = cc

pub follower_formed : (q : Quote) (r : OrderRow) → formed r ≡ true → follows r ≡ true → formed (repriced q r) ≡ true
follower_formed q r f h = repriced_formed r f q (resting_is r.state (first_so _ _ h))
