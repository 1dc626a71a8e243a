-- The trade of an order in hand as a relation, which hides the count of fills. There is one way to trade.
use Rattle.std.proofs.Common.{◌≡◌, ℕ, zero, suc, ◌-◌, ◌<◌, ◌≤◌, min, Bool, true, false, cond, ◌&&◌, ltb, leb, ◌⊎◌, List, [], ◌∷◌, length, Some, None, Option, sym, refl, ap, ◌∙◌, subst, inl, inr, arith}
use Rattle.std.proofs.lemmas.Bool.Decides.{nat_tests}
use Rattle.std.specs.List.{slice_get}
use Rattle.market.specs.declared.side.Side.{Side}
use Rattle.market.specs.declared.side.Side.TheVariants.{Buy, Sell}
use Rattle.market.specs.declared.row.OrderRow.{OrderRow}
use Rattle.market.specs.declared.row.Entry.{Entry}
use Rattle.market.specs.Sides.{opposite, inside}
use Rattle.market.specs.Rows.{rests_on, outranks}
use Rattle.rules.specs.declared.trading.Placed.{Placed}
use Rattle.rules.specs.declared.trading.Fill.{Fill}
use Rattle.rules.specs.Lines.{Line, fills, first_ranked, less_shares, after, replace_at}
use Rattle.rules.specs.Trading.{fewer, fill_with, next_fill, trade}
use Rattle.rules.proofs.Rank.{Topped, topped, first_top}

abbrev pub placed : Fill → Placed
placed f = record { place = f.place; row = f.resting }

-- the next fill
pub record Met (e : Entry) (bound : ℕ) (line : Line) (f : Fill) : Type 0 where
  pub trading : f.trading ≡ e
  pub is : first_ranked (opposite e.side) line ≡ Some (placed f)
  pub lets : inside e.side f.resting.working bound ≡ true
  pub size : f.shares ≡ min e.shares f.resting.shares
  pub some : 0 < e.shares

-- no row of the other side works inside the bound
abbrev pub Clear : Side → ℕ → Line → Type 0
Clear side bound line = (j : ℕ) (r : OrderRow) → slice_get line j ≡ Some r → rests_on (opposite side) r ≡ true → inside side r.working bound ≡ false

abbrev pub Done : Entry → ℕ → Line → Type 0
Done e bound line = (e.shares ≡ 0) ⊎ Clear e.side bound line

pub data Traded : Entry → ℕ → Line → List Fill → Type 0 where
  stops : {e : Entry} {bound : ℕ} {line : Line} → Done e bound line → Traded e bound line []
  goes : {e : Entry} {bound : ℕ} {line : Line} {f : Fill} {fs : List Fill} → Met e bound line f → Traded (fewer f.shares e) bound (after (fills f) line) fs → Traded e bound line (f ∷ fs)

abbrev pub Next : Entry → ℕ → Line → Option Fill → Type 0
Next e bound line None = Done e bound line
Next e bound line (Some f) = Met e bound line f

-- a row that does not outrank one past the bound is past the bound
past : (side : Side) (r m : OrderRow) (bound : ℕ) → outranks (opposite side) r m ≡ false → inside side m.working bound ≡ false → inside side r.working bound ≡ false
past Buy r m bound o e = grind (arith, nat_tests)
past Sell r m bound o e = grind (arith, nat_tests)

pub upto : (e : Entry) (bound : ℕ) (line : Line) → Next e bound line (next_fill e bound line)
upto e bound line = go (first_ranked (opposite e.side) line) refl (topped (opposite e.side) line)
  where
    go : (o : Option Placed) → first_ranked (opposite e.side) line ≡ o → Topped (opposite e.side) line o → Next e bound line (fill_with e bound o)
    go None is none = inr (λ j r a h. absurd (none j r a h))
    go (Some p) is f = go2 (ltb 0 e.shares) refl (inside e.side p.row.working bound) refl
      where
        go2 : (b : Bool) → ltb 0 e.shares ≡ b → (c : Bool) → inside e.side p.row.working bound ≡ c → Next e bound line (cond (b && c) (Some (record { trading = e; place = p.place; resting = p.row; shares = min e.shares p.row.shares })) None)
        go2 true d true i = record { trading = refl; is = is; lets = i; size = refl; some = grind (arith, nat_tests) }
        go2 true d false i = inr (λ j r a h. past e.side r p.row bound (f.above j r a h).0 i)
        go2 false d true i = inl (grind (arith, nat_tests))
        go2 false d false i = inl (grind (arith, nat_tests))

-- THE COUNT of fills is enough

pub leaves_shorter : (i : ℕ) (line : Line) (r : OrderRow) → slice_get line i ≡ Some r → length (replace_at i [] line) < length line
leaves_shorter i [] r e = cc
leaves_shorter zero (x ∷ xs) r e = omega arith
leaves_shorter (suc i) (x ∷ xs) r e = let h = leaves_shorter i xs r e in omega arith

pub shrinks : (k : ℕ) (e : Entry) (bound : ℕ) (line : Line) (f : Fill) → Met e bound line f → (length line ≤ suc k) ⊎ (e.shares ≡ 0) → (length (after (fills f) line) ≤ k) ⊎ (e.shares - f.shares ≡ 0)
shrinks k e bound line f m (inr h) = inr (omega arith)
shrinks k e bound line f m (inl h) = go (leb f.resting.shares f.shares) refl
  where
    go : (b : Bool) → leb f.resting.shares f.shares ≡ b → (length (replace_at f.place (cond b [] (less_shares f.shares f.resting ∷ [])) line) ≤ k) ⊎ (e.shares - f.shares ≡ 0)
    go true d = let l = leaves_shorter f.place line f.resting (first_top (opposite e.side) line (placed f) m.is).there in inl (omega arith)
    go false d = inr (grind (arith, nat_tests, m.size))

pub trades : (k : ℕ) (e : Entry) (bound : ℕ) (line : Line) → (length line ≤ k) ⊎ (e.shares ≡ 0) → Traded e bound line (trade k e bound line)
trades zero e bound line (inr z) = stops (inl z)
trades zero e bound [] (inl h) = stops (inr (λ j r a g. cc))
trades zero e bound (x ∷ xs) (inl h) = absurd (omega arith)
trades (suc k) e bound line h = go (trades k) (next_fill e bound line) (upto e bound line)
  where
    go : ((e : Entry) (bound : ℕ) (line : Line) → (length line ≤ k) ⊎ (e.shares ≡ 0) → Traded e bound line (trade k e bound line)) → (o : Option Fill) → Next e bound line o
        → Traded e bound line (elim o [ None ↦ [] | Some f ↦ f ∷ trade k (fewer f.shares e) bound (after (fills f) line) ])
    go ih None d = stops d
    go ih (Some f) m = goes m (ih (fewer f.shares e) bound (after (fills f) line) (shrinks k e bound line f m h))

-- THERE IS ONE WAY to trade

not_done : {e : Entry} {bound : ℕ} {line : Line} {f : Fill} → Done e bound line → Met e bound line f → ⊥
not_done (inl z) m = let s = m.some in omega arith
not_done {e} {bound} {line} {f} (inr clear) m =
    let h = first_top (opposite e.side) line (placed f) m.is in
    cc (m.lets, clear f.place f.resting h.there h.right)

one_met : {e : Entry} {bound : ℕ} {line : Line} (f g : Fill) → Met e bound line f → Met e bound line g → f ≡ g
one_met {e} f g m n =
    let p : placed f ≡ placed g = cc (m.is, n.is) in
    let q : f.trading ≡ g.trading = m.trading ∙ sym n.trading in
    let s : f.shares ≡ g.shares = m.size ∙ ap (λ p. min e.shares p.row.shares) p ∙ sym n.size in
    λ i. record { trading = q i; place = (p i).place; resting = (p i).row; shares = s i }

pub one_way : {e : Entry} {bound : ℕ} {line : Line} {fs gs : List Fill} → Traded e bound line fs → Traded e bound line gs → fs ≡ gs
one_way (stops d) (stops c) = refl
one_way (stops d) (goes m r) = absurd (not_done d m)
one_way (goes m r) (stops c) = absurd (not_done c m)
one_way (goes {e} {bound = b} {line} {f} m r) (goes {f = g} {fs = gs} n s) =
    let is = one_met f g m n in
    let s' = subst (λ h. Traded (fewer h.shares e) b (after (fills h) line) gs) (sym is) s in
    λ i. is i ∷ one_way r s' i
