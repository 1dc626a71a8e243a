-- `first_ranked` finds the row that no row of the side outranks and that outranks each row of the side before it.
use Rattle.std.proofs.Common.{◌≡◌, ℕ, zero, suc, ◌<◌, Bool, true, false, cond, not, ◌&&◌, [], ◌∷◌, Some, None, Option, sym, refl, ap, ◌∙◌, subst, arith}
use Rattle.std.specs.List.{slice_get}
use Rattle.market.specs.declared.side.Side.{Side}
use Rattle.market.specs.declared.row.OrderRow.{OrderRow}
use Rattle.market.specs.Rows.{rests_on, outranks}
use Rattle.market.proofs.Outranking.{outranks_irrefl, outranks_asym, behind_trans}
use Rattle.rules.specs.declared.trading.Placed.{Placed}
use Rattle.rules.specs.Lines.{Line, first_ranked, ahead_of, at_front, one_back}

pub record Top (side : Side) (line : Line) (p : Placed) : Type 0 where
  pub there : slice_get line p.place ≡ Some p.row
  pub right : rests_on side p.row ≡ true
  pub above : (j : ℕ) (r : OrderRow) → slice_get line j ≡ Some r → rests_on side r ≡ true → (outranks side r p.row ≡ false) × (j < p.place → outranks side p.row r ≡ true)

-- what `first_ranked` answers
abbrev pub Topped : Side → Line → Option Placed → Type 0
Topped side line None = (j : ℕ) (r : OrderRow) → slice_get line j ≡ Some r → rests_on side r ≡ true → ⊥
Topped side line (Some p) = Top side line p

module _ (side : Side) (x : OrderRow) (xs : Line) where
  none_here : rests_on side x ≡ false → Topped side xs None → Topped side (x ∷ xs) None
  none_here off all zero r e h = cc
  none_here off all (suc j) r e h = all j r e h

  front_first : rests_on side x ≡ true → ((j : ℕ) (r : OrderRow) → slice_get xs j ≡ Some r → rests_on side r ≡ true → outranks side r x ≡ false) → Top side (x ∷ xs) (at_front x)
  front_first hx below = record { there = refl; right = hx; above = go }
    where
      go : (j : ℕ) (r : OrderRow) → slice_get (x ∷ xs) j ≡ Some r → rests_on side r ≡ true → (outranks side r x ≡ false) × (j < 0 → outranks side x r ≡ true)
      go zero r e h = let q : x ≡ r = cc in (ap (λ y. outranks side y x) (sym q) ∙ outranks_irrefl side x, λ l. absurd (omega arith))
      go (suc j) r e h = (below j r e h, λ l. absurd (omega arith))

  passed : (p : Placed) → (rests_on side x ≡ true → outranks side p.row x ≡ true) → Top side xs p → Top side (x ∷ xs) (one_back p)
  passed p over f = record { there = f.there; right = f.right; above = go }
    where
      go : (j : ℕ) (r : OrderRow) → slice_get (x ∷ xs) j ≡ Some r → rests_on side r ≡ true → (outranks side r p.row ≡ false) × (j < suc p.place → outranks side p.row r ≡ true)
      go zero r e h =
          let q : x ≡ r = cc in
          let o : outranks side p.row r ≡ true = ap (outranks side p.row) (sym q) ∙ over (ap (rests_on side) q ∙ h) in
          (outranks_asym side p.row r o, λ l. o)
      go (suc j) r e h = ((f.above j r e h).0, λ l. (f.above j r e h).1 (omega arith))

  more : (o : Option Placed) → Topped side xs o → Topped side (x ∷ xs) (ahead_of side x o)
  more None all = go (rests_on side x) refl
    where
      go : (b : Bool) → rests_on side x ≡ b → Topped side (x ∷ xs) (cond b (Some (at_front x)) None)
      go true e = front_first e (λ j r a h. absurd (all j r a h))
      go false e = none_here e all
  more (Some p) f = go (rests_on side x) refl (outranks side p.row x) refl
    where
      go : (b : Bool) → rests_on side x ≡ b → (c : Bool) → outranks side p.row x ≡ c → Topped side (x ∷ xs) (cond (b && not c) (Some (at_front x)) (Some (one_back p)))
      go true e true d = passed p (λ _. d) f
      go true e false d = front_first e (λ j r a h. behind_trans side x p.row r d (f.above j r a h).0)
      go false e true d = passed p (λ _. d) f
      go false e false d = passed p (λ t. cc) f

pub topped : (side : Side) (line : Line) → Topped side line (first_ranked side line)
topped side [] = λ j r e h. cc
topped side (x ∷ xs) = more side x xs (first_ranked side xs) (topped side xs)

pub first_top : (side : Side) (line : Line) (p : Placed) → first_ranked side line ≡ Some p → Top side line p
first_top side line p e = subst (Topped side line) e (topped side line)
