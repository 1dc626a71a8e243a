-- The row that the search finds is the first-ranked row of the rules.
use Rattle.std.proofs.Common.{◌≡◌, ℕ, ◌<◌, length, get_or, Some, None, Option, sym, refl, ap, ◌∙◌, ⊎_elim, arith}
use Rattle.std.specs.List.{slice_get}
use Rattle.std.proofs.lemmas.Option.{slice_get-get_or, slice_get_past}
use Rattle.std.proofs.lemmas.Bool.{cases_order, cases_lt}
use Rattle.market.specs.declared.side.Side.{Side}
use Rattle.market.specs.declared.row.OrderRow.{OrderRow}
use Rattle.market.specs.Rows.{rests_on, outranks}
use Rattle.ranking.specs.Ranking.{First}
use Rattle.rules.specs.declared.trading.Placed.{Placed}
use Rattle.rules.specs.Lines.{Line, first_ranked}
use Rattle.rules.proofs.Rank.{Top, Topped, topped}

pub first_none : (side : Side) (line : Line) → First (rests_on side) (outranks side) line None → None ≡ first_ranked side line
first_none side line none = go (first_ranked side line) (topped side line)
  where
    go : (o : Option Placed) → Topped side line o → None ≡ o
    go None t = refl
    go (Some p) t = cc (t.right, none p.place p.row t.there)

module _ (side : Side) (line : Line) (i : ℕ) (f : First (rests_on side) (outranks side) line (Some i)) where
  same_place : (p : Placed) → Top side line p → i ≡ p.place
  same_place p t =
      ⊎_elim (λ e. e) (⊎_elim
      (λ l. cc ((t.above i f.0.row f.0.here f.0.counted).1 l, f.0.unbeaten p.place p.row t.there t.right))
      (λ l. absurd (f.1 p.place l (record { within = within_of t.there; row = p.row; here = t.there; counted = t.right; unbeaten = λ k y e c. (t.above k y e c).0 }))))
      (cases_order i p.place)
    where
      within_of : slice_get line p.place ≡ Some p.row → p.place < length line
      within_of e = grind (arith, slice_get_past line p.place, cases_lt p.place (length line))

  pub first_some : (d : OrderRow) → Some (record { place = i; row = get_or line i d }) ≡ first_ranked side line
  first_some d = go (first_ranked side line) (topped side line)
    where
      go : (o : Option Placed) → Topped side line o → Some (record { place = i; row = get_or line i d }) ≡ o
      go None t = absurd (t i f.0.row f.0.here f.0.counted)
      go (Some p) t =
          let e = same_place p t in
          let s : Some (get_or line i d) ≡ Some p.row = sym (slice_get-get_or line i d f.0.within) ∙ ap (slice_get line) e ∙ t.there in
          let q : get_or line i d ≡ p.row = cc in
          λ j. Some (record { place = e j; row = q j })
