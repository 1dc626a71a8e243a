-- The numbers of the orders that have their turn in a pass, gathered one row after another.
use Rattle.std.proofs.Common.{◌≡◌, ℕ, ◌+◌, ◌<◌, ◌≤◌, Bool, true, false, cond, not, ◌&&◌, List, [], ◌∷◌, ◌++◌, length, get_or, take, sym, refl, ap, ◌∙◌, append-nil, arith}
use Rattle.std.proofs.lemmas.List.{take_more}
use Rattle.market.specs.declared.row.OrderRow.{OrderRow}
use Rattle.market.specs.declared.quote.Quote.{Quote}
use Rattle.rules.specs.declared.repricing.Pass.{Pass}
use Rattle.rules.specs.declared.repricing.Pass.TheVariants.{First, Second}
use Rattle.rules.specs.Lines.{Line}
use Rattle.rules.specs.Repricing.{follows, rises, takes_part, numbers}

abbrev one : Quote → Pass → OrderRow → List ℕ
one q pass r = cond (takes_part q pass r) (r.number ∷ []) []

numbers_push : (q : Quote) (pass : Pass) (xs : Line) (r : OrderRow) → numbers q pass (xs ++ r ∷ []) ≡ numbers q pass xs ++ one q pass r
numbers_push q pass [] r = refl
numbers_push q pass (x ∷ xs) r = go (takes_part q pass x) (numbers_push q pass xs r)
  where
    go : (b : Bool) → numbers q pass (xs ++ r ∷ []) ≡ numbers q pass xs ++ one q pass r → cond b (x.number ∷ numbers q pass (xs ++ r ∷ [])) (numbers q pass (xs ++ r ∷ [])) ≡ cond b (x.number ∷ numbers q pass xs) (numbers q pass xs) ++ one q pass r
    go true e = ap (λ z. x.number ∷ z) e
    go false e = e

-- the numbers of one row more
module _ (q : Quote) (pass : Pass) (line : Line) (i : ℕ) (r d : OrderRow) (is : r ≡ get_or line i d) (more : i < length line) where
  push : (b : Bool) → takes_part q pass r ≡ b → numbers q pass (take (i + 1) line) ≡ numbers q pass (take i line) ++ cond b (r.number ∷ []) []
  push b t = ap (numbers q pass) (take_more line i d more ∙ ap (λ x. take i line ++ x ∷ []) (sym is)) ∙ numbers_push q pass (take i line) r ∙ ap (λ b. numbers q pass (take i line) ++ cond b (r.number ∷ []) []) t

  pub gathers : takes_part q pass r ≡ true → numbers q pass (take (i + 1) line) ≡ numbers q pass (take i line) ++ r.number ∷ []
  gathers = push true

  pub skips : takes_part q pass r ≡ false → numbers q pass (take (i + 1) line) ≡ numbers q pass (take i line)
  skips t = push false t ∙ append-nil (numbers q pass (take i line))

-- no order has its turn in both passes
pub passes_apart : (q : Quote) (line : Line) → length (numbers q First line) + length (numbers q Second line) ≤ length line
passes_apart q [] = omega arith
passes_apart q (r ∷ rs) = go (follows r) (rises q r) (passes_apart q rs)
  where
    go : (f u : Bool) → length (numbers q First rs) + length (numbers q Second rs) ≤ length rs
        → length (cond (f && not u) (r.number ∷ numbers q First rs) (numbers q First rs)) + length (cond (f && u) (r.number ∷ numbers q Second rs) (numbers q Second rs)) ≤ length (r ∷ rs)
    go true true h = omega arith
    go true false h = omega arith
    go false true h = omega arith
    go false false h = omega arith
