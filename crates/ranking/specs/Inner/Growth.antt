-- Things that grow step by step, of which only k are kept. `grow t x` are those that x becomes at step t, in their order, and `cost m t x`
-- is the least that x can cost in the end, with m steps left, the first of them step t. Everything here computes.
use mathlib.Core.List.{List, map, flat_map}
use Rattle.std.specs.Prelude.{ℕ, zero, suc, ◌+◌}
use Rattle.paths.specs.Inner.Graph.{Graph}
use Rattle.paths.specs.Inner.Costs.{plus, least}
use Rattle.ranking.specs.Inner.Kept.{keep_live}

-- the step behind m steps
unfoldable pub after : ℕ → ℕ → ℕ
after zero t = t
after (suc m) t = after m (suc t)

-- all of them, m steps later
unfoldable pub spread : {A : Type 0} → (ℕ → A → List A) → ℕ → ℕ → List A → List A
spread grow zero t xs = xs
spread grow (suc m) t xs = spread grow m (suc t) (flat_map (grow t) xs)

-- k of them at each step
unfoldable pub narrow : {A : Type 0} → (ℕ → A → List A) → (ℕ → ℕ → A → ℕ) → ℕ → ℕ → ℕ → ℕ → List A → List A
narrow grow cost top k zero t xs = xs
narrow grow cost top k (suc m) t xs = narrow grow cost top k m (suc t) (keep_live (cost m (suc t)) top k (flat_map (grow t) xs))

-- ---- the beginning of a path: what is remembered of it, the vertex where it stands, and what is paid for it
pub record Start (H : Type 0) : Type 0 where
  pub had : H
  pub at : ℕ
  pub paid : ℕ

abbrev pub start : {H : Type 0} → H → ℕ → ℕ → Start H
start h v c = record { had = h; at = v; paid = c }

module _ {E P H : Type 0} (G : Graph E P) (price : ℕ → E → ℕ) (put : H → E → H) where
  -- one edge more
  unfoldable pub further : ℕ → Start H → E → Start H
  further t x e = record { had = put x.had e; at = G.to e; paid = x.paid + price t e }

  unfoldable pub extended : ℕ → Start H → List (Start H)
  extended t x = map (further t x) (G.out t x.at)

-- what is paid, and the least that is left to pay
unfoldable pub rated : {E P H : Type 0} → Graph E P → (ℕ → E → ℕ) → ℕ → (ℕ → ℕ) → ℕ → ℕ → Start H → ℕ
rated G price top final m t x = plus top x.paid (least G price top final m t x.at)
