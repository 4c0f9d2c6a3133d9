-- Least costs as plain numbers, as a program keeps them. A number `top` stands for no path, and for every cost from it on.
-- Backward the numbers follow step by step; forward they name the path, edge by edge. Everything here computes.
use Rattle.std.specs.Prelude.{Bool, cond, List, [], ◌∷◌, ℕ, zero, suc, ◌+◌, min, eqb}
use Rattle.std.proofs.Math.Option.{Option, none as nothing, some as just}
use Rattle.paths.specs.Inner.Graph.{Graph}

-- d more to pay
unfoldable pub plus : ℕ → ℕ → ℕ → ℕ
plus top d x = min top (d + x)

-- the least of the numbers of a list's members
unfoldable pub min_all : {A : Type 0} → ℕ → (A → ℕ) → List A → ℕ
min_all top f [] = top
min_all top f (x ∷ xs) = min (f x) (min_all top f xs)

unfoldable pub or_stop : {E P : Type 0} → P → (E → P) → Option E → P
or_stop p f nothing = p
or_stop p f (just e) = f e

-- the first member that passes a test
unfoldable pub first_with : {A : Type 0} → (A → Bool) → List A → Option A
first_with test [] = nothing
first_with test (x ∷ xs) = cond (test x) (just x) (first_with test xs)

-- `cost t e` is what the edge e costs at step t, `final v` what it costs to end in v
module _ {E P : Type 0} (G : Graph E P) (cost : ℕ → E → ℕ) (top : ℕ) (final : ℕ → ℕ) where
  -- backward: the least cost of k steps from vertex v, the first of them step t
  unfoldable pub least : ℕ → ℕ → ℕ → ℕ
  least zero t v = final v
  least (suc k) t v = min_all top (λ e. plus top (cost t e) (least k (suc t) (G.to e))) (G.out t v)

  -- forward: the first edge whose cost and the least cost from where it leads add up to the least cost here
  unfoldable pub next : ℕ → ℕ → ℕ → Option E
  next k t v = first_with (λ e. eqb (plus top (cost t e) (least k (suc t) (G.to e))) (least (suc k) t v)) (G.out t v)

  -- the path that these edges make; `stop v` is the path with no step left
  unfoldable pub trace : (ℕ → P) → ℕ → ℕ → ℕ → P
  trace stop zero t v = stop v
  trace stop (suc k) t v = or_stop (stop v) (λ e. G.onto e (trace stop k (suc t) (G.to e))) (next k t v)
