-- The dynamic program, for any graph of steps: what is best from a vertex follows from what is best one step on. All paths are the edge's
-- own paths joined over the edges, and the laws of choosing go through both.
use mathlib.Core.Path.{◌≡◌, refl, sym, ap, ◌∙◌}
use mathlib.Core.List.{List, map, flat_map}
use Prim.Native.Nat.{ℕ, zero, suc}
use Rattle.paths.specs.Choice.{Choice}
use Rattle.paths.specs.Inner.Graph.{Graph}
use Rattle.paths.proofs.Choose.{all_map, all_flat_map, all_extend, all_same, extend, choose_all}

-- all paths of k steps from vertex v, the first of them step t, in the order of their edges
unfoldable pub paths : {E P : Type 0} → Graph E P → ℕ → ℕ → ℕ → List P
paths G zero t v = G.ends v
paths G (suc k) t v = flat_map (λ e. map (G.onto e) (paths G k (suc t) (G.to e))) (G.out t v)

-- `cost t e` is what the edge e costs at step t. `offer t p` is what a path costs from step t on, or that it is not allowed:
-- an edge in front of a path adds its own cost.
pub record Prices {E P : Type 0} (G : Graph E P) : Type 0 where
  pub cost : ℕ → E → ℕ
  pub offer : ℕ → P → Choice P
  pub more : (t : ℕ) (e : E) (p : P) → offer t (G.onto e p) ≡ extend (cost t e) (G.onto e) (offer (suc t) p)

-- backward: what is best from v follows from what is best one step on
unfoldable pub ahead : {E P : Type 0} {G : Graph E P} → Prices G → ℕ → ℕ → ℕ → Choice P
ahead {E} {P} {G} Q zero t v = choose_all (Q.offer t) (G.ends v)
ahead {E} {P} {G} Q (suc k) t v = choose_all (λ e. extend (Q.cost t e) (G.onto e) (ahead Q k (suc t) (G.to e))) (G.out t v)

module _ {E P : Type 0} {G : Graph E P} (Q : Prices G) where
  through : (t : ℕ) (e : E) (ps : List P)
      → choose_all (Q.offer t) (map (G.onto e) ps) ≡ extend (Q.cost t e) (G.onto e) (choose_all (Q.offer (suc t)) ps)
  through t e ps =
      all_map (Q.offer t) (G.onto e) ps ∙ all_same (Q.more t e) ps ∙ all_extend (Q.offer (suc t)) (Q.cost t e) (G.onto e) ps

  -- it is the first of least cost among all paths
  pub ahead_best : (k t v : ℕ) → ahead Q k t v ≡ choose_all (Q.offer t) (paths G k t v)
  unfolding ahead paths
  ahead_best zero t v = refl
  ahead_best (suc k) t v =
      all_same (λ e. ap (extend (Q.cost t e) (G.onto e)) (ahead_best k (suc t) (G.to e))
      ∙ sym (through t e (paths G k (suc t) (G.to e)))) (G.out t v)
      ∙ sym (all_flat_map (Q.offer t) (λ e. map (G.onto e) (paths G k (suc t) (G.to e))) (G.out t v))
