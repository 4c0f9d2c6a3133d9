-- Sums of the counts in a section are its additions, and with the roots its selections.
use mathlib.Core.Path.{◌≡◌, ap, ap₂, ◌∙◌}
use mathlib.Core.List.{List}
use Prim.Native.Nat.{ℕ, suc, ◌+◌, ◌-◌}
use native.Mathlib.Omega.{arith}
use lib.ListN.{get_or}
use Rattle.trellis.specs.Lists.{sum}
use Rattle.trellis.specs.Selections.{all_vertices, additions, selections}
use Rattle.trellis.specs.Layout.{n_of, vertex_count_of, edge_count_of}

module _ (l : List ℕ) {n x : ℕ} (x_is : x ≡ get_or l 1 0) (n_is : n ≡ x) where
  pub edges_sum : {edges : ℕ} → edges ≡ sum (λ t. get_or l (4 + n + t) 0) 0 n → edges ≡ additions (n_of l) (edge_count_of l)
  unfolding additions edge_count_of
  edges_sum e = e ∙ ap (λ m. sum (λ t. get_or l (4 + m + t) 0) 0 m) (n_is ∙ x_is)

  vertices_sum : {vertices : ℕ} → vertices ≡ sum (λ t. get_or l (3 + t) 0) 0 (n + 1) → vertices ≡ all_vertices (n_of l) (vertex_count_of l)
  unfolding all_vertices vertex_count_of
  vertices_sum e = let o : n + 1 ≡ suc (n_of l) = omega (arith, n_is, x_is) in e ∙ ap (λ m. sum (λ t. get_or l (3 + t) 0) 0 m) o

  pub selected : {edges vertices y roots s : ℕ} → edges ≡ additions (n_of l) (edge_count_of l)
      → vertices ≡ sum (λ t. get_or l (3 + t) 0) 0 (n + 1) → y ≡ get_or l 3 0 → roots ≡ y
      → s ≡ (edges + roots) - vertices → s ≡ selections (n_of l) (vertex_count_of l) (edge_count_of l)
  unfolding selections vertex_count_of
  selected e v y_is r h = h ∙ ap₂ (λ a b. a - b) (ap₂ (λ a b. a + b) e (r ∙ y_is)) (vertices_sum v)
