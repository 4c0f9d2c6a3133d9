-- The map that stands, and the edges to be taken from it. The rows are words 2 ^ b, so the map has their vertices at these places; the
-- edges that they take are small enough for 16 bits, and their sums, in order, are the edges of the table's step.
use mathlib.Core.Path.{◌≡◌, refl, sym, ap, subst, ◌∙◌}
use mathlib.Core.List.{List, map}
use Prim.Native.Nat.{ℕ, suc, ◌+◌, ◌*◌, ◌^◌, ◌≤◌, ◌<◌}
use native.Mathlib.Omega.{arith}
use native.Mathlib.Nat.{suc-mul}
use lib.ListN.{length, get_or, length-map}
use lib.Pow.{pow-lt, pow_mono}
use Rattle.trellis.specs.Own.{vertex_of, edges_at, edge_count}
use Rattle.trellis.proofs.Lists.{each_same}
use Rattle.rows.specs.Sums.{sums}
use Rattle.rows.specs.Table.{row_width, table_of, cut_at}
use Rattle.rows.specs.Inner.Reduced.{bit_at, Narrow}
use Rattle.rows.specs.Inner.Edges.{edge_number, edge_from}
use Rattle.rows.specs.Inner.Linear.{Linear, arcs_at}
use Rattle.rows.proofs.Linear.{linear, power_same}
use Rattle.rows.proofs.Steps.{arcs_narrow, step_sums_lem}
use Rattle.row_map.specs.Inner.Maps.{MapAsked, MapPut}
use Rattle.row_arcs.specs.Inner.Arcs.{arcs_of, step_arcs, step_sums, EdgesAsked}

module _ {s n : ℕ} {rows columns : List ℕ} {w : ℕ} {before : List ℕ} (A : MapAsked s n rows columns w before) where
  pub wide_enough : row_width s n ≤ 16
  wide_enough = omega (arith, A.states, A.symbols)

  pub narrow_rows : Narrow 16 rows
  narrow_rows j h = omega (arith, A.narrow j h, pow_mono {i = row_width s n} {j = 16} wide_enough)

  depth : (t : ℕ) → t ≤ n → Linear s n rows t
  depth t h = linear s n A.echelon wide_enough A.narrow A.some t h

  module _ {new dims counts roots goals : List ℕ} (P : MapPut s n rows w before new dims counts roots goals) where
    module _ (t : ℕ) (h : t < n) where
      abbrev L : Linear s n rows t
      L = depth t (omega arith)

      abbrev M : Linear s n rows (suc t)
      M = depth (suc t) h

      dim_is : get_or dims (suc t) 0 ≡ M.dim
      dim_is = power_same (get_or dims (suc t) 0) M.dim (P.dimension (suc t) h ∙ M.count)

      arcs_are : step_arcs new w rows s n dims t ≡ arcs_at s n rows M.dim t
      unfolding arcs_of arcs_at
      arcs_are = each_same
          (λ b. edge_number (get_or dims (suc t) 0) (get_or new (t * w + 2 ^ b) 0) (bit_at (cut_at s n (suc t)) (get_or rows b 0))
          (get_or new (t * w + w + 2 ^ b) 0))
          (λ b. edge_number M.dim (vertex_of n (table_of s n rows) t (2 ^ b)) (bit_at (cut_at s n (suc t)) (get_or rows b 0))
          (vertex_of n (table_of s n rows) (suc t) (2 ^ b)))
          (length rows) (length rows) refl
          (λ b k. λ i. edge_number (dim_is i) (from b k i) (bit_at (cut_at s n (suc t)) (get_or rows b 0)) (to b k i))
        where
          row_lt : (b : ℕ) → b < length rows → 2 ^ b < w
          row_lt b k = subst (λ x. 2 ^ b < x) (sym A.words) (pow-lt k)

          from : (b : ℕ) → b < length rows → get_or new (t * w + 2 ^ b) 0 ≡ vertex_of n (table_of s n rows) t (2 ^ b)
          from b k = P.vertices t (2 ^ b) (omega arith) (row_lt b k)

          to : (b : ℕ) → b < length rows → get_or new (t * w + w + 2 ^ b) 0 ≡ vertex_of n (table_of s n rows) (suc t) (2 ^ b)
          to b k = ap (λ x. get_or new (x + 2 ^ b) 0) (sym (suc-mul t w)) ∙ P.vertices (suc t) (2 ^ b) h (row_lt b k)

      narrow_arcs : Narrow 16 (step_arcs new w rows s n dims t)
      narrow_arcs = subst (λ arcs. Narrow 16 arcs) (sym arcs_are)
          (λ b k. omega (arith, arcs_narrow s n t h L M b k, pow_mono {i = row_width s n} {j = 16} wide_enough))

      -- the edges of the table's step
      pub step_list_lem : map (edge_from (get_or dims (suc t) 0)) (step_sums new w rows s n dims t) ≡ edges_at n (table_of s n rows) t
      step_list_lem = ap (λ d. map (edge_from d) (step_sums new w rows s n dims t)) dim_is
          ∙ ap (λ arcs. map (edge_from M.dim) (sums arcs)) arcs_are
          ∙ sym (step_sums_lem s n A.echelon narrow_rows t h L M)

      pub step_count : length (step_sums new w rows s n dims t) ≡ edge_count n (table_of s n rows) t
      unfolding edge_count
      step_count = sym (length-map (step_sums new w rows s n dims t) (edge_from (get_or dims (suc t) 0))) ∙ ap length step_list_lem

    pub edges_asked : EdgesAsked new w rows s n dims
    edges_asked = record {
      words = A.words;
      few = A.few;
      room = omega (arith, A.room, P.len);
      states = A.states;
      symbols = A.symbols;
      dim_places = P.dim_places;
      short = P.few;
      narrow = narrow_arcs;
    }
