-- Demand 3 for the definitions: of all sections that anyone can draw for a rectangular table, ours is the least, and it is itself such a
-- section. Our counts are the numbers of different vertices and edges of the words' paths, to which the theorem of Least applies.
use mathlib.Core.Path.{◌≡◌, refl, sym, subst, ◌∙◌}
use mathlib.Core.Logic.{◌↔◌}
use mathlib.Core.List.Memᴰ
use mathlib.Core.List.{List}
use Prim.Native.Nat.{ℕ, ◌+◌, ◌^◌, ◌≤◌, ◌<◌}
use lib.ListN.{length}
use lib.Dec.{eqb, eqb→eq, eqb_refl}
use Rattle.trellis.specs.Lists.{◌∈◌}
use Rattle.trellis.specs.Label.{symbol}
use Rattle.trellis.specs.Word.{Word, Table, Rectangular}
use Rattle.trellis.specs.Own.{vertex_of, vertex_count, edge_of, edge_count}
use Rattle.trellis.proofs.ThreeNumbers.{same_edge}
use Rattle.trellis.specs.Drawn.{PathOf, DrawnFor, vertices_of, edges_of}
use Rattle.trellis.specs.Selections.{all_vertices, additions, selections}
use Rattle.trellis.proofs.Ours.{ours, OursLeast}
use Rattle.trellis.proofs.Lists.{length_run}
use Rattle.trellis.proofs.Distinct.{length_distinct, upto, in_upto, from_upto}
use Rattle.trellis.proofs.Labels.{by_symbols}
use Rattle.trellis.proofs.Words.{word_eq}
use Rattle.trellis.proofs.Vertices.{Numbering, own_numbering}
use Rattle.trellis.proofs.Paths.{edge_ok, edge_rf, vcount, ecount}
use Rattle.trellis.proofs.OwnPaths.{symbol_at}
use Rattle.trellis.proofs.Least.{least, same_counts, exact}
use Rattle.trellis.proofs.OwnDrawn.{vertex_in, vertex_of_lem, edge_in, edge_of_lem, own_drawn}

module _ (n : ℕ) (table : List Word) where
  pub own_vertices_lem : (t : ℕ) → vertices_of (ours n table) t ≡ vertex_count n table t
  unfolding ours
  own_vertices_lem t = length_run (λ v. v) 0 (vertex_count n table t)

  pub own_edges_lem : (t : ℕ) → edges_of (ours n table) t ≡ edge_count n table t
  unfolding ours edge_count
  own_edges_lem t = refl

  module _ (G : Table n table) (R : Rectangular n table) where
    numbering : Numbering n table (vertex_of n table)
    numbering = own_numbering n table G.some R

    pub drawn : DrawnFor n table (ours n table)
    drawn = own_drawn n table G numbering

    counted_vertices : (t : ℕ) → t ≤ n → vcount (symbol_at n table) (vertex_of n table) (length table) t ≡ vertex_count n table t
    counted_vertices t h =
        sym (length_distinct eqb eqb→eq eqb_refl (upto (vertex_of n table t) (length table)) ((ours n table).vertices t)
        (drawn.none_twice t h)
        (λ v m. let F = vertex_of_lem n table t v m in in_upto (vertex_of n table t) (length table) F.at v F.below F.is)
        (λ v m. let F = from_upto (vertex_of n table t) (length table) v m in Memᴰ.cast F.is (vertex_in n table t F.at F.below)))
        ∙ own_vertices_lem t

    counted_edges : (t : ℕ) → t < n → ecount (symbol_at n table) (vertex_of n table) (length table) t ≡ edge_count n table t
    counted_edges t h =
        sym (length_distinct same_edge edge_ok edge_rf (upto (edge_of n table t) (length table)) ((ours n table).edges t) (drawn.no_repeat t h)
        (λ e m. let F = edge_of_lem n table t e m in in_upto (edge_of n table t) (length table) F.at e F.below F.is)
        (λ e m. let F = from_upto (edge_of n table t) (length table) e m in Memᴰ.cast F.is (edge_in n table t F.at F.below)))
        ∙ own_edges_lem t

    -- demand 3
    pub demand_3 : OursLeast n table (vertex_count n table) (edge_count n table)
    demand_3 = record {
      own = drawn;
      own_vertices = λ t h. sym (own_vertices_lem t);
      own_edges = λ t h. sym (own_edges_lem t);
      least = λ D H. same_counts n _ _ (vertex_count n table) (edge_count n table) D counted_vertices counted_edges
          (least n table G (vertex_of n table) numbering D H);
    }

    -- a word of n symbols is on a path of our section exactly if it is a word of the table
    pub own_words : (w : Word) → w.label < 4 ^ n → PathOf n (ours n table) w ↔ (w ∈ table)
    own_words w fits = (λ P. in_table P, drawn.no_fewer w)
      where
        in_table : PathOf n (ours n table) w → w ∈ table
        in_table P =
            let K = drawn.no_more P.x P.a P.path in
            Memᴰ.cast (word_eq (sym P.carries.root ∙ K.carried.root)
            (label K.word (G.fits K.word K.listed) (λ t h. sym (P.carries.symbols t h) ∙ K.carried.symbols t h))
            (sym P.carries.goal ∙ K.carried.goal)) K.listed
          where
            label : (z : Word) → z.label < 4 ^ n → ((t : ℕ) → t < n → symbol n t w.label ≡ symbol n t z.label) → w.label ≡ z.label
            label z h s = by_symbols n w.label z.label fits h s

    -- our selections take away no more than there is
    pub own_exact : selections n (vertex_count n table) (edge_count n table) + all_vertices n (vertex_count n table) ≡ additions n
        (edge_count n table) + vertex_count n table 0
    unfolding ours edge_count
    own_exact = subst (λ v. selections n v (edge_count n table) + all_vertices n v ≡ additions n (edge_count n table) + v 0)
        (λ k t. own_vertices_lem t k) (exact n table (ours n table) drawn)
