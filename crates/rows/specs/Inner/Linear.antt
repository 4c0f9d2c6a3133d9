-- What the vertices of a table of sums are like, where its rows are in reduced form: their numbers keep addition, at every depth. So a
-- depth is known by the vertices of k words, one for each row, and a step by the edges of these words.
use Rattle.std.specs.Prelude.{◌≡◌, List, ℕ, suc, ◌+◌, ◌^◌, ◌≤◌, ◌<◌, length, get_or}
use Rattle.trellis.specs.Lists.{each}
use Rattle.trellis.specs.Own.{vertex_of, vertex_count}
use Rattle.rows.specs.Sums.{sum_of}
use Rattle.rows.specs.Table.{table_of, cut_at}
use Rattle.rows.specs.Inner.Reduced.{bit_at}
use Rattle.rows.specs.Inner.Edges.{edge_number}

module _ (s n : ℕ) (rows : List ℕ) where
  -- the vertices of the words 2 ^ b, which are the rows themselves
  unfoldable pub parts_at : ℕ → List ℕ
  parts_at t = each (λ b. vertex_of n (table_of s n rows) t (2 ^ b)) (length rows)

  -- there are 2 ^ dim vertices at depth t, and the vertex of word i is the sum of the parts that the bits of i choose
  pub record Linear (t : ℕ) : Type 0 where
    pub dim : ℕ
    pub count : vertex_count n (table_of s n rows) t ≡ 2 ^ dim
    pub is : (i : ℕ) → i < 2 ^ length rows → vertex_of n (table_of s n rows) t i ≡ sum_of (parts_at t) i
    pub small : (i : ℕ) → sum_of (parts_at t) i < 2 ^ dim
    pub before : dim ≤ s + t
    pub behind : dim ≤ cut_at s n t

  -- the edges that the rows take at step t, as numbers, where d is the dimension of depth t + 1
  unfoldable pub arcs_at : ℕ → ℕ → List ℕ
  arcs_at d t = each (λ b. edge_number d (vertex_of n (table_of s n rows) t (2 ^ b)) (bit_at (cut_at s n (suc t)) (get_or rows b 0))
      (vertex_of n (table_of s n rows) (suc t) (2 ^ b))) (length rows)
