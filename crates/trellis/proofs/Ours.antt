-- Our section of a table as a drawing, and what is shown of it: it is drawn for the table, and nobody draws a smaller one.
use mathlib.Core.Path.{◌≡◌}
use mathlib.Core.List.{List}
use Prim.Native.Nat.{ℕ, ◌≤◌, ◌<◌}
use lib.ListN.{get_or}
use Rattle.trellis.specs.Lists.{each}
use Rattle.trellis.specs.Word.{Word}
use Rattle.trellis.specs.Own.{keys, vertex_count, edges_at}
use Rattle.trellis.specs.Drawn.{Drawing, DrawnFor, vertices_of, edges_of, NoFewer}

-- our section as a drawing: vertex v of depth t is the number v, and stands for the state number v
unfoldable pub ours : ℕ → List Word → Drawing
ours n table = record {
  vertices = λ t. each (λ v. v) (vertex_count n table t);
  edges = edges_at n table;
  root_of = λ v. get_or (keys n table 0) v 0;
  goal_of = λ v. get_or (keys n table n) v 0;
}

-- counts v and e of a table's section: they are the counts of ours, which is itself drawn for the table, and nobody draws a smaller one
pub record OursLeast (n : ℕ) (table : List Word) (v e : ℕ → ℕ) : Type 0 where
  pub own : DrawnFor n table (ours n table)
  pub own_vertices : (t : ℕ) → t ≤ n → v t ≡ vertices_of (ours n table) t
  pub own_edges : (t : ℕ) → t < n → e t ≡ edges_of (ours n table) t
  pub least : (D : Drawing) → DrawnFor n table D → NoFewer n v e D
