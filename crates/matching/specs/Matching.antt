-- Two sections in numbers, l and m, compared vertex by vertex: f t v is the vertex of m, at depth t, that vertex v of l at depth t is
-- matched with. After document 02's request 8: "at each depth there is just one matching of vertices that keeps end states and symbols and
-- carries edges to edges". Step t + 1 of document 01 is written as step t.
use Rattle.std.specs.Prelude.{◌≡◌, ℕ, suc, ◌≤◌, ◌<◌}
use mathlib.Core.List.{List, ◌∷◌, ◌++◌, map, flat_map}
use Rattle.trellis.specs.Lists.{◌∈◌, each, ascending}
use Rattle.trellis.specs.Own.{Edge, edge, edge_less}
use Rattle.trellis.specs.Layout.{q_of, n_of, states_of, vertex_count_of, edge_count_of, root_state, goal_state, step_edges}
use Rattle.trellis.specs.Layout.{joined_up, pair_of, symbol_of}

-- f takes vertices to vertices of the same depth, "keeps end states and symbols and carries edges to edges"
pub record Carrying (l m : List ℕ) (f : ℕ → ℕ → ℕ) : Type 0 where
  pub vertices : (t v : ℕ) → t ≤ n_of l → v < vertex_count_of l t → f t v < vertex_count_of m t
  pub roots : (v : ℕ) → v < vertex_count_of l 0 → root_state m (f 0 v) ≡ root_state l v
  pub goals : (v : ℕ) → v < vertex_count_of l (n_of l) → goal_state m (f (n_of l) v) ≡ goal_state l v
  pub edges : (t x a y : ℕ) → t < n_of l → edge x a y ∈ step_edges l t → edge (f t x) a (f (suc t) y) ∈ step_edges m t

-- some vertex of l at depth t is matched with w
pub record Met (l : List ℕ) (f : ℕ → ℕ → ℕ) (t w : ℕ) : Type 0 where
  pub vertex : ℕ
  pub below : vertex < vertex_count_of l t
  pub is : f t vertex ≡ w

-- a matching: moreover one to one and onto at each depth, and no edge of m is left over
pub record Matching (l m : List ℕ) (f : ℕ → ℕ → ℕ) : Type 0 where
  pub carrying : Carrying l m f
  pub apart : (t u v : ℕ) → t ≤ n_of l → u < vertex_count_of l t → v < vertex_count_of l t → f t u ≡ f t v → u ≡ v
  pub onto : (t w : ℕ) → t ≤ n_of l → w < vertex_count_of m t → Met l f t w
  pub no_more : (t x a y : ℕ) → t < n_of l → x < vertex_count_of l t → y < vertex_count_of l (suc t)
      → edge (f t x) a (f (suc t) y) ∈ step_edges m t → edge x a y ∈ step_edges l t

-- ---- a section renumbered

-- an edge of step t between the vertices that its own are matched with
abbrev pub carried : (ℕ → ℕ → ℕ) → ℕ → Edge → Edge
carried f t e = edge (f t e.from) e.symbol (f (suc t) e.to)

-- the edges of step t so carried, in their order again
unfoldable pub renumbered_edges : (ℕ → ℕ → ℕ) → List ℕ → ℕ → List Edge
renumbered_edges f l t = ascending edge_less (map (carried f t) (step_edges l t))

-- the section l with vertices renumbered by f: sizes, counts and end states are those of l, and the edges are carried
unfoldable pub renumbered : (ℕ → ℕ → ℕ) → List ℕ → List ℕ
renumbered f l =
    q_of l ∷ n_of l ∷ states_of l ∷
    (each (vertex_count_of l) (suc (n_of l)) ++ (each (edge_count_of l) (n_of l)
    ++ (each (root_state l) (vertex_count_of l 0) ++ (each (goal_state l) (vertex_count_of l (n_of l))
    ++ (flat_map pair_of (joined_up (renumbered_edges f l) (n_of l)) ++ map symbol_of (joined_up (renumbered_edges f l) (n_of l)))))))

-- m "differs from" l "only by numbering inner vertices"
pub record Renumbered (l m : List ℕ) : Type 0 where
  -- there is a matching, and whatever keeps end states and symbols and carries edges to edges is this one
  pub f : ℕ → ℕ → ℕ
  pub matching : Matching l m f
  pub just_one : (g : ℕ → ℕ → ℕ) → Carrying l m g → (t v : ℕ) → t ≤ n_of l → v < vertex_count_of l t → g t v ≡ f t v
  -- outer vertices keep their numbers
  pub roots : (v : ℕ) → v < vertex_count_of l 0 → f 0 v ≡ v
  pub goals : (v : ℕ) → v < vertex_count_of l (n_of l) → f (n_of l) v ≡ v
  -- there are as many vertices at each depth and edges at each step, and every number of m is that of l with vertices so renumbered
  pub vertex_counts : (t : ℕ) → t ≤ n_of l → vertex_count_of m t ≡ vertex_count_of l t
  pub edge_counts : (t : ℕ) → t < n_of l → edge_count_of m t ≡ edge_count_of l t
  pub numbers : m ≡ renumbered f l
  -- so if inner vertices keep their numbers too, m is l
  pub same : ((t v : ℕ) → 0 < t → t < n_of l → v < vertex_count_of l t → f t v ≡ v) → m ≡ l
