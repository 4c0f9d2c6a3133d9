-- A section drawn by another hand, for demand 3: vertices listed for each depth and edges listed for each step; and what it is for it to
-- have no fewer of anything than a section in numbers. Inner vertices may be any
-- number and may be twins, a word may have several paths, symbols may be any numbers, and nothing here asks for our layout or bounds. Step
-- t + 1 of document 01 is step t.
use Rattle.std.specs.Prelude.{◌≡◌, List, ℕ, suc, ◌≤◌, ◌<◌, length}
use Rattle.trellis.specs.Lists.{◌∈◌, Once, each}
use Rattle.trellis.specs.Label.{symbol}
use Rattle.trellis.specs.Word.{Word}
use Rattle.trellis.specs.Own.{Edge, edge}
use Rattle.trellis.specs.Selections.{selections}
use Rattle.trellis.specs.Layout.{vertex_count_of, root_state, goal_state, step_edges}

-- vertices are named by numbers; a vertex of depth 0 stands for a root, one of depth n for a goal
pub record Drawing : Type 0 where
  pub vertices : ℕ → List ℕ
  pub edges : ℕ → List Edge
  pub root_of : ℕ → ℕ
  pub goal_of : ℕ → ℕ

-- the vertices x 0 .. x n and the symbols a 0 .. a (n - 1) are a path from depth 0 to depth n
pub record IsPath (n : ℕ) (D : Drawing) (x a : ℕ → ℕ) : Type 0 where
  pub takes : (t : ℕ) → t < n → edge (x t) (a t) (x (suc t)) ∈ D.edges t

-- the word that such a path carries is w: root state, the edges' symbols one by one, goal state
pub record Carries (n : ℕ) (D : Drawing) (x a : ℕ → ℕ) (w : Word) : Type 0 where
  pub root : D.root_of (x 0) ≡ w.root
  pub symbols : (t : ℕ) → t < n → a t ≡ symbol n t w.label
  pub goal : D.goal_of (x n) ≡ w.goal

-- a path that carries w
pub record PathOf (n : ℕ) (D : Drawing) (w : Word) : Type 0 where
  pub x : ℕ → ℕ
  pub a : ℕ → ℕ
  pub path : IsPath n D x a
  pub carries : Carries n D x a w

-- a word of the table that the path carries
pub record WordOf (n : ℕ) (D : Drawing) (table : List Word) (x a : ℕ → ℕ) : Type 0 where
  pub word : Word
  pub listed : word ∈ table
  pub carried : Carries n D x a word

-- a path through the vertex v of depth t
pub record Through (n : ℕ) (D : Drawing) (t v : ℕ) : Type 0 where
  pub x : ℕ → ℕ
  pub a : ℕ → ℕ
  pub path : IsPath n D x a
  pub passes : x t ≡ v

-- a vertex of the list that stands for the state s
pub record HasVertex (list : List ℕ) (state_of : ℕ → ℕ) (s : ℕ) : Type 0 where
  pub vertex : ℕ
  pub listed : vertex ∈ list
  pub is : state_of vertex ≡ s

-- a word of the table with the state s
pub record HasState (table : List Word) (state : Word → ℕ) (s : ℕ) : Type 0 where
  pub word : Word
  pub listed : word ∈ table
  pub is : state word ≡ s

-- the list has just one vertex for each state that the words have, and no other vertex
pub record JustOne (table : List Word) (state : Word → ℕ) (list : List ℕ) (state_of : ℕ → ℕ) : Type 0 where
  pub at_least : (w : Word) → w ∈ table → HasVertex list state_of (state w)
  pub at_most : (v u : ℕ) → v ∈ list → u ∈ list → state_of v ≡ state_of u → v ≡ u
  pub only : (v : ℕ) → v ∈ list → HasState table state (state_of v)

-- D is a section drawn for the table. Each condition but one is a sentence of document 01, quoted before it
pub record DrawnFor (n : ℕ) (table : List Word) (D : Drawing) : Type 0 where
  -- "any finite list of vertices for each depth 0 to n, none listed twice"
  pub none_twice : (t : ℕ) → t ≤ n → Once (D.vertices t)
  -- "and of edges for each step, each edge joining vertices of its step's two depths"
  pub joins : (t : ℕ) → t < n → (e : Edge) → e ∈ D.edges t → (e.from ∈ D.vertices t) × (e.to ∈ D.vertices (suc t))
  -- "No edge is repeated if no two edges of a step agree in from, symbol and to"
  pub no_repeat : (t : ℕ) → t < n → Once (D.edges t)
  -- "Depth 0 has just one vertex for each root in the table, depth n just one for each goal"
  pub roots : JustOne table (λ w. w.root) (D.vertices 0) D.root_of
  pub goals : JustOne table (λ w. w.goal) (D.vertices n) D.goal_of
  -- every vertex is on a path: the demand's own condition, since a vertex that no path meets would lower the selections
  pub on_path : (t v : ℕ) → t ≤ n → v ∈ D.vertices t → Through n D t v
  -- drawn "for an accepted table": "its words ... are taken as above", off its paths, and are the table's, no more and no fewer
  pub no_more : (x a : ℕ → ℕ) → IsPath n D x a → WordOf n D table x a
  pub no_fewer : (w : Word) → w ∈ table → PathOf n D w

-- ---- sections compared

-- a section in numbers as a drawing: vertex v of depth t is the number v
unfoldable pub drawing_of : List ℕ → Drawing
drawing_of l = record {
  vertices = λ t. each (λ v. v) (vertex_count_of l t);
  edges = step_edges l;
  root_of = root_state l;
  goal_of = goal_state l;
}

abbrev pub vertices_of : Drawing → ℕ → ℕ
vertices_of D t = length (D.vertices t)

abbrev pub edges_of : Drawing → ℕ → ℕ
edges_of D t = length (D.edges t)

-- D has no fewer vertices at any depth, no fewer edges at any step, no fewer selections in all than the counts v and e
pub record NoFewer (n : ℕ) (v e : ℕ → ℕ) (D : Drawing) : Type 0 where
  pub vertices : (t : ℕ) → t ≤ n → v t ≤ vertices_of D t
  pub edges : (t : ℕ) → t < n → e t ≤ edges_of D t
  pub selected : selections n v e ≤ selections n (vertices_of D) (edges_of D)
