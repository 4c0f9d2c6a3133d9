-- Document 01's layout of a section in numbers: q, n, S; vertex counts for depths 0 to n; edge counts for steps 1 to n; the root states;
-- the goal states; then two parallel arrays, pairs (from, to) and symbols. Here a list of numbers is read by this layout, whatever it
-- holds; a number past the end reads as 0. Step t + 1 of document 01 is written as step t.
use mathlib.Core.List.{List, [], ◌∷◌, ◌++◌, map, flat_map}
use Rattle.std.specs.Prelude.{ℕ, zero, suc, ◌+◌, ◌*◌, get_or}
use Rattle.trellis.specs.Lists.{run, each, sum}
use Rattle.trellis.specs.Word.{Word}
use Rattle.trellis.specs.Own.{Edge, edge, keys, vertex_count, edges_at, edge_count}
use Rattle.trellis.specs.Section.{words_of}

-- ---- read

module _ (l : List ℕ) where
  abbrev pub q_of : ℕ
  q_of = get_or l 0 0

  abbrev pub n_of : ℕ
  n_of = get_or l 1 0

  abbrev pub states_of : ℕ
  states_of = get_or l 2 0

  -- how many vertices at depth t, how many edges at step t
  unfoldable pub vertex_count_of : ℕ → ℕ
  vertex_count_of t = get_or l (3 + t) 0

  unfoldable pub edge_count_of : ℕ → ℕ
  edge_count_of t = get_or l (4 + n_of + t) 0

  -- how many edges the first t steps have, and all of them
  unfoldable pub edges_before : ℕ → ℕ
  edges_before t = sum edge_count_of 0 t

  abbrev pub all_edges : ℕ
  all_edges = edges_before n_of

  -- where each part begins, and how long the section is by its own counts
  unfoldable pub roots_place : ℕ
  roots_place = 4 + 2 * n_of

  unfoldable pub goals_place : ℕ
  goals_place = roots_place + vertex_count_of 0

  unfoldable pub pairs_place : ℕ
  pairs_place = goals_place + vertex_count_of n_of

  unfoldable pub symbols_place : ℕ
  symbols_place = pairs_place + 2 * all_edges

  unfoldable pub section_length : ℕ
  section_length = symbols_place + all_edges

  -- the state of vertex v of depth 0, of depth n
  unfoldable pub root_state : ℕ → ℕ
  root_state v = get_or l (roots_place + v) 0

  unfoldable pub goal_state : ℕ → ℕ
  goal_state v = get_or l (goals_place + v) 0

  -- edge k of the section, counted from 0 over all steps
  unfoldable pub edge_number : ℕ → Edge
  edge_number k = edge (get_or l (pairs_place + 2 * k) 0) (get_or l (symbols_place + k) 0) (get_or l (pairs_place + 2 * k + 1) 0)

  -- the edges of step t
  unfoldable pub step_edges : ℕ → List Edge
  step_edges t = run edge_number (edges_before t) (edge_count_of t)

  -- the section's words, read off its paths
  unfoldable pub section_words : List Word
  section_words = words_of n_of step_edges (each (λ v. v) (vertex_count_of 0)) root_state goal_state

-- ---- written

-- f 0, f 1, .. f (count - 1) one behind another
unfoldable pub joined_up {ℓ} : {A : Type ℓ} → (ℕ → List A) → ℕ → List A
joined_up f zero = []
joined_up f (suc count) = joined_up f count ++ f count

abbrev pub pair_of : Edge → List ℕ
pair_of e = e.from ∷ e.to ∷ []

abbrev pub symbol_of : Edge → ℕ
symbol_of e = e.symbol

-- the numbers of our section of a table, with the table's q, n and S
unfoldable pub section_of : ℕ → ℕ → ℕ → List Word → List ℕ
section_of q n states table =
    q ∷ n ∷ states ∷
    (each (vertex_count n table) (suc n) ++ (each (edge_count n table) n ++ (keys n table 0 ++ (keys n table n
    ++ (flat_map pair_of (joined_up (edges_at n table) n) ++ map symbol_of (joined_up (edges_at n table) n))))))
