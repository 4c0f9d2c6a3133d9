-- What usable says of a section, as statements: a field or two for each condition of document 01, whose step t + 1 is step t here.
use Rattle.std.specs.Prelude.{◌≡◌, List, ℕ, suc, ◌≤◌, ◌<◌, length}
use Rattle.trellis.specs.Bounds.{most_states, most_words, most_symbols, least_q, most_q}
use Rattle.trellis.specs.Lists.{Lower}
use Rattle.trellis.specs.Own.{Edge}
use Rattle.trellis.specs.Layout.{q_of, n_of, states_of, vertex_count_of, edge_count_of, section_length, root_state, goal_state}
use Rattle.section_file.specs.Usable.{step_edge}

-- edges of a step are ordered by from, symbol, to
abbrev pub EdgeBefore : Edge → Edge → Type 0
EdgeBefore e f = Lower e.from e.symbol e.to f.from f.symbol f.to

-- v is f k for some k below count
pub record Hit (f : ℕ → ℕ) (count v : ℕ) : Type 0 where
  pub at : ℕ
  pub below : at < count
  pub is : f at ≡ v

pub record Sound (l : List ℕ) : Type 0 where
  -- q, n and S are in bounds
  pub q_from : least_q ≤ q_of l
  pub q_to : q_of l ≤ most_q
  pub n_from : 1 ≤ n_of l
  pub n_to : n_of l ≤ most_symbols
  pub states_from : 1 ≤ states_of l
  pub states_to : states_of l ≤ most_states
  -- so are the counts
  pub vertices_from : (t : ℕ) → t ≤ n_of l → 1 ≤ vertex_count_of l t
  pub vertices_to : (t : ℕ) → t ≤ n_of l → vertex_count_of l t ≤ most_words
  pub edges_from : (t : ℕ) → t < n_of l → 1 ≤ edge_count_of l t
  pub edges_to : (t : ℕ) → t < n_of l → edge_count_of l t ≤ most_words
  -- the section is there whole
  pub whole : section_length l ≤ length l
  -- end states ascend strictly and are below S
  pub roots_below : (v : ℕ) → v < vertex_count_of l 0 → root_state l v < states_of l
  pub roots_ascend : (u v : ℕ) → u < v → v < vertex_count_of l 0 → root_state l u < root_state l v
  pub goals_below : (v : ℕ) → v < vertex_count_of l (n_of l) → goal_state l v < states_of l
  pub goals_ascend : (u v : ℕ) → u < v → v < vertex_count_of l (n_of l) → goal_state l u < goal_state l v
  -- edges join vertices of their depths, by symbols below q, and ascend strictly
  pub from_below : (t k : ℕ) → t < n_of l → k < edge_count_of l t → (step_edge l t k).from < vertex_count_of l t
  pub symbol_below : (t k : ℕ) → t < n_of l → k < edge_count_of l t → (step_edge l t k).symbol < q_of l
  pub to_below : (t k : ℕ) → t < n_of l → k < edge_count_of l t → (step_edge l t k).to < vertex_count_of l (suc t)
  pub edges_ascend : (t j k : ℕ) → t < n_of l → j < k → k < edge_count_of l t → EdgeBefore (step_edge l t j) (step_edge l t k)
  -- every vertex has an edge onward, but at depth n, and an edge inward, but at depth 0
  pub onward : (t v : ℕ) → t < n_of l → v < vertex_count_of l t → Hit (λ k. (step_edge l t k).from) (edge_count_of l t) v
  pub inward : (t v : ℕ) → t < n_of l → v < vertex_count_of l (suc t) → Hit (λ k. (step_edge l t k).to) (edge_count_of l t) v
  -- no two inner vertices are reached from one vertex by the same symbol, and none lead to one vertex by the same symbol
  pub forward : (t j k : ℕ) → suc t < n_of l → j < edge_count_of l t → k < edge_count_of l t → (step_edge l t j).from ≡ (step_edge l t k).from
      → (step_edge l t j).symbol ≡ (step_edge l t k).symbol → (step_edge l t j).to ≡ (step_edge l t k).to
  pub backward : (t j k : ℕ) → 0 < t → t < n_of l → j < edge_count_of l t → k < edge_count_of l t → (step_edge l t j).to ≡ (step_edge l t k).to
      → (step_edge l t j).symbol ≡ (step_edge l t k).symbol → (step_edge l t j).from ≡ (step_edge l t k).from
