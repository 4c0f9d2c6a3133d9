-- Document 01's usable, of the section at the front of the list of numbers l; more numbers may follow it. One definition for each condition
-- of the document's sentence, in its order and with its words in quotation marks; a condition of a step t is asked of every step.
-- Everything here computes. Step t + 1 of document 01, from depth t to depth t + 1, is written as step t.
use Rattle.std.specs.Prelude.{Bool, not, ◌&&◌, List, ℕ, ◌+◌, ◌-◌, leb, ltb, eqb, length}
use Rattle.trellis.specs.Bounds.{most_states, most_words, most_symbols, least_q, most_q}
use Rattle.trellis.specs.Lists.{all, any, within}
use Rattle.trellis.specs.Own.{Edge, edge_less}
use Rattle.trellis.specs.Layout.{q_of, n_of, states_of, vertex_count_of, edge_count_of, edges_before, section_length, root_state, goal_state}
use Rattle.trellis.specs.Layout.{edge_number}

module _ (l : List ℕ) where
  -- edge k of step t
  unfoldable pub step_edge : ℕ → ℕ → Edge
  step_edge t k = edge_number l (edges_before l t + k)

  -- a test passes for every edge of step t, for some edge of it, for every two edges of it, the one before the other
  abbrev every_edge : ℕ → (Edge → Bool) → Bool
  every_edge t test = all (λ k. test (step_edge t k)) (edge_count_of l t)

  abbrev some_edge : ℕ → (Edge → Bool) → Bool
  some_edge t test = any (λ k. test (step_edge t k)) (edge_count_of l t)

  abbrev every_two : ℕ → (Edge → Edge → Bool) → Bool
  every_two t test = all (λ k. all (λ j. test (step_edge t j) (step_edge t k)) k) (edge_count_of l t)

  -- "its numbers meet this layout and exactly fill their part of the slice": the part that its own counts give it is not cut short
  unfoldable pub whole : Bool
  whole = leb (section_length l) (length l)

  -- "q, n and S are in bounds"
  unfoldable pub sizes_right : Bool
  sizes_right = within least_q most_q (q_of l) && (within 1 most_symbols (n_of l) && within 1 most_states (states_of l))

  -- "each edge's from and to are below their depths' vertex counts and its symbol is below q"
  unfoldable pub edges_inside : ℕ → Bool
  edges_inside t =
      every_edge t (λ e. ltb e.from (vertex_count_of l t) && (ltb e.to (vertex_count_of l (t + 1)) && ltb e.symbol (q_of l)))

  -- "every vertex count and step's edge count is 1 to 1,024"
  unfoldable pub counts_right : Bool
  counts_right =
      all (λ t. within 1 most_words (vertex_count_of l t)) (n_of l + 1)
      && all (λ t. within 1 most_words (edge_count_of l t)) (n_of l)

  -- "end states ascend strictly and are below S": states of count vertices, each above all before it and below S
  unfoldable pub rising : (ℕ → ℕ) → ℕ → Bool
  rising state count = all (λ v. all (λ u. ltb (state u) (state v)) v && ltb (state v) (states_of l)) count

  -- those of depth 0 and those of depth n
  unfoldable pub states_right : Bool
  states_right = rising (root_state l) (vertex_count_of l 0) && rising (goal_state l) (vertex_count_of l (n_of l))

  -- "edges ascend strictly"
  unfoldable pub edges_ascend : ℕ → Bool
  edges_ascend t = every_two t edge_less

  -- "every vertex has an edge onward (but at depth n)": every vertex of depth t
  unfoldable pub onward : ℕ → Bool
  onward t = all (λ v. some_edge t (λ e. eqb e.from v)) (vertex_count_of l t)

  -- "and an edge inward (but at depth 0)": every vertex of depth t + 1
  unfoldable pub inward : ℕ → Bool
  inward t = all (λ v. some_edge t (λ e. eqb e.to v)) (vertex_count_of l (t + 1))

  -- "no two inner vertices are twins: reached from one vertex by the same symbol": no two vertices of depth t + 1
  unfoldable pub no_twins_reached : ℕ → Bool
  no_twins_reached t = every_two t (λ e f. not (eqb e.from f.from && (eqb e.symbol f.symbol && not (eqb e.to f.to))))

  -- "or leading to one vertex by the same symbol": no two vertices of depth t
  unfoldable pub no_twins_leading : ℕ → Bool
  no_twins_leading t = every_two t (λ e f. not (eqb e.to f.to && (eqb e.symbol f.symbol && not (eqb e.from f.from))))

  -- all of them; twins are looked for at the inner depths, which are t + 1 for each t below n - 1
  unfoldable pub usable : Bool
  usable =
      whole
      && (sizes_right
      && (all edges_inside (n_of l)
      && (counts_right
      && (states_right
      && (all edges_ascend (n_of l)
      && (all onward (n_of l)
      && (all inward (n_of l)
      && (all no_twins_reached (n_of l - 1)
      && all (λ t. no_twins_leading (t + 1)) (n_of l - 1)))))))))

-- usable, with no numbers left over
unfoldable pub is_section : List ℕ → Bool
is_section section = usable section && eqb (section_length section) (length section)
