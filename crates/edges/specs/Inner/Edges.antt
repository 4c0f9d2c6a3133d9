-- The edges of a step as the code reads them, in the two slices where their pairs (from, to) and their symbols begin: that they are there,
-- that each is small enough to be a place in the arrays of marks, and the tests of each against the bounds and the edge before it.
use Rattle.std.specs.Prelude.{Bool, true, ◌&&◌, List, ℕ, zero, suc, ◌+◌, ◌*◌, ◌≤◌, ◌<◌, length, get_or, ltb}
use Rattle.trellis.specs.Bounds.{most_words, most_q}
use Rattle.trellis.specs.Own.{Edge, edge, edge_less}
use Rattle.edges.specs.declared.Edge as held

-- edge k of those whose pairs (from, to) and symbols are two lists
abbrev pub edge_in : List ℕ → List ℕ → ℕ → Edge
edge_in pairs symbols k = edge (get_or pairs (2 * k) 0) (get_or symbols k 0) (get_or pairs (2 * k + 1) 0)

-- an edge of the theory as the code holds it, and back
abbrev pub held_edge : Edge → held.Edge
held_edge e = record { from = e.from; symbol = e.symbol; to = e.to }

abbrev pub meant_edge : held.Edge → Edge
meant_edge e = edge e.from e.symbol e.to

-- count edges are there
pub record EdgesThere (pairs symbols : List ℕ) (count : ℕ) : Type 0 where
  pub few : count ≤ most_words
  pub pairs_in : 2 * count ≤ length pairs
  pub symbols_in : count ≤ length symbols

-- count edges are there, and their vertices and symbols are in bounds
pub record EdgesSmall (pairs symbols : List ℕ) (count : ℕ) : Type 0 where
  pub there : EdgesThere pairs symbols count
  pub from_small : (k : ℕ) → k < count → (edge_in pairs symbols k).from < most_words
  pub symbol_small : (k : ℕ) → k < count → (edge_in pairs symbols k).symbol < most_q
  pub to_small : (k : ℕ) → k < count → (edge_in pairs symbols k).to < most_words

-- edge k starts, ends and is marked within bounds
unfoldable pub inside : (ℕ → Edge) → ℕ → ℕ → ℕ → ℕ → Bool
inside e q froms tos k = ltb (e k).from froms && (ltb (e k).to tos && ltb (e k).symbol q)

-- edge k is above the edge before it
unfoldable pub above : (ℕ → Edge) → ℕ → Bool
above e zero = true
above e (suc k) = edge_less (e k) (e (suc k))
