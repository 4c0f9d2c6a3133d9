-- The paths of a section and the words that they carry, as lists in word order. Everything here computes.
-- `edges t` are the edges of step t in their order; step t + 1 of document 01 is written as step t.
use mathlib.Core.List.{List, [], ◌∷◌, map, flat_map}
use Rattle.std.specs.Prelude.{ℕ, zero, suc, ◌+◌, ◌*◌, eqb}
use Rattle.trellis.specs.Lists.{keep}
use Rattle.trellis.specs.Word.{Word, word}
use Rattle.trellis.specs.Own.{Edge}

-- the symbols of a path one by one, and the vertex where it ends
pub record Path : Type 0 where
  pub symbols : List ℕ
  pub end : ℕ

abbrev pub stop : ℕ → Path
stop v = record { symbols = []; end = v }

abbrev pub along : Edge → Path → Path
along e p = record { symbols = e.symbol ∷ p.symbols; end = p.end }

-- the edges that leave vertex v
unfoldable pub leaving : ℕ → List Edge → List Edge
leaving v es = keep (λ e. eqb e.from v) es

-- all paths of k steps from vertex v of depth t, in the order of their edges
unfoldable pub paths_from : (ℕ → List Edge) → ℕ → ℕ → ℕ → List Path
paths_from edges zero t v = stop v ∷ []
paths_from edges (suc k) t v = flat_map (λ e. map (along e) (paths_from edges k (suc t) e.to)) (leaving v (edges t))

-- x followed by the symbols, two bits each
unfoldable pub pack_onto : ℕ → List ℕ → ℕ
pack_onto x [] = x
pack_onto x (a ∷ rest) = pack_onto (x * 4 + a) rest

-- the word of a path that starts at vertex v: root state, the edges' symbols, goal state
unfoldable pub word_of : (ℕ → ℕ) → (ℕ → ℕ) → ℕ → Path → Word
word_of root_of goal_of v p = word (root_of v) (pack_onto 0 p.symbols) (goal_of p.end)

-- a section's words: `roots` are its vertices of depth 0, root_of and goal_of the states of its outer vertices
unfoldable pub words_of : ℕ → (ℕ → List Edge) → List ℕ → (ℕ → ℕ) → (ℕ → ℕ) → List Word
words_of n edges roots root_of goal_of = flat_map (λ v. map (word_of root_of goal_of v) (paths_from edges n 0 v)) roots
