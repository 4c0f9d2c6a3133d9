-- Our section of a table: which vertex each word has at each depth, and which edges the words take. Everything here computes.
-- Step t + 1 of document 01, from depth t to depth t + 1, is written as step t.
use Rattle.std.specs.Prelude.{Bool, true, false, List, ℕ, suc, length, ltb, eqb}
use Rattle.trellis.specs.Lists.{each, first, is_in, rank, ascending, lower}
use Rattle.trellis.specs.Label.{symbol}
use Rattle.trellis.specs.Word.{Word, word_at, same_word, joined}

pub record Edge : Type 0 where
  pub from : ℕ
  pub symbol : ℕ
  pub to : ℕ

abbrev pub edge : ℕ → ℕ → ℕ → Edge
edge x a y = record { from = x; symbol = a; to = y }

-- edges of a step are ordered by from, symbol, to
abbrev pub edge_less : Edge → Edge → Bool
edge_less e f = lower e.from e.symbol e.to f.from f.symbol f.to

module _ (n : ℕ) (table : List Word) where
  -- words i and j share a vertex at the inner depth t: the beginning of one followed by the ending of the other is a word
  unfoldable pub shares : ℕ → ℕ → ℕ → Bool
  shares t i j = is_in same_word (joined n t (word_at table i) (word_at table j)) table

  -- the first word that shares its vertex with word i
  unfoldable pub first_sharing : ℕ → ℕ → ℕ
  first_sharing t i = first (λ j. shares t j i) i

  -- what tells the vertices of depth t apart: the root, the goal, or the vertex's first word; the tests are t = 0 and t = n
  abbrev pub key_by : Bool → Bool → ℕ → ℕ → ℕ
  key_by true b t i = (word_at table i).root
  key_by false true t i = (word_at table i).goal
  key_by false false t i = first_sharing t i

  unfoldable pub key : ℕ → ℕ → ℕ
  key t i = key_by (eqb t 0) (eqb t n) t i

  -- the keys of depth t, ascending: the root states at depth 0, the goal states at depth n, first words between
  unfoldable pub keys : ℕ → List ℕ
  keys t = ascending ltb (each (key t) (length table))

  -- the vertex of word i at depth t: vertices are numbered from 0 by ascending key
  unfoldable pub vertex_of : ℕ → ℕ → ℕ
  vertex_of t i = rank (key t i) (keys t)

  unfoldable pub vertex_count : ℕ → ℕ
  vertex_count t = length (keys t)

  -- the edge that word i takes at step t
  abbrev pub edge_of : ℕ → ℕ → Edge
  edge_of t i = edge (vertex_of t i) (symbol n t (word_at table i).label) (vertex_of (suc t) i)

  -- the edges of step t in their order: those that some word takes, each once
  unfoldable pub edges_at : ℕ → List Edge
  edges_at t = ascending edge_less (each (edge_of t) (length table))

  unfoldable pub edge_count : ℕ → ℕ
  edge_count t = length (edges_at t)
