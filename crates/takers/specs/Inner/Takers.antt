-- The first word on each edge of a step, found in one scan over the words: for each vertex and symbol the scan keeps one more than the
-- highest vertex that they led to so far, and a word is the first on its edge if it leads higher.
use Rattle.std.specs.Prelude.{◌≡◌, Bool, cond, List, [], ◌∷◌, ◌++◌, ℕ, zero, suc, ◌+◌, ◌*◌, ◌<◌, ◌≤◌, length, get_or, leb, eqb}
use Rattle.trellis.specs.Bounds.{most_words}
use Rattle.trellis.specs.Label.{symbol}
use Rattle.trellis.specs.Own.{Edge, edge}

-- the edge of word i at step t, as the labels and two rows of the map give it, the first of which begins at place `row`
unfoldable pub row_edge : List ℕ → List ℕ → ℕ → ℕ → ℕ → ℕ → Edge
row_edge map labels n t row i = edge (get_or map (row + i) 0) (symbol n t (get_or labels i 0)) (get_or map (row + length labels + i) 0)

-- vertex and symbol as one number
abbrev pub key_of : Edge → ℕ
key_of e = e.from * 4 + e.symbol

-- one more than the highest vertex so far
abbrev pub raised : ℕ → ℕ → ℕ
raised high to = cond (leb high to) (to + 1) high

module _ (f : ℕ → Edge) where
  -- one more than the highest vertex that the first m edges with the key k led to, or 0
  unfoldable pub highest : ℕ → ℕ → ℕ
  highest zero k = 0
  highest (suc m) k = cond (eqb (key_of (f m)) k) (raised (highest m k) (f m).to) (highest m k)

  -- whether word m leads higher than all before it
  unfoldable pub leads_higher : ℕ → Bool
  leads_higher m = leb (highest m (key_of (f m))) (f m).to

  -- of the first m words, those that did
  unfoldable pub takers : ℕ → List ℕ
  takers zero = []
  takers (suc m) = cond (leads_higher m) (takers m ++ (m ∷ [])) (takers m)

-- two rows of the map from place `row` on, with vertices few enough for the scan
pub record SmallRows (map labels : List ℕ) (row : ℕ) : Type 0 where
  pub words : length labels ≤ most_words
  pub room : row + length labels + length labels ≤ length map
  pub from : (i : ℕ) → i < length labels → get_or map (row + i) 0 < most_words
  pub to : (i : ℕ) → i < length labels → get_or map (row + length labels + i) 0 < most_words

-- key and to are those of the edge e
pub record ArcOf (e : Edge) (key to : ℕ) : Type 0 where
  pub key_is : key ≡ key_of e
  pub to_is : to ≡ e.to
  pub key_lt : key < 4096
  pub to_lt : to < most_words
