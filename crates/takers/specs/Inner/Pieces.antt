-- The edges of all steps by their first words, one step behind another, and the two arrays that the layout makes of them.
use Rattle.std.specs.Prelude.{◌≡◌, ℕ, suc, ◌+◌, ◌*◌, ◌<◌, ◌≤◌, length, get_or}
use mathlib.Core.List.{List, [], ◌∷◌, map, flat_map}
use Rattle.trellis.specs.Bounds.{most_words, most_symbols}
use Rattle.trellis.specs.Lists.{run}
use Rattle.trellis.specs.Label.{symbol}
use Rattle.trellis.specs.Own.{Edge}
use Rattle.trellis.specs.Layout.{joined_up, pair_of, symbol_of}
use Rattle.trellis.specs.Inner.Write.{Wrote}
use Rattle.takers.specs.Inner.Takers.{row_edge, takers}

-- a map of n + 1 rows with vertices few enough for the scan
pub record SmallMap (map labels : List ℕ) (n : ℕ) : Type 0 where
  pub steps : n ≤ most_symbols
  pub words : length labels ≤ most_words
  pub room : suc n * length labels ≤ length map
  pub vertices : (j : ℕ) → j < suc n * length labels → get_or map j 0 < most_words

module _ (m labels : List ℕ) (n : ℕ) where
  -- the edges of step t as the map gives them, and their first words
  abbrev pub map_edge : ℕ → ℕ → Edge
  map_edge t i = row_edge m labels n t (t * length labels) i

  unfoldable pub step_takers : ℕ → List ℕ
  step_takers t = takers (map_edge t) (length labels)

  -- the edges of step t
  unfoldable pub step_list : ℕ → List Edge
  step_list t = map (map_edge t) (step_takers t)

-- what take_edges leaves: the first words of all steps, how many in all, how many at each step
pub record AllTaken (m labels : List ℕ) (n : ℕ) (old new : List ℕ) (total : ℕ) (counts : List ℕ) : Type 0 where
  pub noted : Wrote old 0 (joined_up (step_takers m labels n) n) new total
  pub counted : (t : ℕ) → t < n → get_or counts t 0 ≡ length (step_takers m labels n t)
  pub places : length counts ≡ most_symbols
  pub few : total ≤ n * length labels

-- words from place lo of a list on, count of them
abbrev pub part : List ℕ → ℕ → ℕ → List ℕ
part l lo count = run (λ k. get_or l k 0) lo count

-- the pairs (from, to) of words' edges, and their symbols
unfoldable pub pairs_of : List ℕ → ℕ → ℕ → List ℕ → List ℕ
pairs_of m words row ks = flat_map (λ i. get_or m (row + i) 0 ∷ get_or m (row + words + i) 0 ∷ []) ks

unfoldable pub symbols_of : List ℕ → ℕ → ℕ → List ℕ → List ℕ
symbols_of labels n t ks = map (λ i. symbol n t (get_or labels i 0)) ks

-- places lo to hi of a list hold words
pub record WordsAt (l : List ℕ) (lo hi words : ℕ) : Type 0 where
  pub order : lo ≤ hi
  pub inside : hi ≤ length l
  pub below : (k : ℕ) → lo ≤ k → k < hi → get_or l k 0 < words

-- the list `words` holds the first words of all steps, and counts how many each step has
pub record Taken (m labels : List ℕ) (n : ℕ) (words counts : List ℕ) : Type 0 where
  pub holds : (t : ℕ) → t < n → (k : ℕ) → k < length (step_takers m labels n t)
      → get_or words (length (joined_up (step_takers m labels n) t) + k) 0 ≡ get_or (step_takers m labels n t) k 0
  pub counted : (t : ℕ) → t < n → get_or counts t 0 ≡ length (step_takers m labels n t)
  pub room : length (joined_up (step_takers m labels n) n) ≤ length words
  pub places : length counts ≡ most_symbols

module _ (m labels : List ℕ) (n : ℕ) where
  unfoldable pub step_pairs : ℕ → List ℕ
  step_pairs t = flat_map pair_of (step_list m labels n t)

  unfoldable pub step_symbols : ℕ → List ℕ
  step_symbols t = map symbol_of (step_list m labels n t)
