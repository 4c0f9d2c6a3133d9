-- The table that three parallel lists hold: roots, labels and goals.
use Rattle.std.specs.Prelude.{◌≡◌, List, [], ◌∷◌, ℕ, ◌≤◌, length}
use Rattle.trellis.specs.Bounds.{most_words, most_symbols}
use Rattle.trellis.specs.Word.{Word, word, Table}

unfoldable pub words : List ℕ → List ℕ → List ℕ → List Word
words [] labels goals = []
words (r ∷ roots) [] goals = []
words (r ∷ roots) (l ∷ labels) [] = []
words (r ∷ roots) (l ∷ labels) (g ∷ goals) = word r l g ∷ words roots labels goals

-- the lists hold a table of at most 1,024 words of at most 8 symbols
pub record Held (n : ℕ) (roots labels goals : List ℕ) : Type 0 where
  pub short : n ≤ most_symbols
  pub few : length roots ≤ most_words
  pub labelled : length labels ≡ length roots
  pub aimed : length goals ≡ length roots
  pub table : Table n (words roots labels goals)
