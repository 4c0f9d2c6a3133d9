-- What the last stage of merging asks.
use Rattle.std.specs.Prelude.{◌≡◌, List, ℕ, length}
use Rattle.depths.specs.Inner.Words.{words}
use Rattle.depths.specs.Inner.Merge.{InnerMerged}
use Rattle.word_lists.specs.Inner.Lists.{WordsHeld}

-- and the inner depths are in the map
pub record Inside (n : ℕ) (roots labels goals map counts : List ℕ) : Type 0 where
  pub asked : WordsHeld n roots labels goals map
  pub sound : InnerMerged n (words roots labels goals) 1 map counts
  pub nine : length counts ≡ 9
