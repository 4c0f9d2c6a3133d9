-- What refusing a table asks and leaves.
use Rattle.std.specs.Prelude.{List, ℕ, replicate}
use Rattle.trellis.specs.Lists.{over}
use Rattle.depths.specs.Inner.Words.{words}
use Rattle.depths.specs.Inner.Merge.{FirstRefused}
use Rattle.word_lists.specs.Inner.Lists.{WordsHeld}

-- count places of a buffer cleared
abbrev pub cleared : ℕ → List ℕ → List ℕ
cleared count buffer = over (replicate count 0) buffer

-- or t is the first inner depth at which the table is not rectangular
pub record RefusedAt (n t : ℕ) (roots labels goals map : List ℕ) : Type 0 where
  pub asked : WordsHeld n roots labels goals map
  pub first : FirstRefused n (words roots labels goals) 1 t
