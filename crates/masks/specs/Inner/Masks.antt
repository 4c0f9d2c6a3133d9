-- The masks of a frame's words, one for each block.
use Rattle.std.specs.Prelude.{◌≡◌, List, ℕ, ◌^◌, ◌<◌, ◌≤◌, length, get_or}
use Rattle.trellis.specs.Bounds.{most_symbols}
use Rattle.trellis.specs.Comparing.{differing}

-- there is an erasure mask, a label and a place for each received label
pub record MasksAsked (received erased labels masks : List ℕ) : Type 0 where
  pub erased_long : length received ≤ length erased
  pub labels_long : length received ≤ length labels
  pub masks_long : length received ≤ length masks

-- the first b masks are written, whatever n it is that the labels of a block fit, and places beyond them are as they were
pub record MasksPut (received erased labels old new : List ℕ) (b : ℕ) : Type 0 where
  pub long : length new ≡ length old
  pub at : (i n : ℕ) → i < b → n ≤ most_symbols → get_or received i 0 < 4 ^ n → get_or labels i 0 < 4 ^ n
      → get_or new i 0 ≡ differing n (get_or received i 0) (get_or erased i 0) (get_or labels i 0)
  pub kept : (i : ℕ) → b ≤ i → get_or new i 0 ≡ get_or old i 0
