-- Numbers in front of an array that has a place for each bit of a row.
use Rattle.std.specs.Prelude.{◌≡◌, List, ℕ, length, take}

-- the first numbers of an array of 16 are vs
pub record Front (vs array : List ℕ) : Type 0 where
  pub are : take (length vs) array ≡ vs
  pub sixteen : length array ≡ 16
