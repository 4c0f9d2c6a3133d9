-- An inner depth of the map: what numbering words by their syndromes asks and leaves.
use Rattle.std.specs.Prelude.{◌≡◌, List, ℕ, ◌+◌, ◌^◌, ◌≤◌, ◌<◌, length, get_or}
use Rattle.rows.specs.Sums.{sum_of}
use Rattle.rows.specs.Check.{syndrome_at}
use Rattle.rows.specs.Inner.Numbering.{number, numbers_below}

-- the syndrome of word i before a cut
abbrev pub syndrome_of : List ℕ → List ℕ → ℕ → ℕ → ℕ
syndrome_of columns rows cut i = syndrome_at columns cut (sum_of rows i)

pub record DepthAsked (columns rows : List ℕ) (cut : ℕ) (map : List ℕ) (place : ℕ) : Type 0 where
  pub sixteen : length columns ≡ 16
  pub few : length rows ≤ 10
  pub near : cut < 16
  pub room : place + 2 ^ length rows ≤ length map

-- the map has the numbers of all words' syndromes from place on, of which there are 2 ^ dim; all else is as before
pub record DepthPut (columns rows : List ℕ) (cut : ℕ) (old : List ℕ) (place : ℕ) (new : List ℕ) (dim : ℕ) : Type 0 where
  pub len : length new ≡ length old
  pub row : (i : ℕ) → i < 2 ^ length rows → get_or new (place + i) 0 ≡ number (syndrome_of columns rows cut) i
  pub counted : 2 ^ dim ≡ numbers_below (syndrome_of columns rows cut) (2 ^ length rows)
  pub few : dim ≤ 10
  pub front : (i : ℕ) → i < place → get_or new i 0 ≡ get_or old i 0
  pub behind : (i : ℕ) → place + 2 ^ length rows ≤ i → get_or new i 0 ≡ get_or old i 0
