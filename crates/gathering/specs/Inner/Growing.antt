-- Numbers put into a fixed array one behind another, which may turn out too many; and where the edges of a vertex begin.
use Rattle.std.specs.Prelude.{◌≡◌, List, ◌++◌, map, ℕ, ◌+◌, ◌-◌, ◌≤◌, ◌<◌, length, get_or, take, Option, MatchOption}
use Rattle.trellis.specs.Bounds.{most_states, most_words}
use Rattle.trellis.specs.Lists.{run, each}
use Rattle.trellis.specs.Own.{Edge}
use Rattle.trellis.specs.Section.{leaving}
use Rattle.trellis.specs.Layout.{n_of}
use Rattle.codes.specs.Inner.Codes.{code}
use Rattle.gathering.specs.Inner.Levels.{level, coded}

-- vs put behind the first made numbers of an array of 1,024: that many are filled then
pub record PutAll (vs old : List ℕ) (made : ℕ) (new : List ℕ) (filled : ℕ) : Type 0 where
  pub room : filled ≤ most_words
  pub filled_is : take filled new ≡ take made old ++ vs
  pub count : filled ≡ made + length vs

-- and how many that is, or none where they are too many
pub record PutBehind (vs old : List ℕ) (made : ℕ) (new : List ℕ) (r : Option ℕ) : Type 0 where
  pub long : length new ≡ most_words
  pub put : MatchOption r (most_words < made + length vs) (PutAll vs old made new)

-- the edges of vertex v among the first count are those from place a on, and a is the first of them where there is any
pub record BeginsAt (e : ℕ → Edge) (count v a : ℕ) : Type 0 where
  pub inside : a ≤ count
  pub same : leaving v (run e 0 count) ≡ leaving v (run e a (count - a))
  pub hit : a < count → (e a).from ≡ v

-- for each vertex below 1,024, where its edges begin
pub record Starts (e : ℕ → Edge) (count : ℕ) (starts : List ℕ) : Type 0 where
  pub long : length starts ≡ most_words
  pub at : (v : ℕ) → v < most_words → BeginsAt e count v (get_or starts v 0)

-- the section's words as numbers in an array of 1,024
pub record AllGathered (s : List ℕ) (codes : List ℕ) (count : ℕ) : Type 0 where
  pub room : count ≤ most_words
  pub filled : take count codes ≡ map coded (level s (n_of s))
  pub count_is : count ≡ length (level s (n_of s))

-- and how many they are, or none where there are more words than that
pub record Gathered (s : List ℕ) (codes : List ℕ) (count : Option ℕ) : Type 0 where
  pub long : length codes ≡ most_words
  pub found : MatchOption count (most_words < length (level s (n_of s))) (AllGathered s codes)

-- from place at on the states of the vertices of depth 0, each of six bits
pub record FirstLevel (s : List ℕ) (at count : ℕ) : Type 0 where
  pub there : at + count ≤ length s
  pub few : count ≤ most_words
  pub small : (v : ℕ) → v < count → get_or s (at + v) 0 < most_states

pub record RootCodes (s : List ℕ) (at count : ℕ) (codes : List ℕ) : Type 0 where
  pub long : length codes ≡ most_words
  pub filled : take count codes ≡ each (λ v. code (get_or s (at + v) 0) v 0) count
