-- Words in three lists: what merging asks of them, and what copying leaves.
use Rattle.std.specs.Prelude.{◌≡◌, List, ℕ, suc, ◌*◌, ◌<◌, ◌≤◌, length, get_or}
use Rattle.trellis.specs.Bounds.{most_words}
use Rattle.fields.specs.Fields.{file_word}
use Rattle.depths.specs.Inner.Words.{Held}
use Rattle.layout.specs.Inner.States.{Few}

-- words in three lists, with states that fit, and a map long enough for them
pub record WordsHeld (n : ℕ) (roots labels goals map : List ℕ) : Type 0 where
  pub held : Held n roots labels goals
  pub few_roots : Few roots
  pub few_goals : Few goals
  pub some : 0 < length roots
  pub room : suc n * length roots ≤ length map

-- the first `count` places of three arrays hold the words of the file
pub record Copied (file : List ℕ) (count : ℕ) (roots labels goals : List ℕ) : Type 0 where
  pub root : (i : ℕ) → i < count → get_or roots i 0 ≡ (file_word file i).root
  pub label : (i : ℕ) → i < count → get_or labels i 0 ≡ (file_word file i).label
  pub goal : (i : ℕ) → i < count → get_or goals i 0 ≡ (file_word file i).goal
  pub root_places : length roots ≡ most_words
  pub label_places : length labels ≡ most_words
  pub goal_places : length goals ≡ most_words
