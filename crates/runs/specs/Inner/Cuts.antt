-- Words cut at depth t, for words of n symbols: a number for the beginning and a number for the ending, in the order of words.
use Rattle.std.specs.Prelude.{List, [], ◌∷◌, ℕ, ◌+◌, ◌*◌, ◌^◌}
use Rattle.trellis.specs.Label.{symbol, front, back}
use Rattle.trellis.specs.Word.{Word, word_at}

-- a number above_goals every goal
unfoldable pub above_goals : List Word → ℕ
above_goals [] = 1
above_goals (w ∷ table) = w.goal + above_goals table

unfoldable pub beginning_number : ℕ → ℕ → Word → ℕ
beginning_number n t w = w.root * 4 ^ t + front n t w.label

-- high is above_goals every goal
unfoldable pub ending_number : ℕ → ℕ → ℕ → Word → ℕ
ending_number n t high w = back n t w.label * high + w.goal

abbrev pub beginning_at : ℕ → List Word → ℕ → ℕ → ℕ
beginning_at n table t i = beginning_number n t (word_at table i)

abbrev pub ending_at : ℕ → List Word → ℕ → ℕ → ℕ
ending_at n table t i = ending_number n t (above_goals table) (word_at table i)

-- symbol t before a number for what follows depth t + 1: a key at depth t from one at depth t + 1
abbrev pub step_key : ℕ → List Word → ℕ → (ℕ → ℕ) → ℕ → ℕ
step_key n table t v i = v i * 4 + symbol n t (word_at table i).label
