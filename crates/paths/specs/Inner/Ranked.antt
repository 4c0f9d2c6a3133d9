-- A distance and a word in one number: the distance counts most, then the label, then the goal, so that the least number is that of the
-- first word of least distance; and the note, the low end of such a number, which fits a place of a cost table. Everything but the records
-- computes.
use Rattle.std.specs.Prelude.{◌≡◌, List, ℕ, suc, ◌+◌, ◌-◌, ◌*◌, ◌/◌, ◌%◌, ◌^◌, ◌≤◌, ◌<◌, length, get_or}
use Rattle.std.proofs.Math.Option.{some as just}
use Rattle.trellis.specs.Bounds.{most_states}
use Rattle.trellis.specs.Word.{Word, word}
use Rattle.paths.specs.Chain.{unreached}
use Rattle.paths.specs.Inner.OneBlock.{least_over, first_over}

-- the goal takes one bit more than a state has, the label the 16 above these, the distance what is above both
abbrev pub label_unit : ℕ
label_unit = 2 * most_states

abbrev pub distance_unit : ℕ
distance_unit = label_unit * 65536

unfoldable pub ranked : ℕ → ℕ → ℕ → ℕ
ranked d label goal = d * distance_unit + (label * label_unit + goal)

-- no path: its distance is 4294967295, and all bits below are set. It is small enough that no sum of two numbers up to it wraps
abbrev pub top_rank : ℕ
top_rank = (unreached + 1) * distance_unit - 1

-- what the symbol a adds as symbol t of n: its cost, and its place in the label
unfoldable pub ranked_cost : ℕ → (ℕ → ℕ → ℕ) → ℕ → ℕ → ℕ
ranked_cost n cost t a = ranked (cost t a) (a * 4 ^ (n - suc t)) 0

-- what is added behind the block in the state s: what is left to pay there, and the goal
unfoldable pub ranked_left : ℕ → ℕ → ℕ
ranked_left left s = ranked left 0 s

-- an array of prices, four a step for 8 steps, none of them above the top
pub record PriceRoom (prices : List ℕ) : Type 0 where
  pub long : length prices ≡ 32
  pub small : (i : ℕ) → get_or prices i 0 ≤ top_rank

-- A note is the low 32 bits of a rank: the distance's remainder by `note_cycle`, the label and the goal. The note of no path is 4294967295,
-- as in a cost table; no word has it, since its goal would be `no_goal`, which is no state.
abbrev pub note_unit : ℕ
note_unit = 4294967296

abbrev pub note_cycle : ℕ
note_cycle = note_unit / distance_unit

abbrev pub no_goal : ℕ
no_goal = label_unit - 1

abbrev pub note_goal : ℕ → ℕ
note_goal note = note % label_unit

abbrev pub note_word : ℕ → ℕ → Word
note_word s note = word s (note % distance_unit / label_unit) (note_goal note)

-- What a note tells of state s before a block. If it is not that of no path, it names a word: what this costs and what is left to pay
-- behind it are the least cost, of which the note has the remainder. Where there is a path, the word is the first of least cost.
pub record Noted (ws : List Word) (price : Word → ℕ) (left : ℕ → ℕ) (s note : ℕ) : Type 0 where
  pub small : note ≤ unreached
  pub none : unreached ≤ note → least_over ws price unreached left s ≡ unreached
  pub goal_lt : note < unreached → note_goal note < most_states
  pub remainder : note < unreached → note / distance_unit ≡ least_over ws price unreached left s % note_cycle
  pub adds_up : note < unreached → least_over ws price unreached left s ≡ price (note_word s note) + left (note_goal note)
  pub first : least_over ws price unreached left s < unreached → first_over ws price unreached left s ≡ just (note_word s note)
