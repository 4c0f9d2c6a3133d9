-- The beginnings between two blocks, and how they are found again. A slot has what a beginning costs at least in the end, above a code: its
-- own place, the state that it has reached, and no symbols. Back pointers have a code for each place behind each block: the place of the
-- beginning that it goes on from, the goal and the label of its last word. All but the record computes.
use Rattle.std.specs.Prelude.{◌≡◌, List, [], ◌∷◌, ◌++◌, ℕ, zero, suc, ◌+◌, ◌-◌, ◌*◌, ◌≤◌, ◌<◌, length, get_or}
use Rattle.trellis.specs.Bounds.{most_paths, most_states, most_blocks}
use Rattle.trellis.specs.Lists.{each}
use Rattle.trellis.specs.Word.{Word, word}
use Rattle.paths.specs.Chain.{unreached}
use Rattle.ranking.specs.Inner.Growth.{Start, start}
use Rattle.dearest.specs.Inner.Items.{cost_in, code_in}
use Rattle.codes.specs.Inner.Codes.{code, code_root, code_vertex, code_label}

-- a back pointer for each place behind each block
abbrev pub back_long : ℕ
back_long = most_paths * most_blocks

module _ (back : List ℕ) (first : ℕ) where
  abbrev pub back_at : ℕ → ℕ → ℕ
  back_at b j = get_or back (most_paths * b + j) 0

  -- the state of beginning j in front of block b; `first` is the state in front of the first
  unfoldable pub state_at : ℕ → ℕ → ℕ
  state_at zero j = first
  state_at (suc b) j = code_vertex (back_at b j)

  -- its words
  unfoldable pub trail : ℕ → ℕ → List Word
  trail zero j = []
  trail (suc b) j =
      trail b (code_root (back_at b j))
      ++ (word (state_at b (code_root (back_at b j))) (code_label (back_at b j)) (code_vertex (back_at b j)) ∷ [])

  -- beginning j in front of block b, where `rest s` is the least that is left to pay from state s
  unfoldable pub begun_at : (ℕ → ℕ) → List ℕ → ℕ → ℕ → Start (List Word)
  begun_at rest slots b j = start (trail b j) (state_at b j) (cost_in (get_or slots j 0) - rest (state_at b j))

-- back pointers lead to places, and their goals are states
pub record NotedWell (back : List ℕ) : Type 0 where
  pub long : length back ≡ back_long
  pub proper : (i : ℕ) → code_root (get_or back i 0) < most_paths
  pub small : (i : ℕ) → code_vertex (get_or back i 0) < most_states

-- the first `have` slots are the beginnings kept in front of block b
pub record Slots (back : List ℕ) (first : ℕ) (rest : ℕ → ℕ) (slots : List ℕ) (b have : ℕ) (kept : List (Start (List Word))) : Type 0 where
  pub long : length slots ≡ most_paths
  pub few : have ≤ most_paths
  pub noted : NotedWell back
  pub are : kept ≡ each (begun_at back first rest slots b) have
  pub coded : (j : ℕ) → j < have → code_in (get_or slots j 0) ≡ code j (state_at back first b j) 0
  pub state_lt : (j : ℕ) → j < have → state_at back first b j < most_states
  pub low : (j : ℕ) → j < have → cost_in (get_or slots j 0) < unreached
  pub paid : (j : ℕ) → j < have → rest (state_at back first b j) ≤ cost_in (get_or slots j 0)
