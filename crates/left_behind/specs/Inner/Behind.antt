-- What is left to pay behind a block, state by state.
use Rattle.std.specs.Prelude.{◌≡◌, cond, List, ℕ, suc, ◌+◌, ◌*◌, ◌<◌, ltb, length, get_or}
use Rattle.trellis.specs.Bounds.{most_states, costs_a_block}

-- what is left to pay behind block b in state s: by the row of the next block, or by `ends` behind the last
pub record LeftBehind (costs ends : List ℕ) (blocks b : ℕ) (left : List ℕ) : Type 0 where
  pub long : length left ≡ most_states
  pub at : (s : ℕ) → s < most_states
      → get_or left s 0 ≡ cond (ltb (suc b) blocks) (get_or costs (costs_a_block * suc b + s) 0) (get_or ends s 0)
