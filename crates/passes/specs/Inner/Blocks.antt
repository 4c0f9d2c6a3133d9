-- What passing a block leaves: what is left to pay before it and the notes, from the prices of its symbols and what is left to pay behind
-- it. `l` has the block's section at its front.
use Rattle.std.specs.Prelude.{◌≡◌, List, ℕ, ◌≤◌, ◌<◌, length, get_or}
use Rattle.trellis.specs.Bounds.{most_states}
use Rattle.trellis.specs.Layout.{n_of, vertex_count_of, root_state, section_words}
use Rattle.paths.specs.Chain.{unreached}
use Rattle.paths.specs.Inner.OneBlock.{least_over, word_price}
use Rattle.paths.specs.Inner.Ranked.{ranked_cost, Noted}
use Rattle.lowering.specs.Inner.Rows.{Priced}

-- `cost` is what a symbol costs at a step, and `rest` what is left to pay behind the block in a state
pub record Costs (l prices left : List ℕ) (cost : ℕ → ℕ → ℕ) (rest : ℕ → ℕ) : Type 0 where
  pub priced : Priced l prices (ranked_cost (n_of l) cost)
  pub behind : (s : ℕ) → s < most_states → get_or left s 0 ≡ rest s
  pub bound : (s : ℕ) → rest s ≤ unreached

-- the least cost from each state before the block, and a note of it and of the first word of least cost; a state that is no root has the
-- note of no path
pub record BlockPassed (l prices left new notes : List ℕ) : Type 0 where
  pub long : length new ≡ most_states
  pub notes_long : length notes ≡ most_states
  pub least : (cost : ℕ → ℕ → ℕ) (rest : ℕ → ℕ) → Costs l prices left cost rest → (s : ℕ) → s < most_states
      → get_or new s 0 ≡ least_over (section_words l) (word_price (n_of l) cost) unreached rest s
  pub noted : (cost : ℕ → ℕ → ℕ) (rest : ℕ → ℕ) → Costs l prices left cost rest → (s : ℕ) → s < most_states
      → Noted (section_words l) (word_price (n_of l) cost) rest s (get_or notes s 0)
  pub unrooted : (s : ℕ) → s < most_states → ((u : ℕ) → u < vertex_count_of l 0 → root_state l u ≡ s → ⊥) → get_or notes s 0 ≡ unreached
