-- The slots in front of a block stand for the k best beginnings of a frame's paths up to there.
use Rattle.std.specs.Prelude.{◌≡◌, List, ℕ, ◌+◌, ◌-◌, ◌*◌, ◌≤◌, ◌<◌, length, get_or}
use Rattle.trellis.specs.Bounds.{most_states, costs_a_block}
use Rattle.trellis.specs.Word.{Word}
use Rattle.paths.specs.Chain.{unreached, ends_in}
use Rattle.paths.specs.Inner.Chains.{chain_least}
use Rattle.ranking.specs.Inner.Growth.{Start, narrow}
use Rattle.ranking.specs.Inner.Chain.{one_word, chain_rated, chain_kept}
use Rattle.beginnings.specs.Inner.Trails.{Slots}
use Rattle.frame.specs.Frame.{Frame, block_count, block_words, word_distance}

module _ (f : Frame) where
  -- the least distance from state s before block b to the end of the chain
  abbrev pub least_at : ℕ → ℕ → ℕ
  least_at b s = chain_least (block_words f) (ends_in f.end) (word_distance f) unreached (block_count f - b) b s

  -- the cost table is there, and there is a path from the start state
  pub record Tabled (costs : List ℕ) : Type 0 where
    pub long : costs_a_block * block_count f ≤ length costs
    pub at : (b s : ℕ) → b < block_count f → s < most_states → get_or costs (costs_a_block * b + s) 0 ≡ least_at b s
    pub some : least_at 0 f.start < unreached

  -- the slots are the k best beginnings in front of block b, and what comes of them is what is kept of the whole chain
  pub record KeptAt (k b have : ℕ) (slots back : List ℕ) : Type 0 where
    pub inside : b ≤ block_count f
    pub few : have ≤ k
    pub kept : List (Start (List Word))
    pub are : Slots back f.start (least_at b) slots b have kept
    pub whole : narrow (one_word (block_words f) (ends_in f.end) (word_distance f))
        (chain_rated (block_words f) (ends_in f.end) (word_distance f) unreached) unreached k (block_count f - b) b kept
        ≡ chain_kept (block_words f) (ends_in f.end) (word_distance f) unreached k (block_count f) 0 f.start
