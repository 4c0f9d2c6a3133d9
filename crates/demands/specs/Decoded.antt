-- What decoding a chain comes to, for all arguments: "The decoder names a path of least distance, the first such in word order, and says
-- there is none only when there is none." And what becomes of it if an erased symbol costs something.
use Rattle.std.specs.Prelude.{◌≡◌, ◌↔◌, List, ℕ, suc, ◌+◌, ◌-◌, ◌*◌, ◌<◌, get_or}
use Rattle.trellis.specs.Bounds.{most_states, costs_a_block}
use Rattle.trellis.specs.Lists.{◌∈◌, sum}
use Rattle.trellis.specs.Comparing.{marked_in, Compared}
use Rattle.trellis.specs.Word.{Word, word_at}
use Rattle.trellis.specs.Layout.{n_of, section_words}
use Rattle.trellis.specs.Outcome.{success, no_path}
use Rattle.paths.specs.Choice.{Choice, none, some}
use Rattle.paths.specs.Chain.{ends_in, chain_paths, path_distance, cost_table, IsChainPath, Winner}
use Rattle.frame.specs.Frame.{Frame, block_count, block_section, block_words, word_distance}
use Rattle.decoding.specs.Decoding.{Decoding, best_by, best_of}

module _ (f : Frame) where
  -- a path takes a word of each block's section, a word's goal is the next one's root, and it goes from the start state to the end state
  abbrev pub IsFramePath : List Word → Type 0
  IsFramePath p = IsChainPath (block_words f) (ends_in f.end) (block_count f) 0 f.start p

  abbrev pub frame_paths : List (List Word)
  frame_paths = chain_paths (block_words f) (ends_in f.end) (block_count f) 0 f.start

  abbrev pub frame_distance : List Word → ℕ
  frame_distance p = path_distance (word_distance f) 0 p

  -- the least distance from state s before block b to the end state after the last block, 4294967295 where there is no path
  abbrev pub least_distance : ℕ → ℕ → ℕ
  least_distance b s =
      cost_table (block_words f) (ends_in f.end) (word_distance f)
      (block_count f - b) b s

  -- the cost table has a place for each state of each block
  pub record Tabled (costs : List ℕ) : Type 0 where
    pub at : (b s : ℕ) → b < block_count f → s < most_states → get_or costs (costs_a_block * b + s) 0 ≡ least_distance b s

  -- no list of words is a path
  pub record NoneFound (r : Decoding) : Type 0 where
    pub none : (p : List Word) → IsFramePath p → ⊥
    pub table : Tabled r.costs

  -- these words are a path, none is shorter, and each other that is as short comes after it in word order; d is their distance, and the
  -- labels, goals and masks are theirs
  pub record Won (d : ℕ) (r : Decoding) : Type 0 where
    pub words : List Word
    pub wins : Winner frame_distance frame_paths words
    pub distance_is : d ≡ frame_distance words
    pub label_at : (b : ℕ) → b < block_count f → get_or r.labels b 0 ≡ (word_at words b).label
    pub goal_at : (b : ℕ) → b < block_count f → get_or r.goals b 0 ≡ (word_at words b).goal
    -- document 02, request 5: "Demand 2 covers the masks of the winning path": the mask of a block compares its word with what was received
    pub mask_at : (b : ℕ) → b < block_count f
        → Compared (n_of (block_section f b)) (get_or f.received b 0) (get_or f.erased b 0) (word_at words b).label (get_or r.masks b 0)
        (word_distance f b (word_at words b))
    -- the ones in all masks are the distance
    pub ones : sum (λ b. marked_in (n_of (block_section f b)) (get_or r.masks b 0)) 0 (block_count f) ≡ d
    pub in_section : (b : ℕ) → b < block_count f → word_at words b ∈ section_words (block_section f b)
    pub table : Tabled r.costs
    -- what is left to pay drops by each word's distance
    pub drops : (b : ℕ) → b < block_count f
        → least_distance b (word_at words b).root
        ≡ word_distance f b (word_at words b) + least_distance (suc b) (word_at words b).goal

  -- and all paths are listed, and nothing else
  pub record Meaning (r : Decoding) : Type 0 where
    pub paths : (p : List Word) → IsFramePath p ↔ (p ∈ frame_paths)
    pub none : r.answer ≡ no_path → NoneFound r
    pub best : (d : ℕ) → r.answer ≡ success d → Won d r

-- ---- document 02, request 1: "The winning path is untouched, since every path paid the same."

-- the same for d more
unfoldable pub dearer : {P : Type 0} → ℕ → Choice P → Choice P
dearer d none = none
dearer d (some c p) = some (d + c) p

module _ (f : Frame) where
  -- how many symbols of the frame are erased
  unfoldable pub erasures : ℕ
  erasures = sum (λ b. marked_in (n_of (block_section f b)) (get_or f.erased b 0)) 0 (block_count f)

  -- If an erased symbol costs c, the first path of least distance is the same words, or there is none as before; its distance is c times
  -- the erased symbols more. Document 01's c is 1.
  abbrev pub Untouched : Type 0
  Untouched = (c : ℕ) → best_by f c ≡ dearer (c * erasures) (best_of f)
