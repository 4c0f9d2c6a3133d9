-- What decoding a chain leaves: document 01's answer and the whole content of the four buffers, from the buffers before the call. The
-- answer is read off the plain list of all paths in word order: the first of least distance.
use Rattle.std.specs.Prelude.{cond, List, map, ◌≡◌, ℕ, ◌-◌, ◌*◌, ◌/◌, ◌%◌, ltb, length}
use Rattle.trellis.specs.Bounds.{costs_a_block}
use Rattle.trellis.specs.Lists.{each, first, over}
use Rattle.trellis.specs.Comparing.{erasure_cost}
use Rattle.trellis.specs.Word.{Word, word_at}
use Rattle.trellis.specs.Outcome.{Outcome, success, bad_section, bad_block, short_buffer, no_path}
use Rattle.outcomes.specs.Numbered.{Numbered}
use Rattle.paths.specs.Choice.{Choice, none, some}
use Rattle.paths.specs.Chain.{best_path, cost_table, ends_in}
use Rattle.sections.specs.Sections.{sections_bad, bad_section_of}
use Rattle.frame.specs.Frame.{Frame, block_count, frame_bad, block_words, word_distance_by, word_distance, word_mask, block_bad}
use Rattle.room.specs.Room.{needed_to_decode}

pub record Decoding : Type 0 where
  pub answer : Outcome
  pub costs : List ℕ
  pub labels : List ℕ
  pub goals : List ℕ
  pub masks : List ℕ

abbrev pub left : Outcome → List ℕ → List ℕ → List ℕ → List ℕ → Decoding
left o costs labels goals masks = record { answer = o; costs = costs; labels = labels; goals = goals; masks = masks }

module _ (f : Frame) where
  -- the first path of least distance from the start state to the end state, if an erased symbol costs c
  unfoldable pub best_by : ℕ → Choice (List Word)
  best_by c = best_path (block_words f) (ends_in f.end) (word_distance_by f c) (block_count f) 0 f.start

  -- the path that decoding names: an erased symbol costs nothing
  abbrev pub best_of : Choice (List Word)
  best_of = best_by erasure_cost

  -- block after block, for each state s the least distance from s before the block to the end state after the last block
  unfoldable pub table_of : List ℕ
  table_of =
      each
      (λ i.
      cost_table (block_words f) (ends_in f.end) (word_distance f) (block_count f - i / costs_a_block) (i / costs_a_block) (i % costs_a_block))
      (costs_a_block * block_count f)

  -- block after block, the masks of a path's words
  unfoldable pub masks_of : List Word → List ℕ
  masks_of ws = each (λ b. word_mask f b (word_at ws b)) (block_count f)

  module _ (costs labels goals masks : List ℕ) where
    -- 11, or success
    unfoldable pub found : Choice (List Word) → Decoding
    found none = left no_path (over table_of costs) labels goals masks
    found (some d ws) =
        left (success d) (over table_of costs) (over (map (λ w. w.label) ws) labels) (over (map (λ w. w.goal) ws) goals)
        (over (masks_of ws) masks)

    -- 10: the first short buffer
    unfoldable pub fitted : Decoding
    fitted =
        cond (ltb 0 (needed_to_decode (block_count f) (length costs) (length labels) (length goals) (length masks)))
        (left (short_buffer (needed_to_decode (block_count f) (length costs) (length labels) (length goals) (length masks))) costs labels goals
        masks)
        (found best_of)

    -- 9: a length or a state, else the first bad block
    unfoldable pub framed : Decoding
    framed =
        cond (frame_bad f) (left (bad_block (block_count f)) costs labels goals masks)
        (cond (ltb (first (block_bad f) (block_count f)) (block_count f))
        (left (bad_block (first (block_bad f) (block_count f))) costs labels goals masks) fitted)

    -- 8
    unfoldable pub decoding : Decoding
    decoding =
        cond (sections_bad f.sections f.k) (left (bad_section (bad_section_of f.sections f.k)) costs labels goals masks) framed

-- the same with the answer in numbers, as the function for C leaves it
pub record DecodeLeft (m : Decoding) (number : ℕ) (costs labels goals masks values : List ℕ) : Type 0 where
  pub answer_is : Numbered m.answer number values
  pub costs_are : costs ≡ m.costs
  pub labels_are : labels ≡ m.labels
  pub goals_are : goals ≡ m.goals
  pub masks_are : masks ≡ m.masks
