-- What listing the k best paths of a chain leaves, by document 02's request 6: its answer and the whole content of the four buffers, from
-- the buffers before the call. The answer is read off the same plain list of all paths as that of decoding, sorted by distance.
use Rattle.std.specs.Prelude.{cond, ◌≡◌, ℕ, ltb, length}
use mathlib.Core.List.{List, [], ◌∷◌, map, flat_map}
use Rattle.trellis.specs.Bounds.{most_paths}
use Rattle.trellis.specs.Lists.{first, over, within}
use Rattle.trellis.specs.Word.{Word}
use Rattle.trellis.specs.Outcome.{Outcome, success, bad_section, bad_block, short_buffer, no_path, bad_path_count}
use Rattle.outcomes.specs.Numbered.{Numbered}
use Rattle.paths.specs.Chain.{path_distance, ends_in}
use Rattle.ranking.specs.Several.{best_paths}
use Rattle.sections.specs.Sections.{sections_bad, bad_section_of}
use Rattle.frame.specs.Frame.{Frame, block_count, frame_bad, block_words, word_distance, block_bad}
use Rattle.room.specs.Room.{needed_to_list}
use Rattle.decoding.specs.Decoding.{table_of}

pub record Listing : Type 0 where
  pub answer : Outcome
  pub costs : List ℕ
  pub distances : List ℕ
  pub labels : List ℕ
  pub goals : List ℕ

abbrev pub left : Outcome → List ℕ → List ℕ → List ℕ → List ℕ → Listing
left o costs distances labels goals = record { answer = o; costs = costs; distances = distances; labels = labels; goals = goals }

module _ (f : Frame) (paths : ℕ) where
  -- so many best paths from the start state to the end state, or all where fewer exist
  unfoldable pub list_of : List (List Word)
  list_of = best_paths (block_words f) (ends_in f.end) (word_distance f) paths (block_count f) 0 f.start

  module _ (costs distances labels goals : List ℕ) where
    -- 11, or success: path after path
    unfoldable pub found : List (List Word) → Listing
    found [] = left no_path (over (table_of f) costs) distances labels goals
    found (p ∷ ps) =
        left (success (length (p ∷ ps))) (over (table_of f) costs) (over (map (path_distance (word_distance f) 0) (p ∷ ps)) distances)
        (over (flat_map (map (λ w. w.label)) (p ∷ ps)) labels) (over (flat_map (map (λ w. w.goal)) (p ∷ ps)) goals)

    -- 10: the first short buffer
    unfoldable pub fitted : Listing
    fitted =
        cond (ltb 0 (needed_to_list (block_count f) paths (length costs) (length distances) (length labels) (length goals)))
        (left (short_buffer (needed_to_list (block_count f) paths (length costs) (length distances) (length labels) (length goals))) costs
        distances labels goals)
        (found list_of)

    -- 13: the number of paths
    unfoldable pub counted : Listing
    counted = cond (within 1 most_paths paths) fitted (left (bad_path_count paths) costs distances labels goals)

    -- 9: a length or a state, else the first bad block
    unfoldable pub framed : Listing
    framed =
        cond (frame_bad f) (left (bad_block (block_count f)) costs distances labels goals)
        (cond (ltb (first (block_bad f) (block_count f)) (block_count f))
        (left (bad_block (first (block_bad f) (block_count f))) costs distances labels goals) counted)

    -- 8
    unfoldable pub listing : Listing
    listing =
        cond (sections_bad f.sections f.k) (left (bad_section (bad_section_of f.sections f.k)) costs distances labels goals) framed

-- the same with the answer in numbers, as the function for C leaves it
pub record DecodeListLeft (m : Listing) (number : ℕ) (costs distances labels goals values : List ℕ) : Type 0 where
  pub answer_is : Numbered m.answer number values
  pub costs_are : costs ≡ m.costs
  pub distances_are : distances ≡ m.distances
  pub labels_are : labels ≡ m.labels
  pub goals_are : goals ≡ m.goals
