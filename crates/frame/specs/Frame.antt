-- The frame: K sections one behind another, for each block a section index, a received label and an erasure mask, and a start and an end
-- state. Its blocks' words and their distances, and document 01's fault 9. Everything here computes.
use Rattle.std.specs.Prelude.{Bool, cond, not, ◌&&◌, ◌||◌, List, ℕ, ltb, eqb, length, get_or, Option, Some}
use Rattle.trellis.specs.Bounds.{most_states, most_blocks}
use Rattle.trellis.specs.Word.{Word}
use Rattle.trellis.specs.Layout.{q_of, n_of, section_words}
use Rattle.trellis.specs.Lists.{first, found_below, within}
use Rattle.trellis.specs.Comparing.{erasure_cost, distance_by, differing}
use Rattle.received.specs.Received.{fits_block}
use Rattle.sections.specs.Sections.{section_at}

pub record Frame : Type 0 where
  pub sections : List ℕ
  pub k : ℕ
  pub indices : List ℕ
  pub received : List ℕ
  pub erased : List ℕ
  pub start : ℕ
  pub end : ℕ

abbrev pub frame : List ℕ → ℕ → List ℕ → List ℕ → List ℕ → ℕ → ℕ → Frame
frame sections k indices received erased start end =
    record { sections = sections; k = k; indices = indices; received = received; erased = erased; start = start; end = end }

module _ (f : Frame) where
  -- "B is the length of the list of section indices"
  abbrev pub block_count : ℕ
  block_count = length f.indices

  -- B is outside its bounds, lengths are unequal, or a state is not below the bound
  unfoldable pub frame_bad : Bool
  frame_bad =
      not (within 1 most_blocks block_count)
      || (not (eqb (length f.received) block_count)
      || (not (eqb (length f.erased) block_count)
      || (not (ltb f.start most_states) || not (ltb f.end most_states))))

  -- the section of block b, with what follows it
  abbrev pub block_section : ℕ → List ℕ
  block_section b = section_at f.sections (get_or f.indices b 0)

  unfoldable pub block_words : ℕ → List Word
  block_words b = section_words (block_section b)

  -- the distance of a word in block b, if an erased symbol costs c
  unfoldable pub word_distance_by : ℕ → ℕ → Word → ℕ
  word_distance_by c b w = distance_by (n_of (block_section b)) (get_or f.received b 0) (get_or f.erased b 0) c w.label

  -- the distance of a word in block b: an erased symbol costs nothing
  abbrev pub word_distance : ℕ → Word → ℕ
  word_distance = word_distance_by erasure_cost

  -- the mask of a word in block b: its unerased symbols that differ from the received ones
  unfoldable pub word_mask : ℕ → Word → ℕ
  word_mask b w = differing (n_of (block_section b)) (get_or f.received b 0) (get_or f.erased b 0) w.label

  -- the index of block b is not below K, or what was received does not fit its section: a bad digit, or a mask bit at or above 2^n
  unfoldable pub block_bad : ℕ → Bool
  block_bad b =
      not (ltb (get_or f.indices b 0) f.k
      && fits_block (n_of (block_section b)) (get_or f.received b 0) (get_or f.erased b 0) (q_of (block_section b)))

  -- fault 9, by the number that it returns: the number of blocks for a length or a state, else the first bad block
  unfoldable pub frame_fault : Option ℕ
  frame_fault = cond frame_bad (Some block_count) (found_below block_count (first block_bad block_count))
