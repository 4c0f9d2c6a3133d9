-- What the checks of the sections and of the frame leave where they are passed.
use Rattle.std.specs.Prelude.{◌≡◌, Some, None, Result, MatchResult, List, ℕ, ◌^◌, ◌≤◌, ◌<◌, length, get_or}
use Rattle.trellis.specs.Bounds.{most_states, most_symbols, most_sections, most_blocks}
use Rattle.trellis.specs.Layout.{n_of}
use Rattle.section_file.specs.declared.View.{View}
use Rattle.sections.specs.Inner.Found.{no_view, AllFound}
use Rattle.frame.specs.Frame.{Frame, frame, block_count, block_section, frame_fault}

-- views of k sections at most, each of few symbols
pub record Views (views : List View) (k : ℕ) : Type 0 where
  pub few : k ≤ most_sections
  pub long : length views ≡ most_sections
  pub short : (j : ℕ) → j < k → (get_or views j no_view).n ≤ most_symbols

-- whether there is a fault 9, and the number that it returns
abbrev pub Tested : {A : Type 0} → Frame → Result A ℕ → Type 0
Tested f tested = MatchResult tested (λ fine. frame_fault f ≡ None) (λ bad. frame_fault f ≡ Some bad)

-- a frame that is not bad
pub record Framed (f : Frame) : Type 0 where
  pub some : 1 ≤ block_count f
  pub many : block_count f ≤ most_blocks
  pub received_long : length f.received ≡ block_count f
  pub erased_long : length f.erased ≡ block_count f
  pub start_below : f.start < most_states
  pub end_below : f.end < most_states

-- the sections are found, and neither the frame nor a block is bad
pub record FrameChecked (f : Frame) (starts : List ℕ) (views : List View) : Type 0 where
  pub sections_found : AllFound f.sections starts views f.k
  pub framed : Framed f
  pub index_below : (b : ℕ) → b < block_count f → get_or f.indices b 0 < f.k
  pub received_short : (b : ℕ) → b < block_count f → get_or f.received b 0 < 4 ^ n_of (block_section f b)

-- the same, where K plays no part any more
pub record Checked (sections starts : List ℕ) (views : List View) (indices received erased : List ℕ) (start end : ℕ) : Type 0 where
  pub k : ℕ
  pub checks : FrameChecked (frame sections k indices received erased start end) starts views
