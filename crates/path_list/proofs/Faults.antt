-- The answers that name a fault, and what is passed on where there is none: the definition makes the same tests in the same order as the
-- code.
use Rattle.std.specs.Prelude.{Some}
use mathlib.Core.Path.{◌≡◌, sym, ◌∙◌}
use mathlib.Core.Bool.{Bool, true, false, not}
use mathlib.Core.List.{List}
use Prim.Native.Nat.{ℕ, ◌≤◌, ◌<◌}
use lib.ListN.{length}
use borrow.Author.Tests.{lt-ltb, le-ltb, not-true, not-false}
use Rattle.trellis.specs.Bounds.{most_paths}
use Rattle.trellis.specs.Lists.{first, within}
use Rattle.trellis.specs.Outcome.{bad_section, bad_block, short_buffer, bad_path_count}
use Rattle.numbers.proofs.Bounds.{within_of}
use Rattle.sections.specs.Sections.{sections_bad, bad_section_of}
use Rattle.frame.specs.Frame.{Frame, block_count, frame_bad, block_bad, frame_fault}
use Rattle.frame.proofs.Checks.{FramePassed, fault_named}
use Rattle.room.specs.Room.{needed_to_list}
use Rattle.room.specs.Inner.Fitting.{Few}
use Rattle.path_list.specs.Listing.{Listing, left, list_of, found, fitted, counted, framed, listing}

module _ (f : Frame) (paths : ℕ) (costs distances labels goals : List ℕ) where
  pub ends_section : {i : ℕ} → sections_bad f.sections f.k ≡ true → bad_section_of f.sections f.k ≡ i
      → left (bad_section i) costs distances labels goals ≡ listing f paths costs distances labels goals
  unfolding listing
  ends_section b e = simp (b, e)

  pub ends_frame : {bad : Bool} → bad ≡ frame_bad f → bad ≡ true
      → left (bad_block (block_count f)) costs distances labels goals ≡ framed f paths costs distances labels goals
  unfolding framed
  ends_frame e h = simp (sym e, h)

  pub ends_block : {bad : Bool} {b : ℕ} → bad ≡ frame_bad f → bad ≡ false
      → b ≡ first (block_bad f) (block_count f) → b < block_count f
      → left (bad_block b) costs distances labels goals ≡ framed f paths costs distances labels goals
  unfolding framed
  ends_block {b = b} e h p l = simp (sym e, h, sym p, lt-ltb b (block_count f) l)

  pub ends_fault : {bad : ℕ} → frame_fault f ≡ Some bad → left (bad_block bad) costs distances labels goals ≡ framed f paths costs distances labels goals
  unfolding framed
  ends_fault = fault_named f (λ bad. left (bad_block bad) costs distances labels goals) (counted f paths costs distances labels goals)

  pub ends_count : {w : Bool} → w ≡ within 1 most_paths paths → not w ≡ true
      → left (bad_path_count paths) costs distances labels goals ≡ counted f paths costs distances labels goals
  unfolding counted
  ends_count {w} e h = simp (sym e, not-true w h)

  abbrev needed_here : ℕ
  needed_here = needed_to_list (block_count f) paths (length costs) (length distances) (length labels) (length goals)

  pub ends_short : {n : ℕ} → n ≡ needed_here → 0 < n
      → left (short_buffer n) costs distances labels goals ≡ fitted f paths costs distances labels goals
  unfolding fitted
  ends_short {n} q m = simp (sym q, lt-ltb 0 n m)

  -- ---- where there is no fault

  module _ {m : Listing} where
    pub past_sections : sections_bad f.sections f.k ≡ false
        → m ≡ framed f paths costs distances labels goals
        → m ≡ listing f paths costs distances labels goals
    unfolding listing
    past_sections g e = e ∙ simp g

    pub past_frame : FramePassed f
        → m ≡ counted f paths costs distances labels goals
        → m ≡ framed f paths costs distances labels goals
    unfolding framed
    past_frame P e =
        e ∙ simp (
          P.frame_good,
          le-ltb (first (block_bad f) (block_count f)) (block_count f) P.blocks_good,
        )

    pub past_count : {w : Bool} → w ≡ within 1 most_paths paths → not w ≡ false
        → m ≡ fitted f paths costs distances labels goals
        → m ≡ counted f paths costs distances labels goals
    unfolding counted
    past_count {w} e h p = p ∙ simp (sym e, not-false w h)

    pub past_room : needed_here ≤ 0
        → m ≡ found f paths costs distances labels goals (list_of f paths)
        → m ≡ fitted f paths costs distances labels goals
    unfolding fitted
    past_room h e = e ∙ simp (le-ltb 0 needed_here h)

-- the number of paths is in bounds where the test says so
pub few_of : {paths : ℕ} {w : Bool} → w ≡ within 1 most_paths paths → not w ≡ false → Few paths
few_of {paths} {w} e h = let b = within_of 1 most_paths paths (sym e ∙ not-false w h) in record { some = b.0; few = b.1 }
