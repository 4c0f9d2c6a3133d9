-- The answers that name a fault, and what is passed on where there is none: the definition
-- makes the same tests in the same order as the code.
use Rattle.std.specs.Prelude.{Some}
use mathlib.Core.Path.{◌≡◌, sym, ◌∙◌}
use mathlib.Core.Bool.{Bool, true, false}
use mathlib.Core.List.{List}
use Prim.Native.Nat.{ℕ, ◌≤◌, ◌<◌}
use lib.ListN.{length}
use borrow.Author.Tests.{lt-ltb, le-ltb}
use Rattle.trellis.specs.Lists.{first}
use Rattle.trellis.specs.Outcome.{bad_section, bad_block, short_buffer}
use Rattle.sections.specs.Sections.{sections_bad, bad_section_of}
use Rattle.frame.specs.Frame.{Frame, block_count, frame_bad, block_bad, frame_fault}
use Rattle.frame.proofs.Checks.{FramePassed, fault_named}
use Rattle.room.specs.Room.{needed_to_decode}
use Rattle.decoding.specs.Decoding.{Decoding, left, best_of, found, fitted, framed, decoding}

module _ (f : Frame) (costs labels goals masks : List ℕ) where
  pub ends_section : {i : ℕ} → sections_bad f.sections f.k ≡ true → bad_section_of f.sections f.k ≡ i
      → left (bad_section i) costs labels goals masks ≡ decoding f costs labels goals masks
  unfolding decoding
  ends_section b e = simp (b, e)

  pub ends_frame : {bad : Bool} → bad ≡ frame_bad f → bad ≡ true
      → left (bad_block (block_count f)) costs labels goals masks ≡ framed f costs labels goals masks
  unfolding framed
  ends_frame e h = simp (sym e, h)

  pub ends_block : {bad : Bool} {b : ℕ} → bad ≡ frame_bad f → bad ≡ false
      → b ≡ first (block_bad f) (block_count f) → b < block_count f
      → left (bad_block b) costs labels goals masks ≡ framed f costs labels goals masks
  unfolding framed
  ends_block {b = b} e h p l = simp (sym e, h, sym p, lt-ltb b (block_count f) l)

  pub ends_fault : {bad : ℕ} → frame_fault f ≡ Some bad → left (bad_block bad) costs labels goals masks ≡ framed f costs labels goals masks
  unfolding framed
  ends_fault = fault_named f (λ bad. left (bad_block bad) costs labels goals masks) (fitted f costs labels goals masks)

  pub ends_short : {n : ℕ} → n ≡ needed_to_decode (block_count f) (length costs) (length labels) (length goals) (length masks) → 0 < n
      → left (short_buffer n) costs labels goals masks ≡ fitted f costs labels goals masks
  unfolding fitted
  ends_short {n} q m = simp (sym q, lt-ltb 0 n m)

  -- ---- where there is no fault

  module _ {m : Decoding} where
    pub past_sections : sections_bad f.sections f.k ≡ false
        → m ≡ framed f costs labels goals masks
        → m ≡ decoding f costs labels goals masks
    unfolding decoding
    past_sections g e = e ∙ simp g

    pub past_frame : FramePassed f
        → m ≡ fitted f costs labels goals masks
        → m ≡ framed f costs labels goals masks
    unfolding framed
    past_frame P e =
        e ∙ simp (
          P.frame_good,
          le-ltb (first (block_bad f) (block_count f)) (block_count f) P.blocks_good,
        )

    pub past_room : needed_to_decode (block_count f) (length costs) (length labels) (length goals) (length masks) ≤ 0
        → m ≡ found f costs labels goals masks (best_of f)
        → m ≡ fitted f costs labels goals masks
    unfolding fitted
    past_room h e = e ∙ simp (le-ltb 0 (needed_to_decode (block_count f) (length costs) (length labels) (length goals) (length masks)) h)
