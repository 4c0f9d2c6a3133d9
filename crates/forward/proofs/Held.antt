-- The blocks of a checked frame as the code holds them: K plays no part, and the section of a block is lent from its place on. So one turn
-- of the loop takes what is kept in front of a block to what is kept behind it.
use mathlib.Core.Path.{◌≡◌, sym, subst, ◌∙◌}
use mathlib.Core.List.{List}
use Prim.Native.Nat.{ℕ, ◌+◌, ◌-◌, ◌≤◌, ◌<◌}
use lib.ListN.{length, get_or, take, drop, replicate, length-replicate}
use Rattle.trellis.specs.Bounds.{most_paths, most_words}
use Rattle.trellis.specs.Layout.{vertex_count_of, roots_place}
use Rattle.section_file.specs.declared.View.{View}
use Rattle.least_rows.specs.Inner.Rows.{rows_long}
use Rattle.beginnings.specs.Inner.Entering.{Enterable}
use Rattle.cost_table.specs.Inner.Filled.{EndRow, held_blocks}
use Rattle.cost_table.proofs.Tables.{room_none, BlockAt, block_at}
use Rattle.frame.specs.Frame.{Frame, frame, block_section}
use Rattle.frame.specs.Inner.Checked.{Checked}
use Rattle.decoding.proofs.Ends.{sound_at, part_is, ready}
use Rattle.left_behind.specs.Inner.Behind.{LeftBehind}
use Rattle.forward.specs.Inner.Blocks.{Workspace, Passable, Passed}
use Rattle.forward.specs.Inner.Fronts.{Tabled, KeptAt}
use Rattle.forward.proofs.Chained.{enterable_here, passable_here, passed_here}

-- working room that nothing has been put in
pub room_start : Workspace (replicate 32 0) (replicate most_words 0) (replicate most_words 0) (replicate rows_long 0)
    (replicate most_paths 0)
room_start = record {
  room = room_none;
  even_long = length-replicate {A = ℕ} most_words 0;
  odd_long = length-replicate {A = ℕ} most_words 0;
  rows_are = length-replicate {A = ℕ} rows_long 0;
  items_long = length-replicate {A = ℕ} most_paths 0;
}

module _ {sections starts : List ℕ} {views : List View} {indices received erased : List ℕ} {start end : ℕ}
    (C : Checked sections starts views indices received erased start end) where
  abbrev f : Frame
  f = frame sections 0 indices received erased start end

  -- a block as the code takes it, i the index of its section
  pub held_at : {b i : ℕ} → b < length indices → i ≡ get_or indices b 0
      → BlockAt (held_blocks sections starts views indices received erased) b i
  held_at h e = block_at (ready C.checks) h e

  -- the section as it is lent
  abbrev lent : ℕ → List ℕ
  lent i = take (length sections - get_or starts i 0) (drop (get_or starts i 0) sections)

  -- what going through the block asks
  pub record BlockReady (b k have : ℕ) (left slots l : List ℕ) : Type 0 where
    pub enterable : Enterable l (roots_place l) (vertex_count_of l 0) slots have
    pub passable : Passable l (get_or received b 0) (get_or erased b 0) left k have slots

  module _ {costs ends left : List ℕ} {to b i k have : ℕ} {slots back : List ℕ} (D : Tabled f costs) (E : EndRow to ends) (q : to ≡ end)
      (h : b < length indices) (e : i ≡ get_or indices b 0) (L : LeftBehind costs ends (length indices) b left) (few : k ≤ most_paths)
      (K : KeptAt f k b have slots back) where
    lent_is : lent i ≡ block_section f b
    lent_is = (held_at h e).part_is ∙ part_is C.checks b

    E_end : EndRow end ends
    E_end = subst (λ x. EndRow x ends) q E

    pub block_ready : BlockReady b k have left slots (lent i)
    block_ready =
        subst (BlockReady b k have left slots) (sym lent_is)
        (record {
          enterable = enterable_here f b h D E_end L (sound_at C.checks b) few K;
          passable = passable_here f b h D E_end L (sound_at C.checks b) few K;
        })

    pub block_kept : {new_slots new_back : List ℕ} {count : ℕ}
        → Passed (lent i) (get_or received b 0) (get_or erased b 0) left b k have slots back new_slots new_back count
        → KeptAt f k (b + 1) count new_slots new_back
    block_kept {new_slots} {new_back} {count} P =
        passed_here f b h D E_end L (sound_at C.checks b) few K
        (subst (λ l. Passed l (get_or received b 0) (get_or erased b 0) left b k have slots back new_slots new_back count) lent_is P)
