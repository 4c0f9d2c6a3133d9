-- Notes turned into the costs of a cost table. The costs behind a block are known, and a block adds less than `note_cycle` to them; so the
-- remainder by it that a note has tells what the block adds.
use Rattle.std.specs.Prelude.{◌≡◌, List, ℕ, ◌*◌, ◌≤◌, ◌<◌, length, get_or}
use Rattle.trellis.specs.Bounds.{most_states, costs_a_block}
use Rattle.trellis.specs.Word.{Word}
use Rattle.trellis.specs.Layout.{vertex_count_of, root_state}
use Rattle.paths.specs.Chain.{unreached}
use Rattle.paths.specs.Inner.Ranked.{label_unit, note_cycle, no_goal}
use Rattle.section_file.specs.declared.View.{View}
use Rattle.passes.specs.Inner.Chains.{Chain, NotesFrom, CostsFrom}
use Rattle.cost_table.specs.Inner.Filled.{EndsAs, held_blocks, Ready, Unrooted}
use Rattle.settled.specs.Inner.Cost.{settled_cost}

-- the costs behind a block, a place for each goal that a note can have. The note of no path has `no_goal`, and there is no path there
pub record CostsBehind (behind : List ℕ) : Type 0 where
  pub long : length behind ≡ label_unit
  pub none : get_or behind no_goal 0 ≡ unreached

-- a row of notes whose costs fit
pub record RowFits (behind row : List ℕ) : Type 0 where
  pub behind_long : length behind ≡ label_unit
  pub long : length row ≡ most_states
  pub small : (s : ℕ) → s < most_states → settled_cost behind (get_or row s 0) ≤ unreached

-- the first v roots have their costs, and the other states what they had
pub record RootsSettled (l behind old new : List ℕ) (v : ℕ) : Type 0 where
  pub long : length new ≡ most_states
  pub at : (u : ℕ) → u < v → get_or new (root_state l u) 0 ≡ settled_cost behind (get_or old (root_state l u) 0)
  pub kept : (s : ℕ) → ((u : ℕ) → u < v → root_state l u ≡ s → ⊥) → get_or new s 0 ≡ get_or old s 0

-- the first s numbers of a row are copied, and the places beyond are as they were
pub record RowCopied (row old new : List ℕ) (s : ℕ) : Type 0 where
  pub long : length new ≡ label_unit
  pub at : (u : ℕ) → u < s → get_or new u 0 ≡ get_or row u 0
  pub kept : (u : ℕ) → s ≤ u → get_or new u 0 ≡ get_or old u 0

-- the row of a block has its costs, which are copied
pub record BlockSettled (l behind old new copy : List ℕ) : Type 0 where
  pub settled : RootsSettled l behind old new (vertex_count_of l 0)
  pub copied : RowCopied new behind copy most_states

-- no word costs `note_cycle` or more
pub record Cheap (C : Chain) : Type 0 where
  pub below : (b : ℕ) → b < C.blocks → (w : Word) → C.price b w < note_cycle

-- notes of a chain of cheap words, over these sections; neither their views nor what was received play a part
pub record Settling (sections starts indices ends notes : List ℕ) : Type 0 where
  pub views : List View
  pub received : List ℕ
  pub erased : List ℕ
  pub ready : Ready (held_blocks sections starts views indices received erased)
  pub unrooted : Unrooted (held_blocks sections starts views indices received erased) 0 notes
  pub chain : Chain
  pub blocks_is : chain.blocks ≡ length indices
  pub cheap : Cheap chain
  pub ends_as : EndsAs chain ends
  pub noted : NotesFrom chain 0 notes
  pub ends_long : length ends ≡ most_states
  pub long : costs_a_block * length indices ≤ length notes

-- the table has its costs, whatever chain the notes are of, and places beyond it are as they were
pub record Settled (blocks : ℕ) (ends old new : List ℕ) : Type 0 where
  pub long : length new ≡ length old
  pub kept : (i : ℕ) → costs_a_block * blocks ≤ i → get_or new i 0 ≡ get_or old i 0
  pub costs : (C : Chain) → C.blocks ≡ blocks → Cheap C → EndsAs C ends → NotesFrom C 0 old → CostsFrom C 0 new
