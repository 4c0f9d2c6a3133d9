-- The blocks of a frame as the code holds them, and what passing them backward leaves: a note for each state before each block, of whatever
-- chain they are, wherever its paths may end.
use Rattle.std.specs.Prelude.{◌≡◌, List, ℕ, suc, ◌+◌, ◌*◌, ◌≤◌, ◌<◌, length, get_or, drop}
use Rattle.trellis.specs.Bounds.{most_states, most_words, most_sections, most_blocks, costs_a_block}
use Rattle.trellis.specs.Word.{Word}
use Rattle.trellis.specs.Layout.{n_of, vertex_count_of, root_state, section_words}
use Rattle.trellis.specs.Comparing.{label_distance}
use Rattle.paths.specs.Chain.{unreached, ends_in}
use Rattle.paths.specs.Inner.Chains.{at_end}
use Rattle.section_file.specs.Inner.View.{Seen}
use Rattle.section_file.specs.declared.View.{View}
use Rattle.paths.specs.Inner.Ranked.{PriceRoom}
use Rattle.sections.specs.Inner.Found.{no_view}
use Rattle.block.specs.Inner.Prices.{Prices}
use Rattle.passes.specs.Inner.Blocks.{BlockPassed}
use Rattle.passes.specs.Inner.Chains.{Chain, LeftAt, NotesFrom}

pub record HeldBlocks : Type 0 where
  pub sections : List ℕ
  pub starts : List ℕ
  pub views : List View
  pub indices : List ℕ
  pub received : List ℕ
  pub erased : List ℕ

abbrev pub held_blocks : List ℕ → List ℕ → List View → List ℕ → List ℕ → List ℕ → HeldBlocks
held_blocks sections starts views indices received erased =
    record { sections = sections; starts = starts; views = views; indices = indices; received = received; erased = erased }

-- working room: what is left to pay, the prices, the two rows
pub record Working (left prices even odd : List ℕ) : Type 0 where
  pub left_long : length left ≡ most_states
  pub room : PriceRoom prices
  pub even_long : length even ≡ most_words
  pub odd_long : length odd ≡ most_words

-- one block is passed, its symbols costing what the received label and the mask say
pub record BlockFilled (l : List ℕ) (received mask : ℕ) (left new notes : List ℕ) : Type 0 where
  pub prices : List ℕ
  pub priced : Prices (n_of l) received mask prices
  pub passed : BlockPassed l prices left new notes

-- nothing is left to pay in a state where a path may end, and there is no path from any other
pub record EndsAs (C : Chain) (left : List ℕ) : Type 0 where
  pub at : (s : ℕ) → s < most_states → get_or left s 0 ≡ at_end unreached C.ends s

-- the same where a path ends in one state
pub record EndRow (end : ℕ) (left : List ℕ) : Type 0 where
  pub long : length left ≡ most_states
  pub at : (s : ℕ) → s < most_states → get_or left s 0 ≡ at_end unreached (ends_in end) s

module _ (H : HeldBlocks) where
  -- the section of block b, with what follows it, and its view
  abbrev pub block_part : ℕ → List ℕ
  block_part b = drop (get_or H.starts (get_or H.indices b 0) 0) H.sections

  abbrev pub view_at : ℕ → View
  view_at b = get_or H.views (get_or H.indices b 0) no_view

  pub record Ready : Type 0 where
    pub many : length H.indices ≤ most_blocks
    pub received_long : length H.received ≡ length H.indices
    pub erased_long : length H.erased ≡ length H.indices
    pub starts_long : length H.starts ≡ suc most_sections
    pub views_long : length H.views ≡ most_sections
    pub index_below : (b : ℕ) → b < length H.indices → get_or H.indices b 0 < most_sections
    pub inside : (b : ℕ) → b < length H.indices → get_or H.starts (get_or H.indices b 0) 0 ≤ length H.sections
    pub seen : (b : ℕ) → b < length H.indices → Seen (block_part b) (view_at b)

  -- the chain that these blocks are
  pub record ChainOf (C : Chain) : Type 0 where
    pub blocks_is : C.blocks ≡ length H.indices
    pub words_are : (b : ℕ) → b < length H.indices → C.words b ≡ section_words (block_part b)
    pub price_is : (b : ℕ) → b < length H.indices → (w : Word)
        → C.price b w ≡ label_distance (n_of (block_part b)) (get_or H.received b 0) (get_or H.erased b 0) w.label

  -- from block b on, a state that is no root of its block has the note of no path
  pub record Unrooted (b : ℕ) (notes : List ℕ) : Type 0 where
    pub at : (c s : ℕ) → b ≤ c → c < length H.indices → s < most_states
        → ((u : ℕ) → u < vertex_count_of (block_part c) 0 → root_state (block_part c) u ≡ s → ⊥)
        → get_or notes (costs_a_block * c + s) 0 ≡ unreached

  -- the notes are there, and places beyond them are as they were; `left` has what is left to pay behind the last block, and `new` before
  -- the first
  pub record Filled (left new old notes : List ℕ) : Type 0 where
    pub long : length notes ≡ length old
    pub new_long : length new ≡ most_states
    pub kept : (i : ℕ) → costs_a_block * length H.indices ≤ i → get_or notes i 0 ≡ get_or old i 0
    pub unrooted : Unrooted 0 notes
    pub noted : (C : Chain) → ChainOf C → EndsAs C left → NotesFrom C 0 notes
    pub left_is : (C : Chain) → ChainOf C → EndsAs C left → LeftAt C 0 new
