-- A chain of blocks, one behind another: what passing them backward leaves, and what following the notes forward writes. Which words a
-- block has, what they cost and where a path may end are the chain's, and none of them is fixed here.
use Rattle.std.specs.Prelude.{◌≡◌, Bool, ◌⊎◌, List, ◌∷◌, ℕ, suc, ◌+◌, ◌-◌, ◌*◌, ◌/◌, ◌%◌, ◌≤◌, ◌<◌, length, get_or}
use Rattle.trellis.specs.Bounds.{most_states, costs_a_block}
use Rattle.trellis.specs.Word.{Word, word_at}
use Rattle.paths.specs.Chain.{unreached}
use Rattle.paths.specs.Inner.Chains.{chain_least, chain_trace}
use Rattle.paths.specs.Inner.Ranked.{distance_unit, note_cycle, note_goal, note_word}

pub record Chain : Type 0 where
  pub words : ℕ → List Word
  pub ends : ℕ → Bool
  pub price : ℕ → Word → ℕ
  pub blocks : ℕ

module _ (C : Chain) where
  -- the least cost from state s before block b to a state where a path may end
  unfoldable pub least_from : ℕ → ℕ → ℕ
  least_from b s = chain_least C.words C.ends C.price unreached (C.blocks - b) b s

  -- the first path of least cost from there
  unfoldable pub path_from : ℕ → ℕ → List Word
  path_from b s = chain_trace C.words C.ends C.price unreached (C.blocks - b) b s

  -- the least costs from the states before block b
  pub record LeftAt (b : ℕ) (left : List ℕ) : Type 0 where
    pub at : (s : ℕ) → s < most_states → get_or left s 0 ≡ least_from b s

  -- what a note tells of state s before block b. If it is not that of no path, it names a word: what this costs and what is left to pay
  -- behind it are the least cost, of which the note has the remainder. Where there is a path, it begins with the word.
  pub record NoteAt (b s note : ℕ) : Type 0 where
    pub small : note ≤ unreached
    pub none : unreached ≤ note → least_from b s ≡ unreached
    pub goal_lt : note < unreached → note_goal note < most_states
    pub remainder : note < unreached → note / distance_unit ≡ least_from b s % note_cycle
    pub adds_up : note < unreached → least_from b s ≡ C.price b (note_word s note) + least_from (suc b) (note_goal note)
    pub path : least_from b s < unreached → path_from b s ≡ note_word s note ∷ path_from (suc b) (note_goal note)

  -- the notes from block b on
  pub record NotesFrom (b : ℕ) (notes : List ℕ) : Type 0 where
    pub at : (c s : ℕ) → b ≤ c → c < C.blocks → s < most_states → NoteAt c s (get_or notes (costs_a_block * c + s) 0)

  -- the cost table from block b on
  pub record CostsFrom (b : ℕ) (costs : List ℕ) : Type 0 where
    pub at : (c s : ℕ) → b ≤ c → c < C.blocks → s < most_states → get_or costs (costs_a_block * c + s) 0 ≡ least_from c s

  -- the labels and goals of the first b words of the path from state `start` are written, and places beyond them are as they were
  pub record Written (start b : ℕ) (labels new_labels goals new_goals : List ℕ) : Type 0 where
    pub label_at : (i : ℕ) → i < b → get_or new_labels i 0 ≡ (word_at (path_from 0 start) i).label
    pub goal_at : (i : ℕ) → i < b → get_or new_goals i 0 ≡ (word_at (path_from 0 start) i).goal
    pub labels_kept : (i : ℕ) → b ≤ i → get_or new_labels i 0 ≡ get_or labels i 0
    pub goals_kept : (i : ℕ) → b ≤ i → get_or new_goals i 0 ≡ get_or goals i 0

-- a block's row is written from one place on, and the other places are as they were
pub record RowWritten (first : ℕ) (row old new : List ℕ) : Type 0 where
  pub long : length new ≡ length old
  pub at : (s : ℕ) → s < costs_a_block → get_or new (first + s) 0 ≡ get_or row s 0
  pub kept : (i : ℕ) → (i < first) ⊎ (first + costs_a_block ≤ i) → get_or new i 0 ≡ get_or old i 0

-- the notes of a chain that has a path from state `start`, and room for its words
pub record Followed (blocks start : ℕ) (notes labels goals : List ℕ) : Type 0 where
  pub chain : Chain
  pub blocks_is : chain.blocks ≡ blocks
  pub noted : NotesFrom chain 0 notes
  pub start_lt : start < most_states
  pub some : least_from chain 0 start < unreached
  pub long : costs_a_block * blocks ≤ length notes
  pub few : blocks ≤ 256
  pub labels_long : blocks ≤ length labels
  pub goals_long : blocks ≤ length goals

-- whatever chain the notes are of, the path's labels and goals are written
pub record FollowedTo (blocks start : ℕ) (notes labels new_labels goals new_goals : List ℕ) : Type 0 where
  pub labels_long : length new_labels ≡ length labels
  pub goals_long : length new_goals ≡ length goals
  pub written : (C : Chain) → C.blocks ≡ blocks → NotesFrom C 0 notes → least_from C 0 start < unreached
      → Written C start blocks labels new_labels goals new_goals
