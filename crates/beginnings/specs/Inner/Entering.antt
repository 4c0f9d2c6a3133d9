-- Slots on their way into a section and out of it, over raw lists and numbers. `s` has the section at its front, and the states of its
-- roots or goals from a place on.
use Rattle.std.specs.Prelude.{◌≡◌, MatchOption, Option, List, ℕ, ◌+◌, ◌*◌, ◌<◌, length, get_or}
use Rattle.trellis.specs.Bounds.{most_paths, most_states}
use Rattle.dearest.specs.Inner.Items.{cost_in, code_in, item_of}
use Rattle.codes.specs.Inner.Codes.{code, code_root, code_vertex, code_label}
use Rattle.beginnings.specs.Inner.Trails.{back_long}

-- the state of a vertex
abbrev pub state_from : List ℕ → ℕ → ℕ → ℕ
state_from s places v = get_or s (places + v) 0

-- some root has this state
pub record HasRoot (s : List ℕ) (roots count state : ℕ) : Type 0 where
  pub root : ℕ
  pub below : root < count
  pub is : state_from s roots root ≡ state

-- r is a root that has this state
pub record RootOf (s : List ℕ) (roots count state r : ℕ) : Type 0 where
  pub below : r < count
  pub is : state_from s roots r ≡ state

-- a root that has this state was found, or no root has it
abbrev pub RootFound : List ℕ → ℕ → ℕ → ℕ → Option ℕ → Type 0
RootFound s roots count state found = MatchOption found (HasRoot s roots count state → ⊥) (RootOf s roots count state)

-- slot j becomes this item
pub record EnteredOne (s : List ℕ) (roots count j x item : ℕ) : Type 0 where
  pub root : ℕ
  pub below : root < count
  pub state : state_from s roots root ≡ code_vertex (code_in x)
  pub is : item ≡ item_of (cost_in x) (code j root 0)

-- the state of each slot has a root
pub record Enterable (s : List ℕ) (roots count : ℕ) (slots : List ℕ) (have : ℕ) : Type 0 where
  pub rooted : (j : ℕ) → j < have → HasRoot s roots count (code_vertex (code_in (get_or slots j 0)))

-- the first j slots have entered
pub record AllEntered (s : List ℕ) (roots count : ℕ) (slots : List ℕ) (items : List ℕ) (j : ℕ) : Type 0 where
  pub long : length items ≡ most_paths
  pub at : (i : ℕ) → i < j → EnteredOne s roots count i (get_or slots i 0) (get_or items i 0)

-- each item that leaves has come of a slot, and its goal has a state
pub record Leavable (s : List ℕ) (goals : ℕ) (items : List ℕ) (count : ℕ) : Type 0 where
  pub inside : (j : ℕ) → j < count → goals + code_vertex (code_in (get_or items j 0)) < length s
  pub of : (j : ℕ) → j < count → code_root (code_in (get_or items j 0)) < most_paths
  pub small : (j : ℕ) → j < count → state_from s goals (code_vertex (code_in (get_or items j 0))) < most_states

-- the back pointer of an item that leaves a section: its goal's state in place of the vertex
abbrev pub left_code : (ℕ → ℕ) → ℕ → ℕ
left_code goal_of x = code (code_root (code_in x)) (goal_of (code_vertex (code_in x))) (code_label (code_in x))

-- the first count items have left the section of block b as slots, and are noted; `old` and `new` are the back pointers
pub record Left (goal_of : ℕ → ℕ) (items : List ℕ) (b count : ℕ) (slots old new : List ℕ) : Type 0 where
  pub long : length slots ≡ most_paths
  pub long_back : length new ≡ back_long
  pub at : (j : ℕ) → j < count
      → get_or slots j 0 ≡ item_of (cost_in (get_or items j 0)) (code j (goal_of (code_vertex (code_in (get_or items j 0)))) 0)
  pub noted : (j : ℕ) → j < count → get_or new (most_paths * b + j) 0 ≡ left_code goal_of (get_or items j 0)
  pub other : (i : ℕ) → ((j : ℕ) → j < count → most_paths * b + j ≡ i → ⊥) → get_or new i 0 ≡ get_or old i 0
