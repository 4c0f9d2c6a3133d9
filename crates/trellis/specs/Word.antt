-- Words and tables of words; words cut at a depth; rectangular tables.
use Rattle.std.specs.Prelude.{◌≡◌, Bool, List, ℕ, ◌^◌, ◌<◌, length, get_or}
use Rattle.trellis.specs.Lists.{◌∈◌, Lower, alike}
use Rattle.trellis.specs.Label.{front, back, spliced}

-- document 01's word: a start state, a packed label, an end state
pub record Word : Type 0 where
  pub root : ℕ
  pub label : ℕ
  pub goal : ℕ

abbrev pub word : ℕ → ℕ → ℕ → Word
word r l g = record { root = r; label = l; goal = g }

-- word i of a table, counted from 0
abbrev pub word_at : List Word → ℕ → Word
word_at table i = get_or table i (word 0 0 0)

-- words are ordered by root, then label, then goal
abbrev pub Before : Word → Word → Type 0
Before v w = Lower v.root v.label v.goal w.root w.label w.goal

abbrev pub same_word : Word → Word → Bool
same_word v w = alike v.root v.label v.goal w.root w.label w.goal

-- a list of words of n symbols that ascend strictly
pub record Table (n : ℕ) (table : List Word) : Type 0 where
  pub some : 0 < n
  pub fits : (w : Word) → w ∈ table → w.label < 4 ^ n
  pub ascends : (i j : ℕ) → i < j → j < length table → Before (word_at table i) (word_at table j)

-- ---- cut at depth t, for words of n symbols

-- document 01's beginning: the root and the first t symbols
pub record Beginning : Type 0 where
  pub root : ℕ
  pub symbols : ℕ

-- document 01's ending: the other symbols and the goal
pub record Ending : Type 0 where
  pub symbols : ℕ
  pub goal : ℕ

abbrev pub beginning : ℕ → ℕ → Word → Beginning
beginning n t w = record { root = w.root; symbols = front n t w.label }

abbrev pub ending : ℕ → ℕ → Word → Ending
ending n t w = record { symbols = back n t w.label; goal = w.goal }

-- the beginning of v followed by the ending of w
abbrev pub joined : ℕ → ℕ → Word → Word → Word
joined n t v w = word v.root (spliced n t v.label w.label) w.goal

-- whenever (a,c), (a,d), (b,c) are words, so is (b,d)
abbrev pub RectangularAt : ℕ → ℕ → List Word → Type 0
RectangularAt n t table =
    (ac ad bc : Word) → ac ∈ table → ad ∈ table → bc ∈ table
    → beginning n t ac ≡ beginning n t ad → ending n t ac ≡ ending n t bc → joined n t bc ad ∈ table

-- document 01's rectangular: so at each inner depth, 1 to n - 1
abbrev pub Rectangular : ℕ → List Word → Type 0
Rectangular n table = (t : ℕ) → 0 < t → t < n → RectangularAt n t table
