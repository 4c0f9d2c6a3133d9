-- Chains of blocks: all paths as a plain list in word order, the distance of a path, the cost table, and what it means to win.
-- `words b` are the words of block b in word order, `dist b w` is the distance of the word w in block b, and `ends s` tells whether a path
-- may end in state s: none of the three is fixed here.
use Rattle.std.specs.Prelude.{◌≡◌, Bool, true, cond, ◌⊎◌, ℕ, zero, suc, ◌+◌, ◌≤◌, eqb, length}
use mathlib.Core.List.{List, [], ◌∷◌, map, flat_map}
use Rattle.trellis.specs.Lists.{◌∈◌, keep}
use Rattle.trellis.specs.Word.{Word, Before}
use Rattle.paths.specs.Choice.{Choice, best, paid_or}

-- no path, in a cost table
abbrev pub unreached : ℕ
unreached = 4294967295

-- a path may end in the end state
abbrev pub ends_in : ℕ → ℕ → Bool
ends_in end s = eqb s end

-- the words that start in state s
unfoldable pub rooted_at : ℕ → List Word → List Word
rooted_at s ws = keep (λ w. eqb w.root s) ws

-- all paths through k blocks from state s before block b to a state where a path may end: a word's goal is the next word's root
unfoldable pub chain_paths : (ℕ → List Word) → (ℕ → Bool) → ℕ → ℕ → ℕ → List (List Word)
chain_paths words ends zero b s = cond (ends s) ([] ∷ []) []
chain_paths words ends (suc k) b s = flat_map (λ w. map (λ ws. w ∷ ws) (chain_paths words ends k (suc b) w.goal)) (rooted_at s (words b))

-- the distance of a path whose first word is that of block b
unfoldable pub path_distance : (ℕ → Word → ℕ) → ℕ → List Word → ℕ
path_distance dist b [] = 0
path_distance dist b (w ∷ ws) = dist b w + path_distance dist (suc b) ws

module _ (words : ℕ → List Word) (ends : ℕ → Bool) (dist : ℕ → Word → ℕ) where
  -- the first path of least distance
  unfoldable pub best_path : ℕ → ℕ → ℕ → Choice (List Word)
  best_path k b s = best (path_distance dist b) (chain_paths words ends k b s)

  -- the least distance, `unreached` where there is no path
  unfoldable pub cost_table : ℕ → ℕ → ℕ → ℕ
  cost_table k b s = paid_or unreached (best_path k b s)

-- ---- what a path is, word by word: p goes from state s before block b to a state where a path may end

abbrev pub Linked : (ℕ → List Word) → (ℕ → Bool) → ℕ → ℕ → List Word → Type 0
Linked words ends b s [] = ends s ≡ true
Linked words ends b s (w ∷ ws) = (w ∈ words b) × (w.root ≡ s) × Linked words ends (suc b) w.goal ws

-- so it is a path of k words
pub record IsChainPath (words : ℕ → List Word) (ends : ℕ → Bool) (k b s : ℕ) (p : List Word) : Type 0 where
  pub long : length p ≡ k
  pub linked : Linked words ends b s p

-- ---- order: words compared block by block, from the first block on

abbrev pub ChainBefore : List Word → List Word → Type 0
ChainBefore [] [] = ⊥
ChainBefore [] (w ∷ ws) = Unit {0}
ChainBefore (v ∷ vs) [] = ⊥
ChainBefore (v ∷ vs) (w ∷ ws) = Before v w ⊎ ((v ≡ w) × ChainBefore vs ws)

-- p is one of the paths, none of them costs less, and each other that costs no more comes after it
pub record Winner (cost : List Word → ℕ) (ps : List (List Word)) (p : List Word) : Type 0 where
  pub listed : p ∈ ps
  pub shortest : (q : List Word) → q ∈ ps → cost p ≤ cost q
  pub earliest : (q : List Word) → q ∈ ps → cost q ≤ cost p → (q ≡ p) ⊎ ChainBefore p q
