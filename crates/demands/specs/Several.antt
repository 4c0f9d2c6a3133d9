-- What listing the best paths of a chain comes to, for all arguments, after document 02's request 6: "List the k best paths of a chain, k
-- from 1 to 16, by distance and then word order. Where fewer exist, list all; where none does, that is 11. The first is what decoding
-- gives, and a list for a smaller k is the start of a longer one."
use Rattle.std.specs.Prelude.{◌≡◌, ◌⊎◌, List, [], ◌∷◌, ℕ, suc, ◌+◌, ◌*◌, ◌≤◌, ◌<◌, min, length, get_or, take}
use Rattle.trellis.specs.Lists.{◌∈◌}
use Rattle.trellis.specs.Word.{Word, word_at}
use Rattle.trellis.specs.Outcome.{success, no_path}
use Rattle.paths.specs.Choice.{Choice, none, some}
use Rattle.paths.specs.Chain.{ChainBefore}
use Rattle.frame.specs.Frame.{Frame, block_count}
use Rattle.decoding.specs.Decoding.{best_of}
use Rattle.path_list.specs.Listing.{Listing, list_of}
use Rattle.demands.specs.Decoded.{IsFramePath, frame_paths, frame_distance, Tabled}

module _ (f : Frame) where
  -- p is shorter than q, or as short and before it in word order
  abbrev pub Sooner : List Word → List Word → Type 0
  Sooner p q = (frame_distance f p < frame_distance f q) ⊎ ((frame_distance f p ≡ frame_distance f q) × ChainBefore p q)

  -- the first path of a list, with its distance
  abbrev pub head_of : List (List Word) → Choice (List Word)
  head_of [] = none
  head_of (p ∷ ps) = some (frame_distance f p) p

  -- the list for so many paths: paths of the frame, as many as are asked for or all, each sooner than those behind it, so that none is
  -- listed twice; and every path that is not listed comes after every one that is
  pub record Best (paths : ℕ) : Type 0 where
    pub right : (p : List Word) → p ∈ list_of f paths → IsFramePath f p
    pub many : length (list_of f paths) ≡ min paths (length (frame_paths f))
    pub sooner : (i j : ℕ) → i < j → j < length (list_of f paths) → Sooner (get_or (list_of f paths) i []) (get_or (list_of f paths) j [])
    pub apart : (i j : ℕ) → i < j → j < length (list_of f paths) → get_or (list_of f paths) i [] ≡ get_or (list_of f paths) j [] → ⊥
    pub others : (p : List Word) → IsFramePath f p → (p ∈ list_of f paths → ⊥) → (q : List Word) → q ∈ list_of f paths → Sooner q p

  -- "The first is what decoding gives"
  abbrev pub FirstDecoded : Type 0
  FirstDecoded = (paths : ℕ) → head_of (list_of f (suc paths)) ≡ best_of f

  -- "a list for a smaller k is the start of a longer one"
  abbrev pub StartOfLonger : Type 0
  StartOfLonger = (fewer paths : ℕ) → fewer ≤ paths → list_of f fewer ≡ take fewer (list_of f paths)

  -- no list of words is a path
  pub record NoneListed (r : Listing) : Type 0 where
    pub none : (p : List Word) → IsFramePath f p → ⊥
    pub table : Tabled f r.costs

  -- the distances, labels and goals are those of the listed paths, path after path
  pub record Several (paths count : ℕ) (r : Listing) : Type 0 where
    pub best : Best paths
    pub count_is : count ≡ length (list_of f paths)
    pub distance_at : (q : ℕ) → q < count → get_or r.distances q 0 ≡ frame_distance f (get_or (list_of f paths) q [])
    pub label_at : (q b : ℕ) → q < count → b < block_count f
        → get_or r.labels (q * block_count f + b) 0 ≡ (word_at (get_or (list_of f paths) q []) b).label
    pub goal_at : (q b : ℕ) → q < count → b < block_count f
        → get_or r.goals (q * block_count f + b) 0 ≡ (word_at (get_or (list_of f paths) q []) b).goal
    pub table : Tabled f r.costs

  -- r is what listing so many paths leaves
  pub record ListMeaning (paths : ℕ) (r : Listing) : Type 0 where
    pub none : r.answer ≡ no_path → NoneListed r
    pub several : (count : ℕ) → r.answer ≡ success count → Several paths count r
    pub first_decoded : FirstDecoded
    pub start_of_longer : StartOfLonger
