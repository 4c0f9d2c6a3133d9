-- The matching of vertices as it is followed step by step. For each vertex of a depth an array holds one more than its partner, the vertex
-- that it is matched with, and 0 where none is known yet.
use Rattle.std.specs.Prelude.{◌≡◌, Bool, true, false, List, ℕ, ◌+◌, ◌-◌, ◌*◌, ◌≤◌, ◌<◌, length, get_or}
use Rattle.trellis.specs.Bounds.{most_words, most_q}
use Rattle.trellis.specs.Lists.{◌∈◌}
use Rattle.trellis.specs.Own.{Edge, edge}
use Rattle.trellis.specs.Layout.{n_of, vertex_count_of, pairs_place}
use Rattle.section_file.specs.Inner.View.{Seen}
use Rattle.section_file.specs.declared.View.{View}
use Rattle.matching.specs.Matching.{Carrying}

-- the place of a vertex and a symbol
abbrev pub slot : ℕ → ℕ → ℕ
slot v a = most_q * v + a

abbrev pub partner : List ℕ → ℕ → ℕ
partner matched v = get_or matched v 0 - 1

-- ---- the edges of a step by where they start and their symbol

-- no two edges share these and differ in where they end
pub record Single (e : ℕ → Edge) (count : ℕ) : Type 0 where
  pub one : (j k : ℕ) → j < count → k < count → (e j).from ≡ (e k).from → (e j).symbol ≡ (e k).symbol → (e j).to ≡ (e k).to

-- an edge below count that starts at v with symbol a and ends at y
pub record Ending (e : ℕ → Edge) (count v a y : ℕ) : Type 0 where
  pub at : ℕ
  pub below : at < count
  pub is : e at ≡ edge v a y

-- for each vertex and symbol one more than the vertex where their edge ends, or 0 where there is none
pub record Leads (e : ℕ → Edge) (count : ℕ) (ends : List ℕ) : Type 0 where
  pub long : length ends ≡ most_q * most_words
  pub known : (k : ℕ) → k < count → get_or ends (slot (e k).from (e k).symbol) 0 ≡ (e k).to + 1
  pub only : (v a : ℕ) → v < most_words → a < most_q → 0 < get_or ends (slot v a) 0 → Ending e count v a (get_or ends (slot v a) 0 - 1)

-- ---- one step carried

-- where the edge ends that leaves the partner of e's vertex by e's symbol, one more, or 0
abbrev pub end_for : List ℕ → List ℕ → Edge → ℕ
end_for ends matched e = get_or ends (slot (partner matched e.from) e.symbol) 0

-- an edge below count with nowhere to go, or two that would give one vertex two partners
pub data Stuck (e : ℕ → Edge) (count : ℕ) (ends matched : List ℕ) : Type 0 where
  missing : (k : ℕ) → k < count → end_for ends matched (e k) ≡ 0 → Stuck e count ends matched
  clashing : (j k : ℕ) → j < count → k < count → (e j).to ≡ (e k).to → (end_for ends matched (e j) ≡ end_for ends matched (e k) → ⊥)
      → Stuck e count ends matched

-- the array has a partner for each vertex that count edges leave
pub record Partners (e : ℕ → Edge) (count : ℕ) (matched : List ℕ) : Type 0 where
  pub long : length matched ≡ most_words
  pub some : (k : ℕ) → k < count → 0 < get_or matched (e k).from 0
  pub small : (k : ℕ) → k < count → get_or matched (e k).from 0 ≤ most_words

-- count edges taken from the vertices of the old array to those of the new one
pub record StepCarried (e : ℕ → Edge) (count : ℕ) (ends old new : List ℕ) (r : Bool) : Type 0 where
  pub long : length new ≡ most_words
  pub yes : r ≡ true → (k : ℕ) → k < count → (0 < end_for ends old (e k)) × (get_or new (e k).to 0 ≡ end_for ends old (e k))
  pub no : r ≡ false → Stuck e count ends old

-- the same between the edges es of the one section and ds of the other
pub record StepMatched (es ds : List Edge) (old new : List ℕ) (r : Bool) : Type 0 where
  pub long : length new ≡ most_words
  pub some : r ≡ true → (x a y : ℕ) → edge x a y ∈ es → 0 < get_or new y 0
  pub edges : r ≡ true → (x a y : ℕ) → edge x a y ∈ es → edge (partner old x) a (partner new y) ∈ ds
  pub always : (g : ℕ → ℕ) → ((x a y : ℕ) → edge x a y ∈ es → edge (partner old x) a (g y) ∈ ds) → r ≡ true

-- and of the last step, whose edges keep their ends
pub record LastMatched (es ds : List Edge) (old : List ℕ) (r : Bool) : Type 0 where
  pub edges : r ≡ true → (x a y : ℕ) → edge x a y ∈ es → edge (partner old x) a y ∈ ds
  pub always : ((x a y : ℕ) → edge x a y ∈ es → edge (partner old x) a y ∈ ds) → r ≡ true

-- ---- all steps

-- the numbers in front of the edges are the same: sizes, counts and end states
pub record SameFront (a b : List ℕ) : Type 0 where
  pub same : (i : ℕ) → i < pairs_place a → get_or b i 0 ≡ get_or a i 0

-- two usable sections with the same numbers in front, and so with one view
pub record BothSeen (a b : List ℕ) (at : View) : Type 0 where
  pub here : Seen a at
  pub there : Seen b at
  pub front : SameFront a b

-- f keeps the outer vertices' numbers, keeps end states and symbols and carries edges to edges
pub record Followed (a b : List ℕ) (f : ℕ → ℕ → ℕ) : Type 0 where
  pub carrying : Carrying a b f
  pub roots : (v : ℕ) → v < vertex_count_of a 0 → f 0 v ≡ v
  pub goals : (v : ℕ) → v < vertex_count_of a (n_of a) → f (n_of a) v ≡ v

pub record SomeFollowed (a b : List ℕ) : Type 0 where
  pub f : ℕ → ℕ → ℕ
  pub is : Followed a b f

-- the answer: whether there is such an f
pub record FollowedBy (a b : List ℕ) (r : Bool) : Type 0 where
  pub found : r ≡ true → SomeFollowed a b
  pub always : (f : ℕ → ℕ → ℕ) → Followed a b f → r ≡ true
