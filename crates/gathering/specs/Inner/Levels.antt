-- Words found depth by depth: the beginnings of words up to depth t, in word order, each with the vertex where its path stands, and each as
-- one number. From one depth to the next every beginning goes on along all edges that leave its vertex.
use mathlib.Core.List.{List, map, flat_map}
use Rattle.std.specs.Prelude.{ℕ, zero, suc, ◌+◌, ◌*◌}
use Rattle.trellis.specs.Lists.{each}
use Rattle.trellis.specs.Word.{Word, word}
use Rattle.trellis.specs.Own.{Edge}
use Rattle.trellis.specs.Section.{leaving}
use Rattle.trellis.specs.Layout.{vertex_count_of, root_state, step_edges}
use Rattle.codes.specs.Inner.Codes.{code}

-- the root, the symbols so far packed as a label, and the vertex
pub record Begun : Type 0 where
  pub root : ℕ
  pub label : ℕ
  pub vertex : ℕ

abbrev pub begun : ℕ → ℕ → ℕ → Begun
begun r x v = record { root = r; label = x; vertex = v }

-- one step further along an edge
abbrev pub further : Begun → Edge → Begun
further b e = begun b.root (b.label * 4 + e.symbol) e.to

abbrev pub grown : List Edge → Begun → List Begun
grown es b = map (further b) (leaving b.vertex es)

abbrev pub finished : (ℕ → ℕ) → Begun → Word
finished goal_of b = word b.root b.label (goal_of b.vertex)

module _ (l : List ℕ) where
  -- the beginnings up to depth t
  unfoldable pub level : ℕ → List Begun
  level zero = map (λ v. begun (root_state l v) 0 v) (each (λ v. v) (vertex_count_of l 0))
  level (suc t) = flat_map (grown (step_edges l t)) (level t)

abbrev pub coded : Begun → ℕ
coded b = code b.root b.vertex b.label
