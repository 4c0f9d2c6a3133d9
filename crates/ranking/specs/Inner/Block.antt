-- One block by the edges of its section. A beginning enters the section at the vertex of its state, with no symbol yet, goes on edge by
-- edge, k kept at each step, and leaves it with one word more. `C` is what is remembered of the beginning that entered. Everything here
-- computes.
use Rattle.std.specs.Prelude.{List, [], ◌∷◌, ◌++◌, map, ℕ, ◌+◌, ◌*◌, eqb}
use Rattle.trellis.specs.Lists.{keep}
use Rattle.trellis.specs.Word.{Word, word}
use Rattle.trellis.specs.Own.{Edge}
use Rattle.paths.specs.Inner.Sections.{section_graph, edge_cost}
use Rattle.ranking.specs.Inner.Growth.{Start, start, extended, rated, narrow}

-- what entered, and its symbols so far, packed
pub record Label (C : Type 0) : Type 0 where
  pub of : C
  pub label : ℕ

-- one symbol more
abbrev pub spelled : {C : Type 0} → Label C → Edge → Label C
spelled x e = record { of = x.of; label = x.label * 4 + e.symbol }

module _ (edges : ℕ → List Edge) (cost : ℕ → ℕ → ℕ) where
  -- one edge more
  unfoldable pub one_edge : {C : Type 0} → ℕ → Start (Label C) → List (Start (Label C))
  one_edge t x = extended (section_graph edges) (edge_cost cost) spelled t x

  -- what is paid, and the least that is left to pay; `number v` is what is left behind the block
  unfoldable pub edge_rated : {C : Type 0} → ℕ → (ℕ → ℕ) → ℕ → ℕ → Start (Label C) → ℕ
  edge_rated top number m t x = rated (section_graph edges) (edge_cost cost) top number m t x

  unfoldable pub edges_kept : {C : Type 0} → ℕ → (ℕ → ℕ) → ℕ → ℕ → ℕ → List (Start (Label C)) → List (Start (Label C))
  edges_kept top number k m t xs = narrow one_edge (edge_rated top number) top k m t xs

-- a beginning in front of the section: at its state's vertex, if it has one
unfoldable pub entering : {H : Type 0} → List ℕ → (ℕ → ℕ) → Start H → List (Start (Label (Start H)))
entering roots root_of x = map (λ v. start (record { of = x; label = 0 }) v x.paid) (keep (λ v. eqb (root_of v) x.at) roots)

-- and behind it: with its word, in the goal's state
unfoldable pub leaving_with : (ℕ → ℕ) → Start (Label (Start (List Word))) → Start (List Word)
leaving_with goal_of x = start (x.had.of.had ++ (word x.had.of.at x.had.label (goal_of x.at) ∷ [])) (goal_of x.at) x.paid
