-- Beginnings as numbers, one step of a section further. `rows` has the least costs from the section's vertices, and `prices` what its
-- symbols cost. An item is what a beginning costs at least in the end, above its code: the place of the beginning that entered the section,
-- the vertex where it stands, and its symbols so far. Everything here computes.
use Rattle.std.specs.Prelude.{cond, ℕ, zero, suc, ltb}
use mathlib.Core.List.{List, [], ◌∷◌, flat_map}
use Rattle.trellis.specs.Own.{Edge}
use Rattle.trellis.specs.Section.{leaving}
use Rattle.paths.specs.Chain.{unreached}
use Rattle.ranking.specs.Inner.Kept.{keep_best}
use Rattle.dearest.specs.Inner.Items.{cost_in, code_in, item_of}
use Rattle.codes.specs.Inner.Codes.{code_vertex, further_code}
use Rattle.totals.specs.Inner.Totals.{paid_for, total_of}

module _ (rows prices : List ℕ) (t : ℕ) where
  -- a beginning along the edge, where there is a path behind it
  unfoldable pub candidate : ℕ → ℕ → Edge → List ℕ
  candidate paid code e =
      cond (ltb (total_of rows prices t paid e) unreached) (item_of (total_of rows prices t paid e) (further_code code e) ∷ []) []

  -- an item along all edges that leave its vertex
  abbrev pub candidates : List Edge → ℕ → List ℕ
  candidates es x = flat_map (candidate (paid_for rows t x) (code_in x)) (leaving (code_vertex (code_in x)) es)

-- m steps, the first of them step t: k are kept at each
unfoldable pub stepped_from : (ℕ → List Edge) → List ℕ → List ℕ → ℕ → ℕ → ℕ → List ℕ → List ℕ
stepped_from edges rows prices k zero t xs = xs
stepped_from edges rows prices k (suc m) t xs =
    stepped_from edges rows prices k m (suc t) (keep_best cost_in k (flat_map (candidates rows prices t (edges t)) xs))
