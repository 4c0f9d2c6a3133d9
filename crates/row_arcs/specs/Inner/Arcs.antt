-- The edges of steps as sums of those that the rows take, on the raw lists: map has the vertices of w words at each depth, one depth behind
-- another, and word 2 ^ b is row b.
use Rattle.std.specs.Prelude.{◌≡◌, List, ℕ, suc, ◌+◌, ◌*◌, ◌^◌, ◌≤◌, ◌<◌, length, get_or}
use Rattle.trellis.specs.Bounds.{most_symbols, most_state_bits, most_rows}
use Rattle.trellis.specs.Lists.{each}
use Rattle.trellis.specs.Layout.{joined_up}
use Rattle.trellis.specs.Inner.Write.{Wrote}
use Rattle.rows.specs.Sums.{sums}
use Rattle.rows.specs.Table.{cut_at}
use Rattle.rows.specs.Inner.Reduced.{bit_at, Narrow}
use Rattle.rows.specs.Inner.Edges.{edge_number}

-- the edges that the rows take, as numbers, at a step whose two rows of the map begin at row
unfoldable pub arcs_of : List ℕ → ℕ → ℕ → List ℕ → ℕ → ℕ → List ℕ
arcs_of map row w rows cut dim =
    each (λ b. edge_number dim (get_or map (row + 2 ^ b) 0) (bit_at cut (get_or rows b 0)) (get_or map (row + w + 2 ^ b) 0)) (length rows)

pub record StepAsked (map : List ℕ) (row w : ℕ) (rows : List ℕ) (cut dim : ℕ) : Type 0 where
  pub words : w ≡ 2 ^ length rows
  pub few : length rows ≤ most_rows
  pub room : row + w + w ≤ length map
  pub near : cut < 16
  pub short : dim ≤ 10
  pub narrow : Narrow 16 (arcs_of map row w rows cut dim)

module _ (map : List ℕ) (w : ℕ) (rows : List ℕ) (s n : ℕ) (dims : List ℕ) where
  -- the edges that the rows take at step t
  abbrev pub step_arcs : ℕ → List ℕ
  step_arcs t = arcs_of map (t * w) w rows (cut_at s n (suc t)) (get_or dims (suc t) 0)

  -- all edges of step t, as numbers, in their order
  abbrev pub step_sums : ℕ → List ℕ
  step_sums t = sums (step_arcs t)

  pub record EdgesAsked : Type 0 where
    pub words : w ≡ 2 ^ length rows
    pub few : length rows ≤ most_rows
    pub room : suc n * w ≤ length map
    pub states : s ≤ most_state_bits
    pub symbols : n ≤ most_symbols
    pub dim_places : length dims ≡ 9
    pub short : (t : ℕ) → get_or dims t 0 ≤ 10
    pub narrow : (t : ℕ) → t < n → Narrow 16 (step_arcs t)

  -- the edges of all steps, one step behind another, and how many there are
  pub record AllEdges (old new : List ℕ) (total : ℕ) (counts : List ℕ) : Type 0 where
    pub noted : Wrote old 0 (joined_up step_sums n) new total
    pub counted : (t : ℕ) → t < n → get_or counts t 0 ≡ length (step_sums t)
    pub places : length counts ≡ 8
    pub most : total ≤ n * w
