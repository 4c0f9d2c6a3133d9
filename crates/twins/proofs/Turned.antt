-- An edge as it stands, and on the way back with from and to in each other's place.
use mathlib.Core.Path.{◌≡◌, sym}
use mathlib.Core.Bool.{Bool, true, false, not}
use mathlib.Core.List.{List}
use Prim.Native.Nat.{ℕ}
use Rattle.trellis.proofs.Bools.{clash}
use Rattle.edges.specs.Inner.Edges.{edge_in, held_edge}
use Rattle.edges.specs.declared.Edge.{Edge}
use Rattle.twins.specs.Inner.Twins.{turned_in}

module _ (pairs symbols : List ℕ) where
  pub edge_forward : (k : ℕ) (back : Bool) {e : Edge} → e ≡ held_edge (edge_in pairs symbols k) → not back ≡ true
      → e ≡ held_edge (turned_in back pairs symbols k)
  edge_forward k false d t = d
  edge_forward k true d t = absurd (clash (sym t))

  pub edge_back : (k : ℕ) (back : Bool) {e : Edge} → e ≡ held_edge (edge_in pairs symbols k) → not back ≡ false
      → record { from = e.to; symbol = e.symbol; to = e.from } ≡ held_edge (turned_in back pairs symbols k)
  edge_back k false d t = absurd (clash t)
  edge_back k true d t = rw d
