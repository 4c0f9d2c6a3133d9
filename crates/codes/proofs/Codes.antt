-- A beginning one step further along an edge has the number that the code works out.
use mathlib.Core.Path.{◌≡◌, ap, ◌∙◌}
use Prim.Native.Nat.{ℕ, ◌+◌, ◌*◌, ◌/◌}
use Rattle.trellis.specs.Own.{Edge}
use Rattle.packed.specs.Inner.Packed.{appended}
use Rattle.edges.specs.Inner.Edges.{held_edge, meant_edge}
use Rattle.edges.specs.declared.Edge as held
use Rattle.codes.specs.Inner.Codes.{code_label, further_code}

pub further_is : (c : ℕ) (e : held.Edge) {x y z : ℕ} → x ≡ code_label c → y ≡ appended x e.symbol → z ≡ y
    → (c / 67108864 * 1024 + e.to) * 65536 + z ≡ further_code c (meant_edge e)
further_is c e q r t = ap (λ a. (c / 67108864 * 1024 + e.to) * 65536 + a) (t ∙ r ∙ ap (λ a. appended a e.symbol) q)

pub further_at : (c : ℕ) {r : ℕ} {e : held.Edge} {f : Edge} → r ≡ further_code c (meant_edge e) → e ≡ held_edge f → r ≡ further_code c f
further_at c p q = p ∙ ap (λ (x : held.Edge). further_code c (meant_edge x)) q
