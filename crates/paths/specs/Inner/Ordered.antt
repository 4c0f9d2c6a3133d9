-- Lists in order.
use Rattle.std.specs.Prelude.{List, [], ◌∷◌}
use Rattle.trellis.specs.Lists.{◌∈◌}

-- each member is before every later one
pub data Ordered {A : Type 0} (R : A → A → Type 0) : List A → Type 0 where
  ended : Ordered R []
  leads : {x : A} {xs : List A} → ((y : A) → y ∈ xs → R x y) → Ordered R xs → Ordered R (x ∷ xs)
