-- The first of least cost among the members of a list. Everything here computes.
use Rattle.std.specs.Prelude.{cond, List, [], ◌∷◌, ℕ, leb}

-- nothing, or a cost with what is had for it
pub data Choice (P : Type 0) : Type 0 where
  none : Choice P
  some : ℕ → P → Choice P

-- the cheaper of two, the left one on a tie
unfoldable pub choose : {P : Type 0} → Choice P → Choice P → Choice P
choose none b = b
choose (some c p) none = some c p
choose (some c p) (some d q) = cond (leb c d) (some c p) (some d q)

-- the first of least cost
unfoldable pub best : {P : Type 0} → (P → ℕ) → List P → Choice P
best cost [] = none
best cost (p ∷ ps) = choose (some (cost p) p) (best cost ps)

-- what is paid, or `top` where there is nothing
unfoldable pub paid_or : {P : Type 0} → ℕ → Choice P → ℕ
paid_or top none = top
paid_or top (some c p) = c
