-- An outcome's values, each stored in its place, are those of the answer in numbers; and an equal outcome has the same.
use mathlib.Core.Path.{◌≡◌, ap, subst, ◌∙◌}
use mathlib.Core.List.{List, [], ◌∷◌}
use Prim.Native.Nat.{ℕ}
use lib.ListN.{get_or}
use Rattle.trellis.specs.Outcome.{Outcome}
use Rattle.outcomes.specs.Inner.Holds.{Holds}
use Rattle.outcomes.specs.Numbered.{stored, four_of, Numbered}

pub numbered : {o : Outcome} {number count : ℕ} {values : List ℕ} {a b c d : ℕ} → Holds o number count values
    → a ≡ stored (get_or values 0 0) → b ≡ stored (get_or values 1 0) → c ≡ stored (get_or values 2 0) → d ≡ stored (get_or values 3 0)
    → Numbered o number (a ∷ b ∷ c ∷ d ∷ [])
unfolding four_of
numbered H ea eb ec ed = record {
  number_is = H.number_is;
  values_are = (λ t. ea t ∷ eb t ∷ ec t ∷ ed t ∷ []) ∙ ap four_of H.values_are;
}

pub numbered_by : {o p : Outcome} {number : ℕ} {values : List ℕ} → o ≡ p → Numbered o number values → Numbered p number values
numbered_by {o} {p} {number} {values} e N = subst (λ x. Numbered x number values) e N
