-- Outcomes in numbers: one stands for an equal one, and its four places, read one by one and cut off at its count, are its values.
use mathlib.Core.Path.{◌≡◌, refl, sym, ap₂, subst, ◌∙◌}
use mathlib.Core.List.{List, [], ◌∷◌}
use Prim.Native.Nat.{ℕ, ◌≤◌}
use native.Mathlib.Omega.{arith}
use lib.ListN.{length, take}
use Rattle.trellis.specs.Outcome.{Outcome}
use Rattle.outcomes.specs.Inner.Holds.{padded, Holds}

pub holds_by : {o p : Outcome} {number count : ℕ} {values : List ℕ} → o ≡ p → Holds p number count values → Holds o number count values
holds_by {o} {p} {number} {count} {values} e H = subst (λ x. Holds x number count values) (sym e) H

first_values : (vs : List ℕ) → length vs ≤ 4 → take (length vs) (padded vs) ≡ vs
first_values [] h = refl
first_values (a ∷ []) h = refl
first_values (a ∷ b ∷ []) h = refl
first_values (a ∷ b ∷ c ∷ []) h = refl
first_values (a ∷ b ∷ c ∷ d ∷ []) h = refl
first_values (a ∷ b ∷ c ∷ d ∷ e ∷ vs) h = absurd (omega arith)

pub values_read : {o : Outcome} {number count : ℕ} {values : List ℕ} → Holds o number count values → take count (padded values) ≡ o.values
values_read {o} H =
    ap₂ (λ k l. take k (padded l)) H.count_is H.values_are ∙ first_values o.values (subst (λ k. k ≤ 4) H.count_is H.few)
