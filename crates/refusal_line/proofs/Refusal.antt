-- A refusal's line shows its number and as many of the four places behind it as the outcome has values.
use mathlib.Core.Path.{◌≡◌, ap, ap₂, subst, ◌∙◌}
use mathlib.Core.List.{List, ◌∷◌}
use Prim.Native.Nat.{ℕ, suc, ◌+◌}
use native.Mathlib.Omega.{arith}
use lib.ListN.{take}
use Rattle.trellis.specs.Outcome.{Outcome}
use Rattle.outcomes.specs.Inner.Holds.{padded, Holds}
use Rattle.outcomes.proofs.Held.{values_read}
use Rattle.text.specs.Line.{line}
use Rattle.text.specs.Inner.Put.{Put}
use Rattle.lines.specs.Text.{refused_word, refusal_line}

pub refusal_put : {o : Outcome} {number count : ℕ} {values : List ℕ} → Holds o number count values → {old new : List ℕ} {end : ℕ}
    → Put old 0 (line refused_word (take (1 + count) (number ∷ padded values))) new end → Put old 0 (refusal_line o) new end
unfolding refusal_line
refusal_put {o} {number} {count} {values} H {old} {new} {end} p =
    let one : 1 + count ≡ suc count = omega arith in
    let shown : take (1 + count) (number ∷ padded values) ≡ o.number ∷ o.values
    = ap (λ k. take k (number ∷ padded values)) one ∙ ap₂ (λ k vs. k ∷ vs) H.number_is (values_read H) in
    subst (λ vs. Put old 0 (line refused_word vs) new end) shown p
