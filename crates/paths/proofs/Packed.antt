-- The cost of a path's symbols, read off its packed label: symbol by symbol the label gives back what was packed.
use mathlib.Core.Path.{◌≡◌, refl, sym, ap, ap₂, ◌∙◌}
use mathlib.Core.List.{List, ◌∷◌}
use Prim.Native.Nat.{ℕ, suc, ◌+◌, ◌-◌, ◌*◌, ◌/◌, ◌%◌, ◌^◌}
use native.Mathlib.Nat.{div-one, pow-suc, div-div-eq-div-mul}
use native.Mathlib.Omega.{arith}
use Rattle.trellis.specs.Lists.{sum}
use Rattle.trellis.specs.Label.{symbol}
use Rattle.trellis.specs.Section.{pack_onto}
use Rattle.paths.proofs.Sections.{cost_from}
use Rattle.paths.proofs.Ascent.{Symbols, no_more, one_more}

-- what the symbols were put behind
pack_front : {k : ℕ} {us : List ℕ} → Symbols k us → (x : ℕ) → pack_onto x us / 4 ^ k ≡ x
unfolding pack_onto
pack_front no_more x = div-one x
pack_front {k = suc k} {us = a ∷ rest} (one_more p s) x =
    let e : (x * 4 + a) / 4 ≡ x = omega arith in
    ap (λ b. pack_onto (x * 4 + a) rest / b) (pow-suc 4 k) ∙ sym (div-div-eq-div-mul (pack_onto (x * 4 + a) rest) (4 ^ k) 4)
    ∙ ap (λ y. y / 4) (pack_front s (x * 4 + a)) ∙ e

pub cost_packed : (cost : ℕ → ℕ → ℕ) (n : ℕ) {k : ℕ} {us : List ℕ} → Symbols k us → (t x : ℕ) → t + k ≡ n
    → sum (λ u. cost u (symbol n u (pack_onto x us))) t k ≡ cost_from cost t us
unfolding sum cost_from symbol pack_onto
cost_packed cost n no_more t x h = refl
cost_packed cost n {k = suc k} {us = a ∷ rest} (one_more p s) t x h =
    let e : n - suc t ≡ k = omega arith in
    let m : (x * 4 + a) % 4 ≡ a = omega arith in
    let f : pack_onto (x * 4 + a) rest / 4 ^ (n - suc t) % 4 ≡ a
    = ap (λ j. pack_onto (x * 4 + a) rest / 4 ^ j % 4) e ∙ ap (λ y. y % 4) (pack_front s (x * 4 + a)) ∙ m in
    ap₂ (λ y z. y + z) (ap (cost t) f) (cost_packed cost n s (suc t) (x * 4 + a) (omega arith))
