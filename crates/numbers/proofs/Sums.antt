-- A sum taken number by number is the sum of the numbers passed, and small, as each of them has 16 bits.
use mathlib.Core.Path.{◌≡◌, refl, ap, ◌∙◌}
use Prim.Native.Nat.{ℕ, suc, ◌+◌, ◌*◌, ◌≤◌, ◌<◌}
use native.Mathlib.Omega.{arith}
use native.Mathlib.Nat.{zero-add}
use Rattle.trellis.specs.Lists.{sum}
use Rattle.trellis.proofs.Lists.{sum_last}

pub record Summed (f : ℕ → ℕ) (count total t : ℕ) : Type 0 where
  pub inside : t ≤ count
  pub is : total ≡ sum f 0 t
  pub small : total ≤ 65535 * t

pub summed_start : (f : ℕ → ℕ) (count : ℕ) → Summed f count 0 0
unfolding sum
summed_start f count = record { inside = omega arith; is = refl; small = omega arith }

pub summed_next : {f : ℕ → ℕ} {count total t x y : ℕ} → Summed f count total t → t < count → x ≡ f t → (y ≡ x) × (y < 65536)
    → Summed f count (total + y) (t + 1)
summed_next {f} {count} {total} {t} {x} {y} s h e g = record {
  inside = omega arith;
  is = let a : sum f 0 (t + 1) ≡ sum f 0 t + f t = ap (sum f 0) (let o : t + 1 ≡ suc t = omega arith in o) ∙ sum_last f 0 t
      ∙ ap (λ k. sum f 0 t + f k) (zero-add t) in omega (arith, s.is, g.0);
  small = omega (arith, s.small, g.1);
}

pub summed_all : {f : ℕ → ℕ} {count total t : ℕ} → Summed f count total t → count ≤ t → (total ≡ sum f 0 count) × (total ≤ 65535 * count)
summed_all {f} {count} {total} {t} s h = let e : count ≡ t = omega (arith, s.inside) in (rw e s.is, rw e s.small)
