-- w numbers and, behind them, the same with c added: the loop keeps which of the second half stand, and it reads the first half, which no
-- turn changes.
use mathlib.Core.Path.{◌≡◌, refl, sym, ap, subst, ◌∙◌}
use mathlib.Core.List.{List}
use Prim.Native.Nat.{ℕ, ◌+◌, ◌≤◌, ◌<◌}
use native.Mathlib.Omega.{arith}
use native.Mathlib.Decide.{ℕ_discrete}
use lib.ListN.{length, get_or, set, length-set}
use lib.Seq.{get_or-set_same, get_or-set_other}
use lib.Bits.{bit_xor}
use Rattle.rows.specs.Sums.{◌⊕◌}
use Rattle.row_sums.specs.Inner.Doubled.{Doubled}

pub doubled_none : (place w c : ℕ) (old : List ℕ) → Doubled place w c old 0 old
doubled_none place w c old = record { len = refl; done = λ j h. absurd (omega arith); front = λ i h. refl; behind = λ i h. refl }

pub doubled_next : {place w c : ℕ} {old : List ℕ} {m : ℕ} {new : List ℕ} → Doubled place w c old m new → m < w
    → place + (w + w) ≤ length old → Doubled place w c old (m + 1) (set new (place + w + m) (bit_xor c (get_or new (place + m) 0)))
doubled_next {place} {w} {c} {old} {m} {new} D h r = record {
  len = length-set new (place + w + m) y ∙ D.len;
  done = λ j k. now j k (ℕ_discrete j m);
  front = λ i k. get_or-set_other new (place + w + m) i y 0 (λ q. omega arith) ∙ D.front i k;
  behind = λ i k. get_or-set_other new (place + w + m) i y 0 (λ q. omega arith) ∙ D.behind i (omega arith);
}
  where
    y : ℕ
    y = bit_xor c (get_or new (place + m) 0)

    now : (j : ℕ) → j < m + 1 → Dec (j ≡ m) → get_or (set new (place + w + m) y) (place + w + j) 0 ≡ c ⊕ get_or old (place + j) 0
    now j k (yes q) =
        ap (λ i. get_or (set new (place + w + m) y) (place + w + i) 0) q ∙ get_or-set_same new (place + w + m) y 0 (omega (arith, D.len))
        ∙ ap (λ z. c ⊕ z) (D.front (place + m) (omega arith) ∙ ap (λ i. get_or old (place + i) 0) (sym q))
    now j k (no q) = get_or-set_other new (place + w + m) (place + w + j) y 0 (λ e. q (omega arith)) ∙ D.done j (omega arith)

pub doubled_end : {place w c : ℕ} {old : List ℕ} {m : ℕ} {new : List ℕ} → Doubled place w c old m new → m ≤ w → w ≤ m
    → Doubled place w c old w new
doubled_end {place} {w} {c} {old} {m} {new} D h k = let e : m ≡ w = omega arith in subst (λ i. Doubled place w c old i new) e D
