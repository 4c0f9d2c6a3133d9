-- The order of three numbers, by the first, then the second, then the third: the test `lower` tells it, and it is a strict order in which
-- every two can be compared, since each of the three is.
use mathlib.Core.Path.{◌≡◌, sym, subst}
use mathlib.Core.Bool.{◌&&◌, ◌||◌, Bool}
use mathlib.Core.Logic.{inl, inr}
use Prim.Native.Nat.{ℕ, ◌<◌}
use native.Mathlib.Omega.{arith}
use native.Mathlib.Decide.{dec_lt}
use lib.Dec.{T, ltb, eqb, eqb→eq, eqb_refl, ltb→lt, lt→ltb}
use Rattle.trellis.specs.Lists.{Lower, by_first, by_second, by_third, lower, alike}
use Rattle.trellis.proofs.Bools.{both, join, either, or_left, or_right}
use Rattle.trellis.specs.Own.{Edge}

abbrev pub same_edge : Edge → Edge → Bool
same_edge e f = alike e.from e.symbol e.to f.from f.symbol f.to

module _ (a b c x y z : ℕ) where
  pub lower_yes : T (lower a b c x y z) → Lower a b c x y z
  unfolding lower
  lower_yes t = elim (either (ltb a x) (eqb a x && (ltb b y || (eqb b y && ltb c z))) t)
      [ inl h ↦ by_first (ltb→lt a x h) | inr h ↦ second (both (eqb a x) (ltb b y || (eqb b y && ltb c z)) h) ]
    where
      third : a ≡ x → T (eqb b y) × T (ltb c z) → Lower a b c x y z
      third e p = by_third e (eqb→eq b y p.0) (ltb→lt c z p.1)

      second : T (eqb a x) × T (ltb b y || (eqb b y && ltb c z)) → Lower a b c x y z
      second p = elim (either (ltb b y) (eqb b y && ltb c z) p.1)
          [ inl h ↦ by_second (eqb→eq a x p.0) (ltb→lt b y h) | inr h ↦ third (eqb→eq a x p.0) (both (eqb b y) (ltb c z) h) ]

  pub lower_of : Lower a b c x y z → T (lower a b c x y z)
  unfolding lower
  lower_of (by_first h) = or_left (ltb a x) _ (lt→ltb a x h)
  lower_of (by_second e h) = or_right (ltb a x) _ (join (eqb a x) _ (same e) (or_left (ltb b y) _ (lt→ltb b y h)))
    where
      same : a ≡ x → T (eqb a x)
      same e = subst (λ k. T (eqb a k)) e (eqb_refl a)
  lower_of (by_third e f h) =
      or_right (ltb a x) _
      (join (eqb a x) _ (same e) (or_right (ltb b y) _ (join (eqb b y) _ (subst (λ k. T (eqb b k)) f (eqb_refl b)) (lt→ltb c z h))))
    where
      same : a ≡ x → T (eqb a x)
      same e = subst (λ k. T (eqb a k)) e (eqb_refl a)

pub lower_never : (a b c : ℕ) → Lower a b c a b c → ⊥
lower_never a b c (by_first h) = omega arith
lower_never a b c (by_second e h) = omega arith
lower_never a b c (by_third e f h) = omega arith

pub lower_chain : {a b c x y z u v w : ℕ} → Lower a b c x y z → Lower x y z u v w → Lower a b c u v w
lower_chain (by_first p) (by_first q) = by_first (omega arith)
lower_chain (by_first p) (by_second q r) = by_first (omega arith)
lower_chain (by_first p) (by_third q r s) = by_first (omega arith)
lower_chain (by_second p i) (by_first q) = by_first (omega arith)
lower_chain (by_second p i) (by_second q r) = by_second (omega arith) (omega arith)
lower_chain (by_second p i) (by_third q r s) = by_second (omega arith) (omega arith)
lower_chain (by_third p i j) (by_first q) = by_first (omega arith)
lower_chain (by_third p i j) (by_second q r) = by_second (omega arith) (omega arith)
lower_chain (by_third p i j) (by_third q r s) = by_third (omega arith) (omega arith) (omega arith)

-- equal in all three
pub record Equal (a b c x y z : ℕ) : Type 0 where
  pub firsts : a ≡ x
  pub seconds : b ≡ y
  pub thirds : c ≡ z

pub lower_compare : (a b c x y z : ℕ) → (Lower a b c x y z → ⊥) → (Lower x y z a b c → ⊥) → Equal a b c x y z
lower_compare a b c x y z p q =
    let e : a ≡ x = equal a x (λ h. p (by_first h)) (λ h. q (by_first h)) in
    let f : b ≡ y = equal b y (λ h. p (by_second e h)) (λ h. q (by_second (sym e) h)) in
    record { firsts = e; seconds = f; thirds = equal c z (λ h. p (by_third e f h)) (λ h. q (by_third (sym e) (sym f) h)) }
  where
    equal : (i j : ℕ) → (i < j → ⊥) → (j < i → ⊥) → i ≡ j
    equal i j r s = go (dec_lt i j) (dec_lt j i)
      where
        go : Dec (i < j) → Dec (j < i) → i ≡ j
        go (yes h) d = absurd (r h)
        go (no h) (yes k) = absurd (s k)
        go (no h) (no k) = omega arith

module _ (a b c x y z : ℕ) where
  pub alike_yes : T (alike a b c x y z) → Equal a b c x y z
  unfolding alike
  alike_yes t =
      let p = both (eqb a x) (eqb b y && eqb c z) t in
      let q = both (eqb b y) (eqb c z) p.1 in
      record { firsts = eqb→eq a x p.0; seconds = eqb→eq b y q.0; thirds = eqb→eq c z q.1 }

pub alike_self : (a b c : ℕ) → T (alike a b c a b c)
unfolding alike
alike_self a b c = join (eqb a a) (eqb b b && eqb c c) (eqb_refl a) (join (eqb b b) (eqb c c) (eqb_refl b) (eqb_refl c))
