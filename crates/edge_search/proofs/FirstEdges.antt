-- The first number of a rising row that is not below v, found by halves: all before `low` are below v, and none from `high` on is. A look
-- at the middle moves one of the two to it: if the middle one is below v, so are those before it, and if it is not, no later one is. A
-- guess is tested by two looks: the number there is not below v, so no later one is, and the number before it is, so all before it are.
use mathlib.Core.Path.{◌≡◌, refl, ap, ◌∙◌}
use mathlib.Core.Bool.{true, false, ◌&&◌}
use mathlib.Core.List.{List}
use Prim.Native.Nat.{ℕ, zero, suc, ◌+◌, ◌-◌, ◌*◌, ◌/◌, ◌≤◌, ◌<◌}
use native.Mathlib.Omega.{arith}
use native.Mathlib.Nat.{mul-le-mul}
use lib.Dec.{ltb, leb}
use borrow.Author.Tests.{ltb-true, leb-true, lt-ltb, le-ltb, le-leb, lt-leb}
use Rattle.trellis.specs.Bounds.{most_words}
use Rattle.trellis.proofs.Bools.{left_true, right_true}
use Rattle.whole_section.specs.Inner.StepAt.{StepEdges}
use Rattle.edge_search.specs.Inner.FirstEdge.{FromsRise, FirstFrom, under_before, is_first}

-- the edges of a step rise so by the vertices where they start
pub froms_rise_lem : {pairs symbols : List ℕ} {count : ℕ} → StepEdges pairs symbols count → FromsRise pairs count
froms_rise_lem E = record { few = E.small.there.few; there = E.small.there.pairs_in; rise = E.froms_rise }

pub record Halving (f : ℕ → ℕ) (count v low high : ℕ) : Type 0 where
  pub ordered : low ≤ high
  pub inside : high ≤ count
  pub under : (j : ℕ) → j < low → f j < v
  pub over : (j : ℕ) → high ≤ j → j < count → v ≤ f j

pub halving_start : (f : ℕ → ℕ) (count v : ℕ) → Halving f count v 0 count
halving_start f count v = record {
  ordered = omega arith;
  inside = omega arith;
  under = λ j h. absurd (omega arith);
  over = λ j h k. absurd (omega arith);
}

module _ {f : ℕ → ℕ} {count v low high : ℕ} (H : Halving f count v low high) where
  pub halving_done : high ≤ low → FirstFrom f count v low
  halving_done h = record {
    inside = omega (arith, H.ordered, H.inside);
    under = H.under;
    over = λ j a b. H.over j (omega (arith, H.ordered)) b;
  }

  module _ (h : low < high) where
    pub middle_in : (low + high) / 2 < count
    middle_in = omega (arith, H.inside)

    module _ (rise : (j k : ℕ) → j ≤ k → k < count → f j ≤ f k) where
      pub halving_up : f ((low + high) / 2) < v → Halving f count v ((low + high) / 2 + 1) high
      halving_up u = record {
        ordered = omega arith;
        inside = H.inside;
        under = λ j a. omega (arith, rise j ((low + high) / 2) (omega arith) middle_in);
        over = H.over;
      }

      pub halving_down : v ≤ f ((low + high) / 2) → Halving f count v low ((low + high) / 2)
      halving_down u = record {
        ordered = omega arith;
        inside = omega (arith, H.inside);
        under = H.under;
        over = λ j a b. omega (arith, rise ((low + high) / 2) j a b);
      }

-- ---- a guess

-- vertices and edges of each are few, and so is their product
pub guess_near : {v each : ℕ} → v < most_words → each ≤ most_words → v * each < 2000000
guess_near {v} {each} h k =
    let m : v * each ≤ most_words * most_words = mul-le-mul (let z : v ≤ most_words = omega arith in z) k in omega (arith, m)

under_front : (f : ℕ → ℕ) (v : ℕ) {a : ℕ} → a ≡ 0 → true ≡ under_before f v a
unfolding under_before
under_front f v e = rw e

under_behind : (f : ℕ → ℕ) (v a : ℕ) → (a ≡ 0 → ⊥) → ltb (f (a - 1)) v ≡ under_before f v a
unfolding under_before
under_behind f v zero h = absurd (h refl)
under_behind f v (suc a) h = let q : suc a - 1 ≡ a = omega arith in rw q

under_of : (f : ℕ → ℕ) (v a j : ℕ) → under_before f v a ≡ true → j < a → (j ≤ a - 1) × (f (a - 1) < v)
unfolding under_before
under_of f v zero j e h = absurd (omega arith)
under_of f v (suc a) j e h = let q : suc a - 1 ≡ a = omega arith in (omega arith, rw q (ltb-true (f a) v e))

module _ (f : ℕ → ℕ) (count v a : ℕ) where
  pub first_past : count ≤ a → false ≡ is_first f count v a
  unfolding is_first
  first_past h = let e = le-ltb a count h in rw e

  module _ (h : a < count) where
    pub first_under : {x : ℕ} → x ≡ f a → x < v → false ≡ is_first f count v a
    unfolding is_first
    first_under i k = let d = lt-ltb a count h in let e = lt-leb v (f a) (omega arith) in rw (d, e)

    module _ {x : ℕ} (i : x ≡ f a) (k : v ≤ x) where
      first_by : under_before f v a ≡ is_first f count v a
      unfolding is_first
      first_by = let d = lt-ltb a count h in let e = le-leb v (f a) (omega arith) in rw (d, e)

      pub first_front : a ≡ 0 → true ≡ is_first f count v a
      first_front z = under_front f v z ∙ first_by

      pub first_behind : {y : ℕ} → (a ≡ 0 → ⊥) → y ≡ f (a - 1) → ltb y v ≡ is_first f count v a
      first_behind z j = ap (λ w. ltb w v) j ∙ under_behind f v a z ∙ first_by

  pub first_is : ((j k : ℕ) → j ≤ k → k < count → f j ≤ f k) → is_first f count v a ≡ true → FirstFrom f count v a
  unfolding is_first
  first_is rise e =
      let inside = ltb-true a count (left_true (ltb a count) (leb v (f a) && under_before f v a) e) in
      let rest = right_true (ltb a count) (leb v (f a) && under_before f v a) e in
      let here = leb-true v (f a) (left_true (leb v (f a)) (under_before f v a) rest) in
      record {
        inside = omega (arith, inside);
        under = λ j h. let u = under_of f v a j (right_true (leb v (f a)) (under_before f v a) rest) h in
            omega (arith, u.1, rise j (a - 1) u.0 (omega (arith, inside)));
        over = λ j h k. omega (arith, here, rise a j h k);
      }
