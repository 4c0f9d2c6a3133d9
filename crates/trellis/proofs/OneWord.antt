-- The law of one word: along its path, our section gains no more edges over vertices than a section drawn by another hand does.
-- At depth t of the word in hand, v_m t is 1 where our vertex is new and else 0; e_m t is 1 where our edge of step t is new; v_d and e_d say
-- the same of the drawn section. "New" is: on the path of no word before. Where a new edge of ours leads to an old vertex, all that follows
-- in ours is old, while the drawn path, which ends in an old vertex, must somewhere have a new edge into an old one.
use mathlib.Core.Path.{◌≡◌, refl, ap, ◌∙◌}
use mathlib.Core.Logic.{◌⊎◌, inl, inr}
use Prim.Native.Nat.{ℕ, zero, suc, ◌+◌, ◌≤◌, ◌<◌}
use native.Mathlib.Omega.{arith}
use Rattle.trellis.specs.Lists.{sum}

-- our edge of step t is new and leads to an old vertex: then all that follows is old
pub record Stop (n : ℕ) (e_m v_d e_d : ℕ → ℕ) (t : ℕ) : Type 0 where
  pub most : e_m t ≤ 1
  pub mine : e_d t ≡ 1
  pub rest : (u : ℕ) → t < u → u < n → e_m u ≡ 0
  pub last : v_d n ≡ 0

sum_zero : (f : ℕ → ℕ) (t k : ℕ) → ((u : ℕ) → t ≤ u → u < t + k → f u ≡ 0) → sum f t k ≡ 0
unfolding sum
sum_zero f t zero h = refl
sum_zero f t (suc k) h = let r = sum_zero f (suc t) k (λ u a b. h u (omega arith) (omega arith)) in let e =
    h t (omega arith) (omega arith) in omega arith

shift : (f g : ℕ → ℕ) (t k : ℕ) → ((u : ℕ) → t ≤ u → u < t + k → f (suc u) ≤ g u) → sum f (suc t) k ≤ sum g t k
unfolding sum
shift f g t zero h = omega arith
shift f g t (suc k) h = let r : sum f (suc (suc t)) k ≤ sum g (suc t) k = shift f g (suc t) k (λ u a b. h u (omega arith) (omega arith)) in
    let e = h t (omega arith) (omega arith) in omega arith

module _ (n : ℕ) (e_m v_m e_d v_d : ℕ → ℕ)
    (into : (t : ℕ) → t < n → v_d (suc t) ≤ e_d t)
    (onward : (t : ℕ) → suc t < n → (v_d (suc t) ≡ 0) ⊎ (e_d (suc t) ≡ 1)) where
  -- a new edge of the other section, on a path that ends in an old vertex: somewhere a new edge leads to an old vertex
  meets : (k t : ℕ) → t + suc k ≡ n → e_d t ≡ 1 → v_d n ≡ 0 → 1 + sum v_d (suc t) (suc k) ≤ sum e_d t (suc k)
  unfolding sum
  meets zero t h e z = let q : v_d (suc t) ≡ 0 = ap v_d (omega arith) ∙ z in omega arith
  meets (suc k) t h e z = go (meets k (suc t) (omega arith)) (onward t (omega arith))
    where
      go : (e_d (suc t) ≡ 1 → v_d n ≡ 0 → 1 + sum v_d (suc (suc t)) (suc k) ≤ sum e_d (suc t) (suc k)) → (v_d (suc t) ≡ 0) ⊎ (e_d (suc t) ≡ 1)
          → 1 + sum v_d (suc t) (suc (suc k)) ≤ sum e_d t (suc (suc k))
      go r (inl q) = let s : sum v_d (suc (suc t)) (suc k) ≤ sum e_d (suc t) (suc k) =
          shift v_d e_d (suc t) (suc k) (λ u a b. into u (omega arith)) in omega arith
      go r (inr q) = let s = r q z in let v = into t (omega arith) in omega arith

  pub along : ((t : ℕ) → t < n → (e_m t ≤ v_m (suc t)) ⊎ Stop n e_m v_d e_d t)
      → (k t : ℕ) → t + k ≡ n → sum e_m t k + sum v_d (suc t) k ≤ sum e_d t k + sum v_m (suc t) k
  unfolding sum
  along key zero t h = omega arith
  along key (suc k) t h = go (along key k (suc t) (omega arith)) (key t (omega arith))
    where
      go : sum e_m (suc t) k + sum v_d (suc (suc t)) k ≤ sum e_d (suc t) k + sum v_m (suc (suc t)) k → (e_m t ≤ v_m (suc t)) ⊎ Stop n e_m v_d e_d t
          → sum e_m t (suc k) + sum v_d (suc t) (suc k) ≤ sum e_d t (suc k) + sum v_m (suc t) (suc k)
      go r (inl q) = let v = into t (omega arith) in omega arith
      go r (inr s) =
          let m : 1 + sum v_d (suc t) (suc k) ≤ sum e_d t (suc k) = meets k t h s.mine s.last in
          let z : sum e_m (suc t) k ≡ 0 = sum_zero e_m (suc t) k (λ u a b. s.rest u (omega arith) (omega arith)) in
          omega arith
