-- Lists joined one behind another: their length is the sum of the pieces' lengths, and each piece stands behind those before it.
use mathlib.Core.Path.{◌≡◌, refl, sym, ap, ap₂, subst, ◌∙◌}
use mathlib.Core.List.{List, ◌++◌}
use Prim.Native.Nat.{ℕ, zero, suc, ◌+◌, ◌-◌, ◌≤◌, ◌<◌}
use native.Mathlib.Omega.{arith}
use native.Mathlib.Nat.{add-zero, add-suc, zero-add, not-suc-le-zero}
use native.Mathlib.Decide.{ℕ_discrete}
use lib.ListN.{length, get_or, length-append, get_or-append}
use lib.Seq.{get_or-append-add}
use Rattle.trellis.specs.Lists.{sum}
use Rattle.trellis.specs.Layout.{joined_up}
use Rattle.trellis.proofs.Lists.{sum_last}

module _ {A : Type 0} (f : ℕ → List A) where
  abbrev pub lengths_before : ℕ → ℕ
  lengths_before t = sum (λ u. length (f u)) 0 t

  pub lengths_suc : (t : ℕ) → lengths_before (suc t) ≡ lengths_before t + length (f t)
  lengths_suc t = sum_last (λ u. length (f u)) 0 t ∙ ap (λ u. lengths_before t + length (f u)) (zero-add t)

  pub joined_length : (count : ℕ) → length (joined_up f count) ≡ lengths_before count
  unfolding joined_up sum
  joined_length zero = refl
  joined_length (suc count) = length-append (joined_up f count) (f count) ∙ ap (λ k. k + length (f count)) (joined_length count)
      ∙ sym (lengths_suc count)

  pub lengths_le : (k t : ℕ) → lengths_before t ≤ lengths_before (t + k)
  lengths_le zero t = rw (add-zero t) (omega arith)
  lengths_le (suc k) t = rw (add-suc t k) (omega (arith, lengths_le k t, lengths_suc (t + k)))

  -- an element of piece t
  pub joined_at : (count t k : ℕ) (d : A) → t < count → k < length (f t) → get_or (joined_up f count) (lengths_before t + k) d ≡ get_or (f t) k d
  unfolding joined_up
  joined_at zero t k d h l = absurd (not-suc-le-zero h)
  joined_at (suc count) t k d h l = go (ℕ_discrete t count) (joined_at count t k d)
    where
      go : Dec (t ≡ count) → (t < count → k < length (f t) → get_or (joined_up f count) (lengths_before t + k) d ≡ get_or (f t) k d)
          → get_or (joined_up f count ++ f count) (lengths_before t + k) d ≡ get_or (f t) k d
      go (yes e) r =
          let q : lengths_before t + k ≡ length (joined_up f count) + k = ap (λ u. lengths_before u + k) e
          ∙ ap (λ m. m + k) (sym (joined_length count)) in
          ap (λ i. get_or (joined_up f count ++ f count) i d) q ∙ get_or-append-add (joined_up f count) (f count) k d
          ∙ ap (λ u. get_or (f u) k d) (sym e)
      go (no e) r =
          let m : t < count = omega arith in
          let a = lengths_le (count - suc t) (suc t) in
          let b : suc t + (count - suc t) ≡ count = omega arith in
          let w : lengths_before (suc t) ≤ lengths_before count = subst (λ u. lengths_before (suc t) ≤ lengths_before u) b a in
          get_or-append (joined_up f count) (f count) d (lengths_before t + k) (omega (arith, w, lengths_suc t, joined_length count))
          ∙ r m l

-- the same pieces joined
pub joined_same : {A : Type 0} (f g : ℕ → List A) (count : ℕ) → ((t : ℕ) → t < count → f t ≡ g t) → joined_up f count ≡ joined_up g count
unfolding joined_up
joined_same f g zero h = refl
joined_same f g (suc count) h = ap₂ (λ xs ys. xs ++ ys) (joined_same f g count (λ t b. h t (omega arith))) (h count (omega arith))
