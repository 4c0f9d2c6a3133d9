-- Numbering by rank and numbering by counting agree. Where f is no later than its argument and f (f i) is f i, the values of f below W are
-- the numbers that f keeps; so in the ascending list of these values each s has as many before it as there are kept numbers below s. For
-- the rank of s + 1 is that of s, and one more exactly if s is in the list.
use mathlib.Core.Path.{◌≡◌, refl, sym, ap, ap₂, subst, ◌∙◌}
use mathlib.Core.Bool.{Bool, true, false, ◌||◌}
use mathlib.Core.List.{List, [], ◌∷◌}
use Prim.Native.Nat.{ℕ, zero, suc, ◌+◌, ◌≤◌, ◌<◌}
use native.Mathlib.Omega.{arith}
use native.Mathlib.Decide.{ℕ_discrete, dec_lt}
use lib.ListN.{length}
use lib.Dec.{T, ltb, eqb, eqb→eq, eqb_refl}
use borrow.Author.Tests.{eq-eqb, ne_eqb, lt-ltb, le-ltb}
use Rattle.trellis.specs.Lists.{◌∈◌, Once, one_if, each, is_in, rank, ascending}
use Rattle.trellis.proofs.Bools.{is_false, eqb_of, same_test}
use Rattle.trellis.proofs.Lists.{in_yes, in_of, in_each, of_each, rank_zero, rank_all}
use Rattle.trellis.proofs.Ascending.{numbers, once_of, in_ascending, of_ascending, ascends}
use Rattle.runs.specs.Inner.Runs.{below, number_of}

pub below_cong : (p q : ℕ → Bool) (m : ℕ) → ((j : ℕ) → j < m → p j ≡ q j) → below p m ≡ below q m
unfolding below
below_cong p q zero h = refl
below_cong p q (suc m) h = ap₂ (λ a b. a + one_if b) (below_cong p q m (λ j l. h j (omega arith))) (h m (omega arith))

pub below_le : (p : ℕ → Bool) (m : ℕ) → below p m ≤ m
unfolding below
below_le p zero = omega arith
below_le p (suc m) = go (p m) (below_le p m)
  where
    go : (b : Bool) → below p m ≤ m → below p m + one_if b ≤ suc m
    go true h = omega arith
    go false h = omega arith

-- ---- ranks count members

eqb_yes : (a b : ℕ) → T (eqb a b) → a ≡ b
eqb_yes a b t = eqb→eq a b t

rank_suc : (s : ℕ) (l : List ℕ) → Once l → rank (suc s) l ≡ rank s l + one_if (is_in eqb s l)
unfolding rank is_in
rank_suc s [] o = refl
rank_suc s (x ∷ l) o = go (ℕ_discrete s x) (dec_lt x s) (rank_suc s l o.1)
  where
    go : Dec (s ≡ x) → Dec (x < s) → rank (suc s) l ≡ rank s l + one_if (is_in eqb s l)
        → one_if (ltb x (suc s)) + rank (suc s) l ≡ (one_if (ltb x s) + rank s l) + one_if (eqb s x || is_in eqb s l)
    go (yes e) d r =
        let out : is_in eqb s l ≡ false = is_false (is_in eqb s l) (λ t. o.0 (subst (λ z. z ∈ l) e (in_yes eqb eqb_yes eqb_refl s l t))) in
        let now : rank (suc s) l ≡ rank s l + 0 = r ∙ ap (λ b. rank s l + one_if b) out in
        rw (lt-ltb x (suc s) (omega arith), le-ltb x s (omega arith), eq-eqb s x e) (omega arith)
    go (no e) (yes d) r = rw (lt-ltb x (suc s) (omega arith), lt-ltb x s d, ne_eqb s x e) (omega arith)
    go (no e) (no d) r = rw (le-ltb x (suc s) (omega arith), le-ltb x s (omega arith), ne_eqb s x e) (omega arith)

rank_below : (p : ℕ → Bool) (l : List ℕ) (W : ℕ) → Once l → ((s : ℕ) → s < W → is_in eqb s l ≡ p s) → (s : ℕ) → s ≤ W → rank s l ≡ below p s
unfolding below
rank_below p l W o h zero k = rank_zero l
rank_below p l W o h (suc s) k = rank_suc s l o ∙ ap₂ (λ a b. a + one_if b) (rank_below p l W o h s (omega arith)) (h s (omega arith))

-- ---- the values of f

module _ (W : ℕ) (f : ℕ → ℕ) (le : (i : ℕ) → i < W → f i ≤ i) (twice : (i : ℕ) → i < W → f (f i) ≡ f i) where
  abbrev values : List ℕ
  values = ascending ltb (each f W)

  once : Once values
  once = once_of ltb numbers values (ascends ltb numbers (each f W))

  value_kept : (s : ℕ) → s ∈ values → (s < W) × (f s ≡ s)
  value_kept s m =
      let i = of_each f W s (of_ascending ltb numbers s (each f W) m) in
      let l = le i.at i.below in
      (omega (arith, i.is, i.below), ap f i.is ∙ twice i.at i.below ∙ sym i.is)

  kept_is : (s : ℕ) → s < W → is_in eqb s values ≡ eqb (f s) s
  kept_is s h = same_test (is_in eqb s values) (eqb (f s) s)
      (λ t. eqb_of (value_kept s (in_yes eqb eqb_yes eqb_refl s values t)).1)
      (λ t. in_of eqb eqb_yes eqb_refl s values (in_ascending ltb numbers s (each f W) (in_each f W s s h (sym (eqb→eq (f s) s t)))))

  pub rank_counts : (i : ℕ) → i < W → rank (f i) values ≡ number_of f i
  unfolding number_of
  rank_counts i h = rank_below (λ j. eqb (f j) j) values W once kept_is (f i) (omega (arith, le i h))

  pub length_counts : length values ≡ below (λ j. eqb (f j) j) W
  length_counts = sym (rank_all W values (λ y m. (value_kept y m).0)) ∙ rank_below (λ j. eqb (f j) j) values W once kept_is W (omega arith)
