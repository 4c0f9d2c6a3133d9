-- Where k members or more cost no more than a limit, those above it may be left out beforehand: each of them is behind all that are within
-- the limit, wherever they stand, for it costs more. They are left out one after the other along the list; what is passed and stays is
-- within the limit.
use mathlib.Core.Path.{◌≡◌, refl, sym, ap, subst, ◌∙◌}
use mathlib.Core.Bool.{true, false, cond}
use mathlib.Core.Logic.{◌⊎◌, inl, inr, ⊎_elim}
use mathlib.Core.List.Memᴰ
use mathlib.Core.List.{List, [], ◌∷◌, ◌++◌, append_assoc}
use Prim.Native.Nat.{ℕ, ◌+◌, ◌≤◌, ◌<◌}
use native.Mathlib.Omega.{arith}
use lib.Dec.{ltb, leb}
use lib.ListN.{length, length-append}
use borrow.Author.Tests.{leb-true, leb-false, lt-ltb, le-leb}
use Rattle.trellis.specs.Lists.{◌∈◌, keep, one_if}
use Rattle.trellis.proofs.Bools.{settle}
use Rattle.ranking.specs.Inner.Kept.{keep_best}
use Rattle.ranking.proofs.Lists.{count, count_all}
use Rattle.ranking.proofs.LeftOut.{up_to, under, keep_without}

module _ {A : Type 0} (cost : A → ℕ) (limit : ℕ) where
  -- those within the limit cost less than what is above it
  within_under : (c : ℕ) → limit < c → (ys : List A) → length (keep (up_to cost limit) ys) ≤ count (under cost c) ys
  unfolding keep count
  within_under c h [] = omega arith
  within_under c h (y ∷ ys) = go (settle (leb (cost y) limit)) (within_under c h ys)
    where
      go : (leb (cost y) limit ≡ true) ⊎ (leb (cost y) limit ≡ false) → length (keep (up_to cost limit) ys) ≤ count (under cost c) ys
          → length (cond (leb (cost y) limit) (y ∷ keep (up_to cost limit) ys) (keep (up_to cost limit) ys))
          ≤ one_if (ltb (cost y) c) + count (under cost c) ys
      go (inl e) r = let l = leb-true (cost y) limit e in rw (e, lt-ltb (cost y) c (omega arith)) (omega arith)
      go (inr e) r = rw e (omega arith)

  -- with what is passed in front
  within_from : (k : ℕ) (front ys : List A) → ((y : A) → y ∈ front → cost y ≤ limit)
      → k ≤ length front + length (keep (up_to cost limit) ys)
      → keep_best cost k (front ++ ys) ≡ keep_best cost k (front ++ keep (up_to cost limit) ys)
  unfolding keep
  within_from k front [] low h = refl
  within_from k front (z ∷ ys) low h =
      go (settle (leb (cost z) limit)) (within_from k (front ++ (z ∷ [])) ys) (within_from k front ys low) h
    where
      passed : cost z ≤ limit → (y : A) → y ∈ (front ++ (z ∷ [])) → cost y ≤ limit
      passed l y m = ⊎_elim (low y) last (Memᴰ.append_cases front m)
        where
          last : y ∈ (z ∷ []) → cost y ≤ limit
          last n = ⊎_elim (λ e. subst (λ x. cost x ≤ limit) (sym e) l) (λ o. absurd (Memᴰ.not-nil o)) (Memᴰ.cases_cons n)

      go : (leb (cost z) limit ≡ true) ⊎ (leb (cost z) limit ≡ false)
          → (((y : A) → y ∈ (front ++ (z ∷ [])) → cost y ≤ limit)
          → k ≤ length (front ++ (z ∷ [])) + length (keep (up_to cost limit) ys)
          → keep_best cost k ((front ++ (z ∷ [])) ++ ys) ≡ keep_best cost k ((front ++ (z ∷ [])) ++ keep (up_to cost limit) ys))
          → (k ≤ length front + length (keep (up_to cost limit) ys)
          → keep_best cost k (front ++ ys) ≡ keep_best cost k (front ++ keep (up_to cost limit) ys))
          → k ≤ length front + length (cond (leb (cost z) limit) (z ∷ keep (up_to cost limit) ys) (keep (up_to cost limit) ys))
          → keep_best cost k (front ++ (z ∷ ys))
          ≡ keep_best cost k (front ++ cond (leb (cost z) limit) (z ∷ keep (up_to cost limit) ys) (keep (up_to cost limit) ys))
      go (inl e) stays out = rw e (λ n.
          ap (keep_best cost k) (sym (append_assoc front (z ∷ []) ys))
          ∙ stays (passed (leb-true (cost z) limit e)) (omega (arith, length-append front (z ∷ [])))
          ∙ ap (keep_best cost k) (append_assoc front (z ∷ []) (keep (up_to cost limit) ys)))
      go (inr e) stays out = rw e (λ n.
          let l = leb-false (cost z) limit e in
          let a = count_all (up_to cost (cost z)) front (λ y m. le-leb (cost y) (cost z) (omega (arith, low y m))) in
          let b = within_under (cost z) (omega arith) ys in
          keep_without cost k front z ys (omega arith) ∙ out (omega arith))

  pub keep_within : (k : ℕ) (ys : List A) → k ≤ length (keep (up_to cost limit) ys)
      → keep_best cost k ys ≡ keep_best cost k (keep (up_to cost limit) ys)
  keep_within k ys h = within_from k [] ys (λ y m. absurd (Memᴰ.not-nil m)) (omega arith)
