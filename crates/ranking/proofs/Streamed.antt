-- Candidates one after the other: keeping the k best of what has come so far is one `admit` for each candidate. The k best of a list with
-- one member more are those of its k best with that member. If there are k already, one cut is left: the last dearest of a list with one
-- member more at its end is that member, unless it costs less than the dearest of the others.
use mathlib.Core.Path.{◌≡◌, refl, sym, ap, ◌∙◌}
use mathlib.Core.Bool.{Bool, true, false, cond}
use mathlib.Core.Logic.{◌⊎◌, inl, inr}
use mathlib.Core.List.Memᴰ
use mathlib.Core.List.{List, [], ◌∷◌, ◌++◌, append_assoc, append-nil}
use Prim.Native.Nat.{ℕ, ◌-◌, ◌≤◌, max}
use native.Mathlib.Omega.{arith}
use lib.Dec.{ltb}
use lib.ListN.{length, length-append}
use borrow.Author.Tests.{ltb-true, ltb-false, lt-ltb, le-ltb}
use Rattle.trellis.specs.Lists.{◌∈◌}
use Rattle.trellis.proofs.Bools.{settle}
use Rattle.ranking.specs.Inner.Kept.{all_below, cut, cuts, keep_best, dearest, admit, admit_all}
use Rattle.ranking.proofs.Cut.{below_each, length_kept, kept_all}
use Rattle.ranking.proofs.LeftOut.{keep_append_left}

module _ {A : Type 0} (cost : A → ℕ) where
  -- ---- one candidate

  dearest_le : (c : ℕ) (xs : List A) → ((x : A) → x ∈ xs → cost x ≤ c) → dearest cost xs ≤ c
  unfolding dearest
  dearest_le c [] h = omega arith
  dearest_le c (x ∷ xs) h = let a = h x (Memᴰ.head refl) in let b = dearest_le c xs (λ y m. h y (Memᴰ.tail m)) in omega arith

  dearest_over : (c : ℕ) (xs : List A) → all_below cost c xs ≡ false → c ≤ dearest cost xs
  unfolding dearest all_below
  dearest_over c [] e = let z : ◌≡◌ {A = ℕ} 0 1 = cc in absurd (omega arith)
  dearest_over c (x ∷ xs) e = go (ltb (cost x) c) refl (dearest_over c xs) e
    where
      go : (b : Bool) → ltb (cost x) c ≡ b → (all_below cost c xs ≡ false → c ≤ dearest cost xs) → cond b (all_below cost c xs) false ≡ false
          → c ≤ max (cost x) (dearest cost xs)
      go true t r k = let l = r k in omega arith
      go false t r k = let l = ltb-false (cost x) c t in omega arith

  below_snoc : (c : ℕ) (xs : List A) (x : A) → all_below cost c (xs ++ (x ∷ [])) ≡ cond (all_below cost c xs) (ltb (cost x) c) false
  unfolding all_below
  below_snoc c [] x = go (ltb (cost x) c)
    where
      go : (b : Bool) → cond b true false ≡ b
      go true = refl
      go false = refl
  below_snoc c (y ∷ xs) x = rw (below_snoc c xs x) (go (ltb (cost y) c))
    where
      go : (b : Bool)
          → cond b (cond (all_below cost c xs) (ltb (cost x) c) false) false
          ≡ cond (cond b (all_below cost c xs) false) (ltb (cost x) c) false
      go true = refl
      go false = refl

  -- the last dearest of a list with one more member at its end
  pub cut_snoc : (xs : List A) (x : A) → cut cost (xs ++ (x ∷ [])) ≡ cond (ltb (cost x) (dearest cost xs)) (cut cost xs ++ (x ∷ [])) xs
  unfolding cut dearest all_below
  cut_snoc [] x = go (ltb (cost x) 0) refl
    where
      go : (b : Bool) → ltb (cost x) 0 ≡ b → [] ≡ cond b (x ∷ []) []
      go true t = let l = ltb-true (cost x) 0 t in absurd (omega arith)
      go false t = refl
  cut_snoc (s ∷ xs) x = go (settle (all_below cost (cost s) xs)) (settle (ltb (cost x) (cost s))) (cut_snoc xs x)
    where
      goal : Type 0
      goal =
          cut cost (s ∷ (xs ++ (x ∷ [])))
          ≡ cond (ltb (cost x) (max (cost s) (dearest cost xs))) (cond (all_below cost (cost s) xs) xs (s ∷ cut cost xs) ++ (x ∷ []))
          (s ∷ xs)

      go : (all_below cost (cost s) xs ≡ true) ⊎ (all_below cost (cost s) xs ≡ false)
          → (ltb (cost x) (cost s) ≡ true) ⊎ (ltb (cost x) (cost s) ≡ false)
          → cut cost (xs ++ (x ∷ [])) ≡ cond (ltb (cost x) (dearest cost xs)) (cut cost xs ++ (x ∷ [])) xs → goal
      go (inl t) (inl u) r =
          let l = ltb-true (cost x) (cost s) u in
          let e : ltb (cost x) (max (cost s) (dearest cost xs)) ≡ true = lt-ltb (cost x) (max (cost s) (dearest cost xs)) (omega arith) in
          rw (below_snoc (cost s) xs x, t, u, e)
      go (inl t) (inr u) r =
          let l = ltb-false (cost x) (cost s) u in
          let d = dearest_le (cost s) xs (λ y m. let b = below_each cost (cost s) xs t y m in omega arith) in
          let e : ltb (cost x) (max (cost s) (dearest cost xs)) ≡ false = le-ltb (cost x) (max (cost s) (dearest cost xs)) (omega arith) in
          let f : ltb (cost x) (dearest cost xs) ≡ false = le-ltb (cost x) (dearest cost xs) (omega arith) in
          rw (below_snoc (cost s) xs x, t, u, e, r, f)
      go (inr t) o r =
          let d = dearest_over (cost s) xs t in
          let e : max (cost s) (dearest cost xs) ≡ dearest cost xs = omega arith in
          rw (below_snoc (cost s) xs x, t, e, r) (last (ltb (cost x) (dearest cost xs)))
        where
          last : (b : Bool) → s ∷ cond b (cut cost xs ++ (x ∷ [])) xs ≡ cond b (s ∷ (cut cost xs ++ (x ∷ []))) (s ∷ xs)
          last true = refl
          last false = refl

  one_out : (k : ℕ) (kept : List A) (x : A) → length kept ≡ k → keep_best cost k (kept ++ (x ∷ [])) ≡ cut cost (kept ++ (x ∷ []))
  unfolding keep_best cuts
  one_out k kept x h =
      let e : length (kept ++ (x ∷ [])) - k ≡ 1 = omega (arith, length-append kept (x ∷ [])) in
      ap (λ j. cuts cost j (kept ++ (x ∷ []))) e

  pub keep_snoc : (k : ℕ) (xs : List A) (x : A) → keep_best cost k (xs ++ (x ∷ [])) ≡ admit cost k (keep_best cost k xs) x
  unfolding admit
  keep_snoc k xs x = keep_append_left cost k xs (x ∷ []) ∙ go (settle (ltb (length kept) k))
    where
      kept : List A
      kept = keep_best cost k xs

      go : (ltb (length kept) k ≡ true) ⊎ (ltb (length kept) k ≡ false)
          → keep_best cost k (kept ++ (x ∷ []))
          ≡ cond (ltb (length kept) k) (kept ++ (x ∷ [])) (cond (ltb (cost x) (dearest cost kept)) (cut cost kept ++ (x ∷ [])) kept)
      go (inl t) = rw t (kept_all cost k (kept ++ (x ∷ [])) (omega (arith, length-append kept (x ∷ []), ltb-true (length kept) k t)))
      go (inr t) = rw t (one_out k kept x (omega (arith, length_kept cost k xs, ltb-false (length kept) k t)) ∙ cut_snoc kept x)

  pub keep_admitted : (k : ℕ) (xs ys : List A) → admit_all cost k (keep_best cost k xs) ys ≡ keep_best cost k (xs ++ ys)
  unfolding admit_all
  keep_admitted k xs [] = ap (keep_best cost k) (sym (append-nil xs))
  keep_admitted k xs (y ∷ ys) =
      ap (λ l. admit_all cost k l ys) (sym (keep_snoc k xs y)) ∙ keep_admitted k (xs ++ (y ∷ [])) ys
      ∙ ap (keep_best cost k) (append_assoc xs (y ∷ []) ys)
