-- The k best of a list, left in the order of the list: the last dearest member is taken out until k are left. A program keeps them so, one
-- candidate after the other: where k are kept, a cheaper one drives out the last dearest. Everything here computes.
use Rattle.std.specs.Prelude.{Bool, true, false, cond, List, [], ◌∷◌, ◌++◌, ℕ, zero, suc, ◌-◌, max, ltb, length}
use Rattle.trellis.specs.Lists.{keep}

module _ {A : Type 0} (cost : A → ℕ) where
  unfoldable pub all_below : ℕ → List A → Bool
  all_below c [] = true
  all_below c (x ∷ xs) = cond (ltb (cost x) c) (all_below c xs) false

  -- without the last dearest member
  unfoldable pub cut : List A → List A
  cut [] = []
  cut (x ∷ xs) = cond (all_below (cost x) xs) xs (x ∷ cut xs)

  unfoldable pub cuts : ℕ → List A → List A
  cuts zero xs = xs
  cuts (suc m) xs = cuts m (cut xs)

  -- the k best, in the order of the list
  unfoldable pub keep_best : ℕ → List A → List A
  keep_best k xs = cuts (length xs - k) xs

  -- the greatest cost
  unfoldable pub dearest : List A → ℕ
  dearest [] = 0
  dearest (x ∷ xs) = max (cost x) (dearest xs)

  -- one more candidate
  unfoldable pub admit : ℕ → List A → A → List A
  admit k kept x = cond (ltb (length kept) k) (kept ++ (x ∷ [])) (cond (ltb (cost x) (dearest kept)) (cut kept ++ (x ∷ [])) kept)

  -- one after the other
  unfoldable pub admit_all : ℕ → List A → List A → List A
  admit_all k kept [] = kept
  admit_all k kept (x ∷ xs) = admit_all k (admit k kept x) xs

  -- those that cost less than top, which stands for what cannot be had
  unfoldable pub live : ℕ → List A → List A
  live top xs = keep (λ x. ltb (cost x) top) xs

  unfoldable pub keep_live : ℕ → ℕ → List A → List A
  keep_live top k xs = keep_best k (live top xs)
