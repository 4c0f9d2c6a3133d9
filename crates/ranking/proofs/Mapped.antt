-- Keeping and sorting look at members only by their cost: they go through a map, and equal costs give equal lists. By induction along the
-- definitions.
use mathlib.Core.Path.{◌≡◌, refl, ap, ap₂, ◌∙◌}
use mathlib.Core.Bool.{Bool, true, false, cond}
use mathlib.Core.List.Memᴰ
use mathlib.Core.List.{List, [], ◌∷◌, map}
use Prim.Native.Nat.{ℕ, zero, suc, ◌-◌}
use lib.Dec.{ltb, leb}
use lib.ListN.{length, length-map, take}
use Rattle.trellis.specs.Lists.{◌∈◌}
use Rattle.ranking.specs.Several.{insert_by, sort_by, several_best}
use Rattle.ranking.specs.Inner.Kept.{all_below, cut, cuts, keep_best, live, keep_live}
use Rattle.ranking.proofs.Lists.{keep_map}
use Rattle.ranking.proofs.Cut.{cut_member}
use Rattle.ranking.proofs.Sorted.{of_sort}

module _ {A B : Type 0} (cost : B → ℕ) (h : A → B) where
  -- what a member's image costs
  abbrev through : A → ℕ
  through x = cost (h x)

  below_map : (c : ℕ) (xs : List A) → all_below cost c (map h xs) ≡ all_below through c xs
  unfolding all_below
  below_map c [] = refl
  below_map c (x ∷ xs) = ap (λ b. cond (ltb (cost (h x)) c) b false) (below_map c xs)

  cut_map : (xs : List A) → cut cost (map h xs) ≡ map h (cut through xs)
  unfolding cut
  cut_map [] = refl
  cut_map (x ∷ xs) = rw (below_map (cost (h x)) xs) (go (all_below through (cost (h x)) xs) (cut_map xs))
    where
      go : (b : Bool) → cut cost (map h xs) ≡ map h (cut through xs)
          → cond b (map h xs) (h x ∷ cut cost (map h xs)) ≡ map h (cond b xs (x ∷ cut through xs))
      go true r = refl
      go false r = ap (λ l. h x ∷ l) r

  cuts_map : (m : ℕ) (xs : List A) → cuts cost m (map h xs) ≡ map h (cuts through m xs)
  unfolding cuts
  cuts_map zero xs = refl
  cuts_map (suc m) xs = ap (cuts cost m) (cut_map xs) ∙ cuts_map m (cut through xs)

  pub kept_map : (k : ℕ) (xs : List A) → keep_best cost k (map h xs) ≡ map h (keep_best through k xs)
  unfolding keep_best
  kept_map k xs = ap (λ n. cuts cost (n - k) (map h xs)) (length-map xs h) ∙ cuts_map (length xs - k) xs

  pub live_map : (top k : ℕ) (xs : List A) → keep_live cost top k (map h xs) ≡ map h (keep_live through top k xs)
  unfolding keep_live live
  live_map top k xs = ap (keep_best cost k) (keep_map (λ x. ltb (cost x) top) h xs) ∙ kept_map k (live through top xs)

  insert_map : (x : A) (ys : List A) → insert_by cost (h x) (map h ys) ≡ map h (insert_by through x ys)
  unfolding insert_by
  insert_map x [] = refl
  insert_map x (y ∷ ys) = go (leb (cost (h x)) (cost (h y))) (insert_map x ys)
    where
      go : (b : Bool) → insert_by cost (h x) (map h ys) ≡ map h (insert_by through x ys)
          → cond b (h x ∷ (h y ∷ map h ys)) (h y ∷ insert_by cost (h x) (map h ys))
          ≡ map h (cond b (x ∷ (y ∷ ys)) (y ∷ insert_by through x ys))
      go true r = refl
      go false r = ap (λ l. h y ∷ l) r

  pub sort_map : (xs : List A) → sort_by cost (map h xs) ≡ map h (sort_by through xs)
  unfolding sort_by
  sort_map [] = refl
  sort_map (x ∷ xs) = ap (insert_by cost (h x)) (sort_map xs) ∙ insert_map x (sort_by through xs)

  take_map : (k : ℕ) (xs : List A) → take k (map h xs) ≡ map h (take k xs)
  take_map zero xs = refl
  take_map (suc k) [] = refl
  take_map (suc k) (x ∷ xs) = ap (λ l. h x ∷ l) (take_map k xs)

  pub best_map : (k : ℕ) (xs : List A) → several_best cost k (map h xs) ≡ map h (several_best through k xs)
  unfolding several_best
  best_map k xs = ap (take k) (sort_map xs) ∙ take_map k (sort_by through xs)

module _ {A : Type 0} (f g : A → ℕ) where
  -- the costs agree on a list's members
  abbrev pub SameOn : List A → Type 0
  SameOn xs = (x : A) → x ∈ xs → f x ≡ g x

  below_same : (c : ℕ) (xs : List A) → SameOn xs → all_below f c xs ≡ all_below g c xs
  unfolding all_below
  below_same c [] s = refl
  below_same c (x ∷ xs) s =
      ap₂ (λ n b. cond (ltb n c) b false) (s x (Memᴰ.head refl)) (below_same c xs (λ y m. s y (Memᴰ.tail m)))

  cut_same : (xs : List A) → SameOn xs → cut f xs ≡ cut g xs
  unfolding cut
  cut_same [] s = refl
  cut_same (x ∷ xs) s =
      ap₂ (λ b l. cond b xs (x ∷ l))
      (below_same (f x) xs (λ y m. s y (Memᴰ.tail m)) ∙ ap (λ c. all_below g c xs) (s x (Memᴰ.head refl)))
      (cut_same xs (λ y m. s y (Memᴰ.tail m)))

  cuts_same : (m : ℕ) (xs : List A) → SameOn xs → cuts f m xs ≡ cuts g m xs
  unfolding cuts
  cuts_same zero xs s = refl
  cuts_same (suc m) xs s = cuts_same m (cut f xs) (λ y k. s y (cut_member f xs y k)) ∙ ap (cuts g m) (cut_same xs s)

  pub kept_same : (k : ℕ) (xs : List A) → SameOn xs → keep_best f k xs ≡ keep_best g k xs
  unfolding keep_best
  kept_same k xs s = cuts_same (length xs - k) xs s

  insert_same : (x : A) (ys : List A) → f x ≡ g x → SameOn ys → insert_by f x ys ≡ insert_by g x ys
  unfolding insert_by
  insert_same x [] e s = refl
  insert_same x (y ∷ ys) e s =
      ap₂ (λ b l. cond b (x ∷ (y ∷ ys)) (y ∷ l)) (ap₂ leb e (s y (Memᴰ.head refl)))
      (insert_same x ys e (λ z m. s z (Memᴰ.tail m)))

  pub sort_same : (xs : List A) → SameOn xs → sort_by f xs ≡ sort_by g xs
  unfolding sort_by
  sort_same [] s = refl
  sort_same (x ∷ xs) s =
      insert_same x (sort_by f xs) (s x (Memᴰ.head refl)) (λ y m. s y (Memᴰ.tail (of_sort f xs y m)))
      ∙ ap (insert_by g x) (sort_same xs (λ y m. s y (Memᴰ.tail m)))

  pub best_same : (k : ℕ) (xs : List A) → SameOn xs → several_best f k xs ≡ several_best g k xs
  unfolding several_best
  best_same k xs s = ap (take k) (sort_same xs s)
