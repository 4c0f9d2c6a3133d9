-- Lists mapped, joined and kept, and how many members pass a test. All by induction along the list.
use mathlib.Core.Path.{◌≡◌, refl, sym, ap, ap₂, ◌∙◌}
use mathlib.Core.Bool.{Bool, true, false, cond}
use mathlib.Core.Logic.{⊎_elim}
use mathlib.Core.List.Memᴰ
use mathlib.Core.List.{List, [], ◌∷◌, ◌++◌, map, flat_map}
use Prim.Native.Nat.{ℕ, zero, suc, ◌+◌, ◌≤◌}
use native.Mathlib.Omega.{arith}
use native.Mathlib.Nat.{add_assoc}
use lib.ListN.{length, take, length-append}
use Rattle.trellis.specs.Lists.{◌∈◌, keep, one_if}
use Rattle.trellis.proofs.Bools.{one_if_le}
use Rattle.trellis.proofs.Lists.{flat_map_append}
use Rattle.paths.proofs.Ordered.{keep_append}

module _ {A B : Type 0} where
  pub map-append : (f : A → B) (xs ys : List A) → map f (xs ++ ys) ≡ map f xs ++ map f ys
  map-append f [] ys = refl
  map-append f (x ∷ xs) ys = ap (λ l. f x ∷ l) (map-append f xs ys)

  pub map_same : (f g : A → B) (xs : List A) → ((x : A) → x ∈ xs → f x ≡ g x) → map f xs ≡ map g xs
  map_same f g [] h = refl
  map_same f g (x ∷ xs) h = ap₂ (λ a l. a ∷ l) (h x (Memᴰ.head refl)) (map_same f g xs (λ y m. h y (Memᴰ.tail m)))

  pub flat_map_same : (f g : A → List B) (xs : List A) → ((x : A) → x ∈ xs → f x ≡ g x) → flat_map f xs ≡ flat_map g xs
  unfolding flat_map
  flat_map_same f g [] h = refl
  flat_map_same f g (x ∷ xs) h = ap₂ (λ a l. a ++ l) (h x (Memᴰ.head refl)) (flat_map_same f g xs (λ y m. h y (Memᴰ.tail m)))

  pub flat_map_one : (f : A → B) (xs : List A) → flat_map (λ x. f x ∷ []) xs ≡ map f xs
  unfolding flat_map
  flat_map_one f [] = refl
  flat_map_one f (x ∷ xs) = ap (λ l. f x ∷ l) (flat_map_one f xs)

  pub flat_map_few : (f : A → List B) (xs : List A) → ((x : A) → length (f x) ≤ 1) → length (flat_map f xs) ≤ length xs
  unfolding flat_map
  flat_map_few f [] h = omega arith
  flat_map_few f (x ∷ xs) h = let i = flat_map_few f xs h in omega (arith, h x, length-append (f x) (flat_map f xs))

  -- members that give nothing may be left out
  pub flat_map_keep : (test : A → Bool) (f : A → List B) (xs : List A) → ((x : A) → x ∈ xs → test x ≡ false → f x ≡ [])
      → flat_map f (keep test xs) ≡ flat_map f xs
  unfolding flat_map keep
  flat_map_keep test f [] h = refl
  flat_map_keep test f (x ∷ xs) h = go (test x) refl (flat_map_keep test f xs (λ y m. h y (Memᴰ.tail m)))
    where
      go : (b : Bool) → test x ≡ b → flat_map f (keep test xs) ≡ flat_map f xs
          → flat_map f (cond b (x ∷ keep test xs) (keep test xs)) ≡ f x ++ flat_map f xs
      go true e r = ap (λ l. f x ++ l) r
      go false e r = r ∙ ap (λ l. l ++ flat_map f xs) (sym (h x (Memᴰ.head refl) e))

  pub keep_flat_map : (test : B → Bool) (f : A → List B) (xs : List A) → keep test (flat_map f xs) ≡ flat_map (λ x. keep test (f x)) xs
  unfolding flat_map keep
  keep_flat_map test f [] = refl
  keep_flat_map test f (x ∷ xs) = keep_append test (f x) (flat_map f xs) ∙ ap (λ l. keep test (f x) ++ l) (keep_flat_map test f xs)

  pub keep_map : (test : B → Bool) (f : A → B) (xs : List A) → keep test (map f xs) ≡ map f (keep (λ x. test (f x)) xs)
  unfolding keep
  keep_map test f [] = refl
  keep_map test f (x ∷ xs) = go (test (f x)) (keep_map test f xs)
    where
      go : (b : Bool) → keep test (map f xs) ≡ map f (keep (λ x. test (f x)) xs)
          → cond b (f x ∷ keep test (map f xs)) (keep test (map f xs))
          ≡ map f (cond b (x ∷ keep (λ x. test (f x)) xs) (keep (λ x. test (f x)) xs))
      go true r = ap (λ l. f x ∷ l) r
      go false r = r

module _ {A : Type 0} where
  pub keep_same : (f g : A → Bool) (xs : List A) → ((x : A) → x ∈ xs → f x ≡ g x) → keep f xs ≡ keep g xs
  unfolding keep
  keep_same f g [] h = refl
  keep_same f g (x ∷ xs) h =
      ap₂ (λ b l. cond b (x ∷ l) l) (h x (Memᴰ.head refl)) (keep_same f g xs (λ y m. h y (Memᴰ.tail m)))

  pub take_member : (k : ℕ) (xs : List A) (x : A) → x ∈ take k xs → x ∈ xs
  take_member zero xs x m = absurd (Memᴰ.not-nil m)
  take_member (suc k) [] x m = m
  take_member (suc k) (y ∷ xs) x m = ⊎_elim (λ e. Memᴰ.head e) (λ l. Memᴰ.tail (take_member k xs x l)) (Memᴰ.cases_cons m)

module _ {A B C : Type 0} where
  pub map-map : (f : B → C) (g : A → B) (xs : List A) → map f (map g xs) ≡ map (λ x. f (g x)) xs
  map-map f g [] = refl
  map-map f g (x ∷ xs) = ap (λ l. f (g x) ∷ l) (map-map f g xs)

  pub map_flat_map : (f : B → C) (g : A → List B) (xs : List A) → map f (flat_map g xs) ≡ flat_map (λ x. map f (g x)) xs
  unfolding flat_map
  map_flat_map f g [] = refl
  map_flat_map f g (x ∷ xs) = map-append f (g x) (flat_map g xs) ∙ ap (λ l. map f (g x) ++ l) (map_flat_map f g xs)

  pub flat_map_flat_map : (f : B → List C) (g : A → List B) (xs : List A) → flat_map f (flat_map g xs) ≡ flat_map (λ x. flat_map f (g x)) xs
  unfolding flat_map
  flat_map_flat_map f g [] = refl
  flat_map_flat_map f g (x ∷ xs) = flat_map_append f (g x) (flat_map g xs) ∙ ap (λ l. flat_map f (g x) ++ l) (flat_map_flat_map f g xs)

-- ---- how many members pass a test

unfoldable pub count : {A : Type 0} → (A → Bool) → List A → ℕ
count test [] = 0
count test (x ∷ xs) = one_if (test x) + count test xs

module _ {A : Type 0} (test : A → Bool) where
  pub count_append : (xs ys : List A) → count test (xs ++ ys) ≡ count test xs + count test ys
  unfolding count
  count_append [] ys = omega arith
  count_append (x ∷ xs) ys =
      ap (λ n. one_if (test x) + n) (count_append xs ys) ∙ sym (add_assoc (one_if (test x)) (count test xs) (count test ys))

  pub count_le : (xs : List A) → count test xs ≤ length xs
  unfolding count
  count_le [] = omega arith
  count_le (x ∷ xs) = let h = one_if_le (test x) in let i = count_le xs in omega arith

  pub count_all : (xs : List A) → ((x : A) → x ∈ xs → test x ≡ true) → count test xs ≡ length xs
  unfolding count
  count_all [] h = refl
  count_all (x ∷ xs) h = rw (h x (Memᴰ.head refl), count_all xs (λ y m. h y (Memᴰ.tail m))) (omega arith)

  pub count_some : (xs : List A) (x : A) → x ∈ xs → test x ≡ true → 1 ≤ count test xs
  unfolding count
  count_some [] x m e = absurd (Memᴰ.not-nil m)
  count_some (y ∷ xs) x m e = ⊎_elim here (λ k. let i = count_some xs x k e in omega arith) (Memᴰ.cases_cons m)
    where
      here : x ≡ y → 1 ≤ one_if (test y) + count test xs
      here k = rw (sym (ap test k) ∙ e) (omega arith)

-- ---- two tests, and a map that changes nothing

pub keep_keep : {A : Type 0} (p q : A → Bool) (xs : List A) → keep p (keep q xs) ≡ keep (λ x. cond (q x) (p x) false) xs
unfolding keep
keep_keep p q [] = refl
keep_keep {A} p q (x ∷ xs) = go (q x) (keep_keep p q xs)
  where
    go : (b : Bool) → keep p (keep q xs) ≡ keep (λ x. cond (q x) (p x) false) xs
        → keep p (cond b (x ∷ keep q xs) (keep q xs))
        ≡ cond (cond b (p x) false) (x ∷ keep (λ x. cond (q x) (p x) false) xs) (keep (λ x. cond (q x) (p x) false) xs)
    go true r = ap (λ l. cond (p x) (x ∷ l) l) r
    go false r = r

pub map_itself : {A : Type 0} (f : A → A) (xs : List A) → ((x : A) → f x ≡ x) → map f xs ≡ xs
map_itself f [] h = refl
map_itself f (x ∷ xs) h = ap₂ (λ a l. a ∷ l) (h x) (map_itself f xs h)
