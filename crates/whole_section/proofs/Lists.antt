-- Lists mapped and joined, one after another. All by induction along the list.
use mathlib.Core.Path.{◌≡◌, refl, ap, ap₂, ◌∙◌}
use mathlib.Core.Bool.{true, false}
use mathlib.Core.List.Memᴰ
use mathlib.Core.List.{List, [], ◌∷◌, ◌++◌, map, flat_map}
use Prim.Native.Nat.{ℕ, zero, suc, ◌+◌, ◌-◌, ◌≤◌, ◌<◌}
use native.Mathlib.Omega.{arith}
use native.Mathlib.Nat.{add-suc}
use lib.ListN.{length, length-append}
use lib.Dec.{eqb}
use Rattle.trellis.specs.Lists.{◌∈◌, run, keep}
use Rattle.trellis.specs.Own.{Edge}
use Rattle.trellis.specs.Section.{leaving}
use Rattle.trellis.proofs.Lists.{flat_map_append}

module _ {A B : Type 0} where
  pub map-append : (f : A → B) (xs ys : List A) → map f (xs ++ ys) ≡ map f xs ++ map f ys
  map-append f [] ys = refl
  map-append f (x ∷ xs) ys = ap (λ l. f x ∷ l) (map-append f xs ys)

  pub map_same : (f g : A → B) (xs : List A) → ((x : A) → x ∈ xs → f x ≡ g x) → map f xs ≡ map g xs
  map_same f g [] h = refl
  map_same f g (x ∷ xs) h = ap₂ (λ a l. a ∷ l) (h x (Memᴰ.head refl)) (map_same f g xs (λ y m. h y (Memᴰ.tail m)))

  pub flat_map_same : (f g : A → List B) (xs : List A) → ((x : A) → x ∈ xs → f x ≡ g x) → flat_map f xs ≡ flat_map g xs
  unfolding flat_map
  flat_map_same f g [] h = refl
  flat_map_same f g (x ∷ xs) h = ap₂ (λ a l. a ++ l) (h x (Memᴰ.head refl)) (flat_map_same f g xs (λ y m. h y (Memᴰ.tail m)))

  -- one value for each element
  pub flat_map_one : (f : A → B) (xs : List A) → flat_map (λ x. f x ∷ []) xs ≡ map f xs
  unfolding flat_map
  flat_map_one f [] = refl
  flat_map_one f (x ∷ xs) = ap (λ l. f x ∷ l) (flat_map_one f xs)

  -- some for each element: no fewer in all
  pub flat_map_more : (f : A → List B) (xs : List A) → ((x : A) → x ∈ xs → 1 ≤ length (f x)) → length xs ≤ length (flat_map f xs)
  unfolding flat_map
  flat_map_more f [] h = omega arith
  flat_map_more f (x ∷ xs) h =
      let a = h x (Memᴰ.head refl) in
      let b = flat_map_more f xs (λ y m. h y (Memᴰ.tail m)) in
      rw (length-append (f x) (flat_map f xs)) (omega arith)

module _ {A B C : Type 0} where
  pub map_flat_map : (f : B → C) (g : A → List B) (xs : List A) → map f (flat_map g xs) ≡ flat_map (λ x. map f (g x)) xs
  unfolding flat_map
  map_flat_map f g [] = refl
  map_flat_map f g (x ∷ xs) = map-append f (g x) (flat_map g xs) ∙ ap (λ l. map f (g x) ++ l) (map_flat_map f g xs)

  pub flat_map_flat_map : (f : B → List C) (g : A → List B) (xs : List A) → flat_map f (flat_map g xs) ≡ flat_map (λ x. flat_map f (g x)) xs
  unfolding flat_map
  flat_map_flat_map f g [] = refl
  flat_map_flat_map f g (x ∷ xs) = flat_map_append f (g x) (flat_map g xs) ∙ ap (λ l. flat_map f (g x) ++ l) (flat_map_flat_map f g xs)

-- ---- runs

pub run_shift : {A : Type 0} (f : ℕ → A) (a at count : ℕ) → run (λ k. f (a + k)) at count ≡ run f (a + at) count
unfolding run
run_shift f a at zero = refl
run_shift f a at (suc count) = ap (λ l. f (a + at) ∷ l) (run_shift f a (suc at) count ∙ ap (λ k. run f k count) (add-suc a at))

-- the run from a place on, one element at a time
pub run_cons : {A : Type 0} (f : ℕ → A) (k count : ℕ) → k < count → run f k (count - k) ≡ f k ∷ run f (suc k) (count - suc k)
unfolding run
run_cons f k count h = let e : count - k ≡ suc (count - suc k) = omega arith in rw e

pub run_none : {A : Type 0} (f : ℕ → A) (k count : ℕ) → count ≤ k → run f k (count - k) ≡ []
unfolding run
run_none f k count h = let e : count - k ≡ 0 = omega arith in rw e

-- ---- edges that leave a vertex

pub leaving_yes : (v : ℕ) (e : Edge) (es : List Edge) → eqb e.from v ≡ true → leaving v (e ∷ es) ≡ e ∷ leaving v es
unfolding leaving keep
leaving_yes v e es h = rw h

pub leaving_no : (v : ℕ) (e : Edge) (es : List Edge) → eqb e.from v ≡ false → leaving v (e ∷ es) ≡ leaving v es
unfolding leaving keep
leaving_no v e es h = rw h

pub leaving_none : (v : ℕ) → leaving v [] ≡ []
unfolding leaving keep
leaving_none v = refl
