-- Laws of lists: what stands in a run of values, what `first` finds, what `is_in` tells.
-- All by induction along the list or the run.
use mathlib.Core.Path.{◌≡◌, refl, sym, ap, ap₂, subst, ◌∙◌}
use mathlib.Core.Bool.{Bool, true, false, cond, ◌||◌}
use mathlib.Core.Logic.{◌⊎◌, inl, inr}
use mathlib.Core.List.Memᴰ
use mathlib.Core.List.{List, [], ◌∷◌, ◌++◌, map, flat_map, append_assoc}
use Prim.Native.Nat.{ℕ, zero, suc, ◌+◌, ◌-◌, ◌*◌, ◌≤◌, ◌<◌}
use native.Mathlib.Omega.{arith}
use native.Mathlib.Nat.{not-suc-le-zero, add-zero, add-suc, suc-add, zero-add, mul-zero, mul-add, le_antisymm, le_of_eq}
use native.Mathlib.Decide.{dec_lt}
use lib.ListN.{length, get_or, take, drop, length-append, length-drop}
use lib.Seq.{take_all, ext_get_or}
use lib.Dec.{T}
use borrow.Author.Tests.{lt-ltb, le-ltb}
use Rattle.trellis.specs.Lists.{◌∈◌, run, each, sum, first, is_in, rank}
use Rattle.trellis.proofs.Bools.{holds, fails}

-- ---- the rest of a list, as the code lends it

pub rest_of : {A : Type 0} (l : List A) (at : ℕ) → take (length l - at) (drop at l) ≡ drop at l
rest_of l at = take_all (length l - at) (drop at l) (le_of_eq (length-drop at l))

-- ---- runs

pub length_run : {A : Type 0} (f : ℕ → A) (at count : ℕ) → length (run f at count) ≡ count
unfolding run
length_run f at zero = refl
length_run f at (suc count) = ap suc (length_run f (suc at) count)

pub run_at : {A : Type 0} (f : ℕ → A) (at count k : ℕ) (d : A) → k < count → get_or (run f at count) k d ≡ f (at + k)
unfolding run
run_at f at zero k d h = absurd (not-suc-le-zero h)
run_at f at (suc count) zero d h = ap f (sym (add-zero at))
run_at f at (suc count) (suc k) d h = run_at f (suc at) count k d (omega arith) ∙ ap f (rw (suc-add at k, add-suc at k))

pub each_at : {A : Type 0} (f : ℕ → A) (count k : ℕ) (d : A) → k < count → get_or (each f count) k d ≡ f k
each_at f count k d h = run_at f 0 count k d h ∙ ap f (zero-add k)

-- a list is the run of its elements
pub run_whole : (l : List ℕ) → each (λ i. get_or l i 0) (length l) ≡ l
run_whole l =
    let long = length_run (λ i. get_or l i 0) 0 (length l) in
    ext_get_or 0 (each (λ i. get_or l i 0) (length l)) l long (λ k h. each_at (λ i. get_or l i 0) (length l) k 0 (subst (λ m. k < m) long h))

-- values that agree, from wherever each run begins
pub run_shift : {A : Type 0} (f g : ℕ → A) (at to count : ℕ) → ((k : ℕ) → k < count → f (at + k) ≡ g (to + k))
    → run f at count ≡ run g to count
unfolding run
run_shift f g at to zero h = refl
run_shift f g at to (suc count) h =
    ap₂ (λ x l. x ∷ l) (ap f (sym (add-zero at)) ∙ h 0 (omega arith) ∙ ap g (add-zero to))
    (run_shift f g (suc at) (suc to) count
    (λ k l. ap f (rw (suc-add at k, add-suc at k)) ∙ h (suc k) (omega arith) ∙ ap g (rw (suc-add to k, add-suc to k))))

pub run_same : {A : Type 0} (f g : ℕ → A) (at count : ℕ) → ((k : ℕ) → k < count → f (at + k) ≡ g (at + k)) → run f at count ≡ run g at count
run_same f g at count h = run_shift f g at at count h

pub each_same : {A : Type 0} (f g : ℕ → A) (count more : ℕ) → count ≡ more → ((k : ℕ) → k < count → f k ≡ g k) → each f count ≡ each g more
each_same f g count more e h = run_same f g 0 count (λ k l. ap f (zero-add k) ∙ h k l ∙ sym (ap g (zero-add k))) ∙ ap (each g) e

-- one value more, at the end
pub run_append : {A : Type 0} (f : ℕ → A) (at m n : ℕ) → run f at m ++ run f (at + m) n ≡ run f at (m + n)
unfolding run
run_append f at zero n = ap₂ (λ i k. run f i k) (add-zero at) (sym (zero-add n))
run_append f at (suc m) n = rw (add-suc at m, ← suc-add at m, suc-add m n) (ap (λ l. f at ∷ l) (run_append f (suc at) m n))

pub map_run : {A B : Type 0} (f : A → B) (g : ℕ → A) (at count : ℕ) → map f (run g at count) ≡ run (λ i. f (g i)) at count
unfolding run
map_run f g at zero = refl
map_run f g at (suc count) = ap (λ l. f (g at) ∷ l) (map_run f g (suc at) count)

pub run_snoc : {A : Type 0} (f : ℕ → A) (at count : ℕ) → run f at (suc count) ≡ run f at count ++ (f (at + count) ∷ [])
unfolding run
run_snoc f at zero = ap (λ k. f k ∷ []) (sym (add-zero at))
run_snoc f at (suc count) =
    ap (λ l. f at ∷ l) (run_snoc f (suc at) count ∙ ap (λ k. run f (suc at) count ++ (f k ∷ [])) (rw (suc-add at count, add-suc at count)))

-- a value of f below a count
pub record From {A : Type 0} (f : ℕ → A) (count : ℕ) (x : A) : Type 0 where
  pub at : ℕ
  pub below : at < count
  pub is : x ≡ f at

pub in_run : {A : Type 0} (f : ℕ → A) (at count k : ℕ) (x : A) → k < count → x ≡ f (at + k) → x ∈ run f at count
unfolding run
in_run f at zero k x h e = absurd (not-suc-le-zero h)
in_run f at (suc count) zero x h e = Memᴰ.head (e ∙ ap f (add-zero at))
in_run f at (suc count) (suc k) x h e =
    Memᴰ.tail (in_run f (suc at) count k x (omega arith) (e ∙ ap f (rw (suc-add at k, add-suc at k))))

pub in_each : {A : Type 0} (f : ℕ → A) (count k : ℕ) (x : A) → k < count → x ≡ f k → x ∈ each f count
in_each f count k x h e = in_run f 0 count k x h (e ∙ ap f (sym (zero-add k)))

pub of_run : {A : Type 0} (f : ℕ → A) (at count : ℕ) (x : A) → x ∈ run f at count → From (λ k. f (at + k)) count x
unfolding run
of_run f at zero x m = absurd (Memᴰ.not-nil m)
of_run {A} f at (suc count) x m = go (of_run f (suc at) count x) (Memᴰ.cases_cons m)
  where
    go : (x ∈ run f (suc at) count → From (λ k. f (suc at + k)) count x) → (x ≡ f at) ⊎ (x ∈ run f (suc at) count)
        → From (λ k. f (at + k)) (suc count) x
    go r (inl e) = record { at = 0; below = omega arith; is = e ∙ ap f (sym (add-zero at)) }
    go r (inr u) = let w = r u in
        record { at = suc w.at; below = omega arith; is = w.is ∙ ap f (rw (suc-add at w.at, add-suc at w.at)) }

pub of_each : {A : Type 0} (f : ℕ → A) (count : ℕ) (x : A) → x ∈ each f count → From f count x
of_each f count x m = let w = of_run f 0 count x m in record { at = w.at; below = w.below; is = w.is ∙ ap f (zero-add w.at) }

-- ---- lists put together

pub flat_map_append : {A B : Type 0} (f : A → List B) (xs ys : List A) → flat_map f (xs ++ ys) ≡ flat_map f xs ++ flat_map f ys
unfolding flat_map
flat_map_append f [] ys = refl
flat_map_append f (x ∷ xs) ys = ap (λ l. f x ++ l) (flat_map_append f xs ys) ∙ sym (append_assoc (f x) (flat_map f xs) (flat_map f ys))

-- ---- places

-- an element's place in its list
pub record Place {A : Type 0} (d : A) (l : List A) (x : A) : Type 0 where
  pub at : ℕ
  pub below : at < length l
  pub is : get_or l at d ≡ x

pub in_place : {A : Type 0} (d : A) (l : List A) (i : ℕ) → i < length l → get_or l i d ∈ l
in_place d [] i h = absurd (not-suc-le-zero h)
in_place d (x ∷ l) zero h = Memᴰ.head refl
in_place d (x ∷ l) (suc i) h = Memᴰ.tail (in_place d l i (omega arith))

pub place_of : {A : Type 0} (d : A) (l : List A) (x : A) → x ∈ l → Place d l x
place_of d [] x m = absurd (Memᴰ.not-nil m)
place_of {A} d (y ∷ l) x m = go (place_of d l x) (Memᴰ.cases_cons m)
  where
    go : (x ∈ l → Place d l x) → (x ≡ y) ⊎ (x ∈ l) → Place d (y ∷ l) x
    go r (inl e) = record { at = 0; below = omega arith; is = sym e }
    go r (inr u) = let w = r u in record { at = suc w.at; below = omega arith; is = w.is }

-- ---- membership by a test

module _ {A : Type 0} (eq : A → A → Bool) (ok : (x y : A) → T (eq x y) → x ≡ y) (rf : (x : A) → T (eq x x)) where
  pub in_yes : (x : A) (l : List A) → T (is_in eq x l) → x ∈ l
  unfolding is_in
  in_yes x [] t = absurd t
  in_yes x (y ∷ l) t = go (eq x y) (ok x y) (in_yes x l) t
    where
      go : (b : Bool) → (T b → x ≡ y) → (T (is_in eq x l) → x ∈ l) → T (b || is_in eq x l) → x ∈ y ∷ l
      go true h r u = Memᴰ.head (h tt)
      go false h r u = Memᴰ.tail (r u)

  pub in_of : (x : A) (l : List A) → x ∈ l → T (is_in eq x l)
  unfolding is_in
  in_of x [] m = absurd (Memᴰ.not-nil m)
  in_of x (y ∷ l) m = go (eq x y) (λ e. subst (λ z. T (eq x z)) e (rf x)) (in_of x l) (Memᴰ.cases_cons m)
    where
      go : (b : Bool) → (x ≡ y → T b) → (x ∈ l → T (is_in eq x l)) → (x ≡ y) ⊎ (x ∈ l) → T (b || is_in eq x l)
      go true h r u = tt
      go false h r (inl e) = absurd (h e)
      go false h r (inr u) = r u

-- ---- the first number that passes a test

-- k is the first number below m that passes, or m where none does
pub record First (test : ℕ → Bool) (m k : ℕ) : Type 0 where
  pub most : k ≤ m
  pub hit : k < m → T (test k)
  pub miss : (j : ℕ) → j < k → T (test j) → ⊥

pub first_ok : (test : ℕ → Bool) (m : ℕ) → First test m (first test m)
unfolding first
first_ok p zero = record { most = omega arith; hit = λ h. absurd (not-suc-le-zero h); miss = λ j h t. not-suc-le-zero h }
first_ok p (suc m) = go (p 0) refl (first_ok (λ i. p (suc i)) m)
  where
    later : {k : ℕ} → p 0 ≡ false → First (λ i. p (suc i)) m k → (j : ℕ) → j < suc k → T (p j) → ⊥
    later f r zero h t = fails f t
    later f r (suc j) h t = r.miss j (omega arith) t

    go : (b : Bool) → p 0 ≡ b → First (λ i. p (suc i)) m (first (λ i. p (suc i)) m)
        → First p (suc m) (cond b 0 (suc (first (λ i. p (suc i)) m)))
    go true f r = record { most = omega arith; hit = λ h. holds f; miss = λ j h t. not-suc-le-zero h }
    go false f r = let h = r.most in record { most = omega arith; hit = λ l. r.hit (omega arith); miss = later f r }

-- there is only one such number
pub first_is : (test : ℕ → Bool) (m k : ℕ) → First test m k → first test m ≡ k
first_is p m k s = go (first p m) (first_ok p m) (dec_lt (first p m) k) (dec_lt k (first p m))
  where
    go : (j : ℕ) → First p m j → Dec (j < k) → Dec (k < j) → j ≡ k
    go j r (yes a) b = absurd (s.miss j a (r.hit (omega (arith, s.most))))
    go j r (no a) (yes b) = absurd (r.miss k b (s.hit (omega (arith, r.most))))
    go j r (no a) (no b) = omega arith

-- ---- sums

pub sum_add : (f g : ℕ → ℕ) (t k : ℕ) → sum (λ u. f u + g u) t k ≡ sum f t k + sum g t k
unfolding sum
sum_add f g t zero = refl
sum_add f g t (suc k) = let h = sum_add f g (suc t) k in omega arith

pub sum_mul : (c : ℕ) (f : ℕ → ℕ) (t k : ℕ) → sum (λ u. c * f u) t k ≡ c * sum f t k
unfolding sum
sum_mul c f t zero = sym (mul-zero c)
sum_mul c f t (suc k) = ap (λ x. c * f t + x) (sum_mul c f (suc t) k) ∙ sym (mul-add c (f t) (sum f (suc t) k))

pub sum_le : (f g : ℕ → ℕ) (t k : ℕ) → ((u : ℕ) → t ≤ u → u < t + k → f u ≤ g u) → sum f t k ≤ sum g t k
unfolding sum
sum_le f g t zero h = omega arith
sum_le f g t (suc k) h =
    let r : sum f (suc t) k ≤ sum g (suc t) k = sum_le f g (suc t) k (λ u a b. h u (omega arith) (omega arith)) in
    let e = h t (omega arith) (omega arith) in
    omega arith

pub sum_eq : (f g : ℕ → ℕ) (t k : ℕ) → ((u : ℕ) → t ≤ u → u < t + k → f u ≡ g u) → sum f t k ≡ sum g t k
sum_eq f g t k h = le_antisymm (sum_le f g t k (λ u a b. le_of_eq (h u a b))) (sum_le g f t k (λ u a b. le_of_eq (sym (h u a b))))

pub sum_suc : (f : ℕ → ℕ) (t k : ℕ) → sum (λ u. f (suc u)) t k ≡ sum f (suc t) k
unfolding sum
sum_suc f t zero = refl
sum_suc f t (suc k) = let h = sum_suc f (suc t) k in omega arith

pub sum_last : (f : ℕ → ℕ) (at n : ℕ) → sum f at (suc n) ≡ sum f at n + f (at + n)
unfolding sum
sum_last f at zero = omega (arith, ap f (add-zero at))
sum_last f at (suc n) = omega (arith, sum_last f (suc at) n, ap f (suc-add at n ∙ sym (add-suc at n)))

-- ---- ranks

pub rank_zero : (l : List ℕ) → rank 0 l ≡ 0
unfolding rank
rank_zero [] = refl
rank_zero (x ∷ l) = let r = rank_zero l in rw (le-ltb x 0 (omega arith)) (omega arith)

pub rank_all : (s : ℕ) (l : List ℕ) → ((x : ℕ) → x ∈ l → x < s) → rank s l ≡ length l
unfolding rank
rank_all s [] h = refl
rank_all s (x ∷ l) h =
    let r = rank_all s l (λ y m. h y (Memᴰ.tail m)) in
    rw (lt-ltb x s (h x (Memᴰ.head refl))) (omega arith)

-- ---- lists made of two for each

pub length_two : {A B : Type 0} (f : A → List B) (xs : List A) → ((x : A) → length (f x) ≡ 2) → length (flat_map f xs) ≡ 2 * length xs
unfolding flat_map
length_two f [] h = refl
length_two f (x ∷ xs) h = length-append (f x) (flat_map f xs) ∙ omega (arith, h x, length_two f xs h)

pub flat_map_map : {A B C : Type 0} (f : B → List C) (g : A → B) (xs : List A) → flat_map f (map g xs) ≡ flat_map (λ x. f (g x)) xs
unfolding flat_map
flat_map_map f g [] = refl
flat_map_map f g (x ∷ xs) = ap (λ l. f (g x) ++ l) (flat_map_map f g xs)
