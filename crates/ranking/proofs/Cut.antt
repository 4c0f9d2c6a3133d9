-- Laws of keeping the k best in the order of a list, by cuts. A cut takes out the last dearest member: in front of it none costs more,
-- behind it each costs less. So a cut makes a list one shorter and brings no member in, and keeping k, which is cuts until k are left,
-- leaves k of them or all. What no cut changes as long as more than k are left, keeping does not change.
use mathlib.Core.Path.{◌≡◌, refl, ap, subst, ◌∙◌}
use mathlib.Core.Bool.{Bool, true, false, cond}
use mathlib.Core.Logic.{◌⊎◌, inl, inr, ⊎_elim}
use mathlib.Core.List.Memᴰ
use mathlib.Core.List.{List, [], ◌∷◌, ◌++◌, Memᴰ}
use Prim.Native.Nat.{ℕ, zero, suc, ◌-◌, ◌≤◌, ◌<◌, min}
use native.Mathlib.Omega.{arith}
use lib.Dec.{ltb}
use lib.ListN.{length, length-append}
use borrow.Author.Tests.{ltb-true, ltb-false, lt-ltb}
use Rattle.trellis.specs.Lists.{◌∈◌}
use Rattle.trellis.proofs.Bools.{settle}
use Rattle.ranking.specs.Inner.Kept.{all_below, cut, cuts, keep_best}

module _ {A : Type 0} (cost : A → ℕ) where
  -- ---- all below a number

  pub below_each : (c : ℕ) (xs : List A) → all_below cost c xs ≡ true → (x : A) → x ∈ xs → cost x < c
  unfolding all_below
  below_each c [] e x m = absurd (Memᴰ.not-nil m)
  below_each c (y ∷ xs) e x m = go (ltb (cost y) c) refl (below_each c xs) e
    where
      go : (b : Bool) → ltb (cost y) c ≡ b → (all_below cost c xs ≡ true → (x : A) → x ∈ xs → cost x < c)
          → cond b (all_below cost c xs) false ≡ true → cost x < c
      go true t r k = ⊎_elim (λ i. let j = ap cost i in let l = ltb-true (cost y) c t in omega arith) (r k x) (Memᴰ.cases_cons m)
      go false t r k = let z : ◌≡◌ {A = ℕ} 0 1 = cc in absurd (omega arith)

  pub each_below : (c : ℕ) (xs : List A) → ((x : A) → x ∈ xs → cost x < c) → all_below cost c xs ≡ true
  unfolding all_below
  each_below c [] h = refl
  each_below c (x ∷ xs) h = rw (lt-ltb (cost x) c (h x (Memᴰ.head refl))) (each_below c xs (λ y m. h y (Memᴰ.tail m)))

  -- some member is not below c, so it is not below a lesser number
  pub not_below : (c d : ℕ) (xs : List A) → d ≤ c → all_below cost c xs ≡ false → all_below cost d xs ≡ false
  not_below c d xs h e = ⊎_elim all (λ k. k) (settle (all_below cost d xs))
    where
      all : all_below cost d xs ≡ true → all_below cost d xs ≡ false
      all k =
          let i : all_below cost c xs ≡ true = each_below c xs (λ x m. let l = below_each d xs k x m in omega arith) in
          let z : ◌≡◌ {A = ℕ} 0 1 = cc in
          absurd (omega arith)

  -- ---- one cut

  -- the last dearest of a list that is not empty
  pub record Dearest (xs : List A) : Type 0 where
    pub front : List A
    pub last : A
    pub back : List A
    pub split : xs ≡ front ++ (last ∷ back)
    pub left : cut cost xs ≡ front ++ back
    pub in_front : (y : A) → y ∈ front → cost y ≤ cost last
    pub behind : (y : A) → y ∈ back → cost y < cost last

  first_dearest : (x : A) (xs : List A) → all_below cost (cost x) xs ≡ true → Dearest (x ∷ xs)
  unfolding cut
  first_dearest x xs e =
      record {
        front = [];
        last = x;
        back = xs;
        split = refl;
        left = rw e;
        in_front = λ y m. absurd (Memᴰ.not-nil m);
        behind = below_each (cost x) xs e;
      }

  later_dearest : (x : A) (xs : List A) → all_below cost (cost x) xs ≡ false → Dearest xs → Dearest (x ∷ xs)
  unfolding cut
  later_dearest x xs e D =
      record {
        front = x ∷ D.front;
        last = D.last;
        back = D.back;
        split = ap (λ l. x ∷ l) D.split;
        left = rw e (ap (λ l. x ∷ l) D.left);
        in_front =
            λ y m. ⊎_elim (λ k. let i = ap cost k in let o = over in omega arith) (D.in_front y) (Memᴰ.cases_cons m);
        behind = D.behind;
      }
    where
      each : (y : A) → y ∈ xs → cost y ≤ cost D.last
      each y m =
          ⊎_elim (D.in_front y)
          (λ k. ⊎_elim (λ i. let j = ap cost i in omega arith) (λ l. let j = D.behind y l in omega arith) (Memᴰ.cases_cons k))
          (Memᴰ.append_cases D.front (subst (Memᴰ y) D.split m))

      over : cost x ≤ cost D.last
      over =
          ⊎_elim (λ k. let z : ◌≡◌ {A = ℕ} 0 1 = cc in absurd (omega arith)) (λ k. go (settle (ltb (cost D.last) (cost x))))
          (settle (all_below cost (cost x) xs))
        where
          go : (ltb (cost D.last) (cost x) ≡ true) ⊎ (ltb (cost D.last) (cost x) ≡ false) → cost x ≤ cost D.last
          go (inl t) =
              let l = ltb-true (cost D.last) (cost x) t in
              let i : all_below cost (cost x) xs ≡ true = each_below (cost x) xs (λ y m. let j = each y m in omega arith) in
              let z : ◌≡◌ {A = ℕ} 0 1 = cc in
              absurd (omega arith)
          go (inr t) = ltb-false (cost D.last) (cost x) t

  pub dearest_of : (x : A) (xs : List A) → Dearest (x ∷ xs)
  unfolding all_below
  dearest_of x [] = first_dearest x [] refl
  dearest_of x (y ∷ ys) =
      ⊎_elim (first_dearest x (y ∷ ys)) (λ e. later_dearest x (y ∷ ys) e (dearest_of y ys)) (settle (all_below cost (cost x) (y ∷ ys)))

  pub some_dearest : (xs : List A) → 0 < length xs → Dearest xs
  some_dearest [] h = absurd (omega arith)
  some_dearest (x ∷ xs) h = dearest_of x xs

  pub length_cut : (xs : List A) → length (cut cost xs) ≡ length xs - 1
  unfolding cut
  length_cut [] = omega arith
  length_cut (x ∷ xs) =
      let D = dearest_of x xs in
      let a = ap length D.split in
      let b = ap length D.left in
      omega (arith, length-append D.front (D.last ∷ D.back), length-append D.front D.back, a, b)

  pub cut_member : (xs : List A) (y : A) → y ∈ cut cost xs → y ∈ xs
  unfolding cut
  cut_member [] y m = m
  cut_member (x ∷ xs) y m = go (all_below cost (cost x) xs) (cut_member xs y) m
    where
      go : (b : Bool) → (y ∈ cut cost xs → y ∈ xs) → y ∈ cond b xs (x ∷ cut cost xs) → y ∈ x ∷ xs
      go true r k = Memᴰ.tail k
      go false r k = ⊎_elim (λ e. Memᴰ.head e) (λ l. Memᴰ.tail (r l)) (Memᴰ.cases_cons k)

  -- ---- as long as there are more than k, a cut changes nothing of what follows: then keeping does not

  cuts_steady : {B : Type 0} (F : List A → B) (Good : List A → Type 0) (k : ℕ)
      → ((xs : List A) → Good xs → k < length xs → F xs ≡ F (cut cost xs))
      → ((xs : List A) → Good xs → Good (cut cost xs))
      → (m : ℕ) (xs : List A) → length xs - k ≡ m → Good xs → F xs ≡ F (cuts cost m xs)
  unfolding cuts
  cuts_steady F Good k step stays zero xs e g = refl
  cuts_steady F Good k step stays (suc m) xs e g =
      let l = length_cut xs in
      step xs g (omega arith) ∙ cuts_steady F Good k step stays m (cut cost xs) (omega arith) (stays xs g)

  pub keep_steady : {B : Type 0} (F : List A → B) (Good : List A → Type 0) (k : ℕ)
      → ((xs : List A) → Good xs → k < length xs → F xs ≡ F (cut cost xs))
      → ((xs : List A) → Good xs → Good (cut cost xs)) → (xs : List A) → Good xs → F xs ≡ F (keep_best cost k xs)
  unfolding keep_best
  keep_steady F Good k step stays xs g = cuts_steady F Good k step stays (length xs - k) xs refl g

  length_cuts : (m : ℕ) (xs : List A) → length (cuts cost m xs) ≡ length xs - m
  unfolding cuts
  length_cuts zero xs = omega arith
  length_cuts (suc m) xs = let l = length_cut xs in let i = length_cuts m (cut cost xs) in omega arith

  pub length_kept : (k : ℕ) (xs : List A) → length (keep_best cost k xs) ≡ min k (length xs)
  unfolding keep_best
  length_kept k xs = let i = length_cuts (length xs - k) xs in omega arith

  cuts_member : (m : ℕ) (xs : List A) (y : A) → y ∈ cuts cost m xs → y ∈ xs
  unfolding cuts
  cuts_member zero xs y m = m
  cuts_member (suc n) xs y m = cut_member xs y (cuts_member n (cut cost xs) y m)

  pub kept_member : (k : ℕ) (xs : List A) (y : A) → y ∈ keep_best cost k xs → y ∈ xs
  unfolding keep_best
  kept_member k xs y m = cuts_member (length xs - k) xs y m

  pub kept_all : (k : ℕ) (xs : List A) → length xs ≤ k → keep_best cost k xs ≡ xs
  unfolding keep_best cuts
  kept_all k xs h = let e : length xs - k ≡ 0 = omega arith in ap (λ j. cuts cost j xs) e

  pub keep_again : (k : ℕ) (xs : List A) → keep_best cost k (keep_best cost k xs) ≡ keep_best cost k xs
  keep_again k xs = let l = length_kept k xs in kept_all k (keep_best cost k xs) (omega arith)
