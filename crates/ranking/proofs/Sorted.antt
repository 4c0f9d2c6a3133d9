-- Sorting by cost, and the k best as its first k. The sorted list is in the order of cost and then of the list: insertion puts a member in
-- front of those that cost as much. The first is the first of least cost; the last is the last dearest, so the k that are kept in the order
-- of the list are the k best.
use mathlib.Core.Path.{◌≡◌, refl, sym, ap, subst, ◌∙◌}
use mathlib.Core.Bool.{Bool, true, false, cond}
use mathlib.Core.Logic.{◌⊎◌, inl, inr, ⊎_elim}
use mathlib.Core.List.Memᴰ
use mathlib.Core.List.{List, [], ◌∷◌, ◌++◌}
use Prim.Native.Nat.{ℕ, zero, suc, ◌≤◌, ◌<◌}
use native.Mathlib.Omega.{arith}
use native.Mathlib.Decide.{dec_le}
use lib.Dec.{leb}
use lib.ListN.{length, take, length-take}
use lib.Seq.{take-take, take_all, take-append-le}
use borrow.Author.Tests.{lt-ltb, le-leb, lt-leb}
use Rattle.trellis.specs.Lists.{◌∈◌}
use Rattle.trellis.proofs.Bools.{settle}
use Rattle.paths.specs.Choice.{some, choose, best}
use Rattle.paths.specs.Inner.Ordered.{Ordered, ended, leads}
use Rattle.ranking.specs.Several.{insert_by, sort_by, several_best}
use Rattle.ranking.specs.Inner.Bests.{head_of, Prior, Bests}
use Rattle.ranking.specs.Inner.Kept.{all_below, cut, keep_best}
use Rattle.ranking.proofs.Lists.{take_member}
use Rattle.ranking.proofs.Cut.{below_each, each_below, length_cut, keep_steady, length_kept}

module _ {A : Type 0} (cost : A → ℕ) where
  -- ---- one insertion

  pub insert_front : (x y : A) (ys : List A) → cost x ≤ cost y → insert_by cost x (y ∷ ys) ≡ x ∷ (y ∷ ys)
  unfolding insert_by
  insert_front x y ys h = ap (λ b. cond b (x ∷ (y ∷ ys)) (y ∷ insert_by cost x ys)) (le-leb (cost x) (cost y) h)

  pub insert_later : (x y : A) (ys : List A) → cost y < cost x → insert_by cost x (y ∷ ys) ≡ y ∷ insert_by cost x ys
  unfolding insert_by
  insert_later x y ys h = ap (λ b. cond b (x ∷ (y ∷ ys)) (y ∷ insert_by cost x ys)) (lt-leb (cost x) (cost y) h)

  length_insert : (x : A) (ys : List A) → length (insert_by cost x ys) ≡ suc (length ys)
  unfolding insert_by
  length_insert x [] = refl
  length_insert x (y ∷ ys) = go (leb (cost x) (cost y)) (length_insert x ys)
    where
      go : (b : Bool) → length (insert_by cost x ys) ≡ suc (length ys)
          → length (cond b (x ∷ (y ∷ ys)) (y ∷ insert_by cost x ys)) ≡ suc (suc (length ys))
      go true r = refl
      go false r = ap suc r

  of_insert : (x : A) (ys : List A) (z : A) → z ∈ insert_by cost x ys → (z ≡ x) ⊎ (z ∈ ys)
  unfolding insert_by
  of_insert x [] z m = Memᴰ.cases_cons m
  of_insert x (y ∷ ys) z m = go (leb (cost x) (cost y)) (of_insert x ys z) m
    where
      go : (b : Bool) → (z ∈ insert_by cost x ys → (z ≡ x) ⊎ (z ∈ ys)) → z ∈ cond b (x ∷ (y ∷ ys)) (y ∷ insert_by cost x ys)
          → (z ≡ x) ⊎ (z ∈ y ∷ ys)
      go true r k = Memᴰ.cases_cons k
      go false r k = ⊎_elim (λ e. inr (Memᴰ.head e)) (λ l. ⊎_elim inl (λ i. inr (Memᴰ.tail i)) (r l)) (Memᴰ.cases_cons k)

  in_insert : (x : A) (ys : List A) (z : A) → (z ≡ x) ⊎ (z ∈ ys) → z ∈ insert_by cost x ys
  unfolding insert_by
  in_insert x [] z o = ⊎_elim (λ e. Memᴰ.head e) (λ m. absurd (Memᴰ.not-nil m)) o
  in_insert x (y ∷ ys) z o = go (leb (cost x) (cost y)) (in_insert x ys z) o
    where
      go : (b : Bool) → ((z ≡ x) ⊎ (z ∈ ys) → z ∈ insert_by cost x ys) → (z ≡ x) ⊎ (z ∈ y ∷ ys)
          → z ∈ cond b (x ∷ (y ∷ ys)) (y ∷ insert_by cost x ys)
      go true r k = ⊎_elim (λ e. Memᴰ.head e) (λ m. Memᴰ.tail m) k
      go false r k =
          ⊎_elim (λ e. Memᴰ.tail (r (inl e)))
          (λ m. ⊎_elim (λ e. Memᴰ.head e) (λ l. Memᴰ.tail (r (inr l))) (Memᴰ.cases_cons m))
          k

  -- ---- the sorted list

  pub length_sort : (xs : List A) → length (sort_by cost xs) ≡ length xs
  unfolding sort_by
  length_sort [] = refl
  length_sort (x ∷ xs) = length_insert x (sort_by cost xs) ∙ ap suc (length_sort xs)

  pub of_sort : (xs : List A) (z : A) → z ∈ sort_by cost xs → z ∈ xs
  unfolding sort_by
  of_sort [] z m = m
  of_sort (x ∷ xs) z m = ⊎_elim (λ e. Memᴰ.head e) (λ k. Memᴰ.tail (of_sort xs z k)) (of_insert x (sort_by cost xs) z m)

  pub in_sort : (xs : List A) (z : A) → z ∈ xs → z ∈ sort_by cost xs
  unfolding sort_by
  in_sort [] z m = m
  in_sort (x ∷ xs) z m = in_insert x (sort_by cost xs) z (⊎_elim inl (λ k. inr (in_sort xs z k)) (Memᴰ.cases_cons m))

  module _ (R : A → A → Type 0) where
    prior_le : {x y : A} → Prior cost R x y → cost x ≤ cost y
    prior_le (inl h) = omega arith
    prior_le (inr h) = let e = h.0 in omega arith

    prior_of : (x y : A) → cost x ≤ cost y → R x y → Prior cost R x y
    prior_of x y h r = go (dec_le (cost y) (cost x))
      where
        go : Dec (cost y ≤ cost x) → Prior cost R x y
        go (yes l) = inr (omega arith, r)
        go (no l) = inl (omega arith)

    insert_ordered : (x : A) {ys : List A} → ((y : A) → y ∈ ys → R x y) → Ordered (Prior cost R) ys
        → Ordered (Prior cost R) (insert_by cost x ys)
    unfolding insert_by
    insert_ordered x r ended = leads (λ y m. absurd (Memᴰ.not-nil m)) ended
    insert_ordered x r (leads {x = y} {xs = ys} f a) =
        go (dec_le (cost x) (cost y)) (insert_ordered x (λ z m. r z (Memᴰ.tail m)) a)
      where
        go : Dec (cost x ≤ cost y) → Ordered (Prior cost R) (insert_by cost x ys) → Ordered (Prior cost R) (insert_by cost x (y ∷ ys))
        go (yes h) i =
            subst (Ordered (Prior cost R)) (sym (insert_front x y ys h))
            (leads (λ z m. prior_of x z (over z m) (r z m)) (leads f a))
          where
            over : (z : A) → z ∈ y ∷ ys → cost x ≤ cost z
            over z m =
                ⊎_elim (λ e. let k = ap cost e in omega arith) (λ k. let l = prior_le (f z k) in omega arith) (Memᴰ.cases_cons m)
        go (no h) i =
            subst (Ordered (Prior cost R)) (sym (insert_later x y ys (omega arith)))
            (leads (λ z m. ⊎_elim (λ e. inl (let k = ap cost e in omega arith)) (f z) (of_insert x ys z m)) i)

    pub sort_ordered : {xs : List A} → Ordered R xs → Ordered (Prior cost R) (sort_by cost xs)
    unfolding sort_by
    sort_ordered ended = ended
    sort_ordered (leads {x = x} {xs = xs} f a) = insert_ordered x (λ y m. f y (of_sort xs y m)) (sort_ordered a)

    front_ordered : (k : ℕ) {ys : List A} → Ordered (Prior cost R) ys → Ordered (Prior cost R) (take k ys)
    front_ordered zero a = ended
    front_ordered (suc k) ended = ended
    front_ordered (suc k) (leads {x = y} {xs = ys} f a) = leads (λ z m. f z (take_member k ys z m)) (front_ordered k a)

    taken_or_after : (k : ℕ) {ys : List A} → Ordered (Prior cost R) ys → (x : A) → x ∈ ys
        → (x ∈ take k ys) ⊎ ((y : A) → y ∈ take k ys → Prior cost R y x)
    taken_or_after zero a x m = inr (λ y n. absurd (Memᴰ.not-nil n))
    taken_or_after (suc k) ended x m = absurd (Memᴰ.not-nil m)
    taken_or_after (suc k) (leads {x = y} {xs = ys} f a) x m =
        ⊎_elim (λ e. inl (Memᴰ.head e)) (λ l. go l (taken_or_after k a x l)) (Memᴰ.cases_cons m)
      where
        go : x ∈ ys → (x ∈ take k ys) ⊎ ((z : A) → z ∈ take k ys → Prior cost R z x)
            → (x ∈ y ∷ take k ys) ⊎ ((z : A) → z ∈ y ∷ take k ys → Prior cost R z x)
        go l (inl i) = inl (Memᴰ.tail i)
        go l (inr i) = inr (λ z n. ⊎_elim (λ e. subst (λ w. Prior cost R w x) (sym e) (f x l)) (i z) (Memᴰ.cases_cons n))

    -- what the k best are
    pub bests : (k : ℕ) {xs : List A} → Ordered R xs → Bests cost R k xs (several_best cost k xs)
    unfolding several_best
    bests k {xs} a =
        record {
          listed = λ x m. of_sort xs x (take_member k (sort_by cost xs) x m);
          many = let l = length_sort xs in omega (arith, length-take k (sort_by cost xs));
          ordered = front_ordered k (sort_ordered a);
          before = λ x m. taken_or_after k (sort_ordered a) x (in_sort xs x m);
        }

  -- the list for a smaller number is the start of a longer one
  pub best_start : (j k : ℕ) (xs : List A) → j ≤ k → take j (several_best cost k xs) ≡ several_best cost j xs
  unfolding several_best
  best_start j k xs h = take-take j k (sort_by cost xs) h

  -- ---- the first is the first of least cost

  insert_head : (x : A) (ys : List A) → head_of cost (insert_by cost x ys) ≡ choose (some (cost x) x) (head_of cost ys)
  unfolding insert_by choose
  insert_head x [] = refl
  insert_head x (y ∷ ys) = go (leb (cost x) (cost y))
    where
      go : (b : Bool) → head_of cost (cond b (x ∷ (y ∷ ys)) (y ∷ insert_by cost x ys)) ≡ cond b (some (cost x) x) (some (cost y) y)
      go true = refl
      go false = refl

  pub sort_head : (xs : List A) → head_of cost (sort_by cost xs) ≡ best cost xs
  unfolding sort_by best
  sort_head [] = refl
  sort_head (x ∷ xs) = insert_head x (sort_by cost xs) ∙ ap (choose (some (cost x) x)) (sort_head xs)

  take_head : (k : ℕ) (ys : List A) → head_of cost (take (suc k) ys) ≡ head_of cost ys
  take_head k [] = refl
  take_head k (y ∷ ys) = refl

  pub best_head : (k : ℕ) (xs : List A) → head_of cost (several_best cost (suc k) xs) ≡ best cost xs
  unfolding several_best
  best_head k xs = take_head k (sort_by cost xs) ∙ sort_head xs

  -- ---- the last is the last dearest

  insert_last : (x : A) (ys : List A) → ((y : A) → y ∈ ys → cost y < cost x) → insert_by cost x ys ≡ ys ++ (x ∷ [])
  unfolding insert_by
  insert_last x [] h = refl
  insert_last x (y ∷ ys) h =
      insert_later x y ys (h y (Memᴰ.head refl)) ∙ ap (λ l. y ∷ l) (insert_last x ys (λ z m. h z (Memᴰ.tail m)))

  insert_before : (x : A) (ys : List A) (w : A) → cost x ≤ cost w → insert_by cost x (ys ++ (w ∷ [])) ≡ insert_by cost x ys ++ (w ∷ [])
  unfolding insert_by
  insert_before x [] w h = insert_front x w [] h
  insert_before x (y ∷ ys) w h = go (leb (cost x) (cost y)) (insert_before x ys w h)
    where
      go : (b : Bool) → insert_by cost x (ys ++ (w ∷ [])) ≡ insert_by cost x ys ++ (w ∷ [])
          → cond b (x ∷ (y ∷ (ys ++ (w ∷ [])))) (y ∷ insert_by cost x (ys ++ (w ∷ [])))
          ≡ cond b (x ∷ (y ∷ ys)) (y ∷ insert_by cost x ys) ++ (w ∷ [])
      go true r = refl
      go false r = ap (λ l. y ∷ l) r

  record LastOut (xs : List A) : Type 0 where
    last : A
    is : sort_by cost xs ≡ sort_by cost (cut cost xs) ++ (last ∷ [])
    most : (c : ℕ) → all_below cost c xs ≡ false → c ≤ cost last

  -- the head of a list that is below c, and the rest that is not
  rest_over : (c : ℕ) (x : A) (xs : List A) → cost x < c → all_below cost c (x ∷ xs) ≡ false → all_below cost c xs ≡ false
  unfolding all_below
  rest_over c x xs h e = rw (lt-ltb (cost x) c h) at e

  here_out : (x : A) (xs : List A) → all_below cost (cost x) xs ≡ true → LastOut (x ∷ xs)
  unfolding sort_by cut
  here_out x xs e =
      record {
        last = x;
        is = rw e (insert_last x (sort_by cost xs) (λ y m. below_each cost (cost x) xs e y (of_sort xs y m)));
        most = most_of;
      }
    where
      most_of : (c : ℕ) → all_below cost c (x ∷ xs) ≡ false → c ≤ cost x
      most_of c k = go (dec_le c (cost x))
        where
          go : Dec (c ≤ cost x) → c ≤ cost x
          go (yes h) = h
          go (no h) =
              let i = rest_over c x xs (omega arith) k in
              let j : all_below cost c xs ≡ true = each_below cost c xs (λ y m. let l = below_each cost (cost x) xs e y m in omega arith) in
              let z : ◌≡◌ {A = ℕ} 0 1 = cc in
              absurd (omega arith)

  later_out : (x : A) (xs : List A) → all_below cost (cost x) xs ≡ false → LastOut xs → LastOut (x ∷ xs)
  unfolding sort_by cut
  later_out x xs e L =
      record {
        last = L.last;
        is = rw e (ap (insert_by cost x) L.is ∙ insert_before x (sort_by cost (cut cost xs)) L.last (L.most (cost x) e));
        most = most_of;
      }
    where
      most_of : (c : ℕ) → all_below cost c (x ∷ xs) ≡ false → c ≤ cost L.last
      most_of c k = go (dec_le c (cost x))
        where
          go : Dec (c ≤ cost x) → c ≤ cost L.last
          go (yes h) = let l = L.most (cost x) e in omega arith
          go (no h) = L.most c (rest_over c x xs (omega arith) k)

  last_out : (x : A) (xs : List A) → LastOut (x ∷ xs)
  unfolding all_below
  last_out x [] = here_out x [] refl
  last_out x (y ∷ ys) =
      ⊎_elim (here_out x (y ∷ ys)) (λ e. later_out x (y ∷ ys) e (last_out y ys)) (settle (all_below cost (cost x) (y ∷ ys)))

  sort_cut : (k : ℕ) (xs : List A) → k < length xs → take k (sort_by cost xs) ≡ take k (sort_by cost (cut cost xs))
  sort_cut k [] h = absurd (omega arith)
  sort_cut k (x ∷ xs) h =
      let L = last_out x xs in
      let l = length_sort (cut cost (x ∷ xs)) in
      let m = length_cut cost (x ∷ xs) in
      ap (take k) L.is ∙ take-append-le k (sort_by cost (cut cost (x ∷ xs))) (L.last ∷ []) (omega arith)

  -- the k that are kept, sorted, are the k best
  pub kept_sorted : (k : ℕ) (xs : List A) → sort_by cost (keep_best cost k xs) ≡ several_best cost k xs
  unfolding several_best
  kept_sorted k xs =
      let l = length_sort (keep_best cost k xs) in
      let m = length_kept cost k xs in
      sym (keep_steady cost (λ l. take k (sort_by cost l)) (λ l. Unit {0}) k (λ l g h. sort_cut k l h) (λ l g. g) xs tt
      ∙ take_all k (sort_by cost (keep_best cost k xs)) (omega arith))
