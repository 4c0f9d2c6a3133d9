-- Ascending lists: putting the elements of a list in order, each once, keeps just the elements; and an element of an ascending list of
-- numbers stands at its rank. Each follows along the list, for any strict order in which every two elements can be compared.
use mathlib.Core.Path.{◌≡◌, refl, sym, ap, subst, ◌∙◌}
use mathlib.Core.Bool.{Bool, true, false}
use mathlib.Core.Logic.{◌⊎◌, inl, inr}
use mathlib.Core.List.Memᴰ
use mathlib.Core.List.{List, [], ◌∷◌, ◌++◌}
use Prim.Native.Nat.{ℕ, zero, suc, ◌+◌, ◌≤◌, ◌<◌}
use native.Mathlib.Omega.{arith}
use native.Mathlib.Nat.{not-suc-le-zero}
use native.Mathlib.Decide.{ℕ_discrete, dec_lt}
use lib.ListN.{length, get_or}
use lib.Dec.{T, ltb, ltb→lt, lt→ltb}
use Rattle.trellis.specs.Lists.{◌∈◌, Once, one_if, each, rank, placed, insert, ascending}
use Rattle.trellis.proofs.Bools.{holds, fails}
use Rattle.trellis.proofs.Lists.{From, in_place, in_each, of_each}

-- a strict order by a test, in which every two elements can be compared
pub record Orders {A : Type 0} (less : A → A → Bool) : Type 0 where
  pub never : (x : A) → T (less x x) → ⊥
  pub chain : (x y z : A) → T (less x y) → T (less y z) → T (less x z)
  pub compare : (x y : A) → (T (less x y) → ⊥) → (T (less y x) → ⊥) → x ≡ y

-- each element is less than all behind it
abbrev pub Ascends : {A : Type 0} → (A → A → Bool) → List A → Type 0
Ascends less [] = Unit {0}
Ascends {A} less (x ∷ l) = ((y : A) → y ∈ l → T (less x y)) × Ascends less l

-- what stands among the first m values stands among the first m + 1
more : {A : Type 0} (f : ℕ → A) (m : ℕ) (x : A) → x ∈ each f m → x ∈ each f (suc m)
more f m x k = let F = of_each f m x k in in_each f (suc m) F.at x (omega (arith, F.below)) F.is

module _ {A : Type 0} (less : A → A → Bool) (O : Orders less) where
  pub once_of : (l : List A) → Ascends less l → Once l
  once_of [] a = tt
  once_of (x ∷ l) a = (λ m. O.never x (a.0 x m), once_of l a.1)

  -- ---- one element put in its place

  module _ (x : A) where
    pub in_insert : (z : A) (l : List A) → (z ≡ x) ⊎ (z ∈ l) → z ∈ insert less x l
    unfolding insert
    in_insert z [] (inl e) = Memᴰ.head e
    in_insert z [] (inr m) = absurd (Memᴰ.not-nil m)
    in_insert z (y ∷ l) h = go (less x y) (less y x) refl refl (in_insert z l) h
      where
        rest : (z ≡ x) ⊎ (z ∈ y ∷ l) → (z ≡ y) ⊎ ((z ≡ x) ⊎ (z ∈ l))
        rest (inl e) = inr (inl e)
        rest (inr m) = elim (Memᴰ.cases_cons m) [ inl e ↦ inl e | inr u ↦ inr (inr u) ]

        go : (a b : Bool) → less x y ≡ a → less y x ≡ b → ((z ≡ x) ⊎ (z ∈ l) → z ∈ insert less x l) → (z ≡ x) ⊎ (z ∈ y ∷ l)
            → z ∈ placed a b x y l (insert less x l)
        go true b p q r (inl e) = Memᴰ.head e
        go true b p q r (inr m) = Memᴰ.tail m
        go false true p q r s = elim (rest s) [ inl e ↦ Memᴰ.head e | inr u ↦ Memᴰ.tail (r u) ]
        go false false p q r (inl e) = Memᴰ.head (e ∙ O.compare x y (fails p) (fails q))
        go false false p q r (inr m) = m

    pub of_insert : (z : A) (l : List A) → z ∈ insert less x l → (z ≡ x) ⊎ (z ∈ l)
    unfolding insert
    of_insert z [] m = elim (Memᴰ.cases_cons m) [ inl e ↦ inl e | inr u ↦ inr u ]
    of_insert z (y ∷ l) m = go (less x y) (less y x) (of_insert z l) m
      where
        later : (z ≡ x) ⊎ (z ∈ l) → (z ≡ x) ⊎ (z ∈ y ∷ l)
        later (inl e) = inl e
        later (inr u) = inr (Memᴰ.tail u)

        go : (a b : Bool) → (z ∈ insert less x l → (z ≡ x) ⊎ (z ∈ l)) → z ∈ placed a b x y l (insert less x l) → (z ≡ x) ⊎ (z ∈ y ∷ l)
        go true b r m = elim (Memᴰ.cases_cons m) [ inl e ↦ inl e | inr u ↦ inr u ]
        go false true r m = elim (Memᴰ.cases_cons m) [ inl e ↦ inr (Memᴰ.head e) | inr u ↦ later (r u) ]
        go false false r m = inr m

    pub insert_ascends : (l : List A) → Ascends less l → Ascends less (insert less x l)
    unfolding insert
    insert_ascends [] a = (λ y m. absurd (Memᴰ.not-nil m), tt)
    insert_ascends (y ∷ l) a = go (less x y) (less y x) refl refl (insert_ascends l a.1)
      where
        front : T (less x y) → (z : A) → z ∈ y ∷ l → T (less x z)
        front h z m = elim (Memᴰ.cases_cons m)
            [ inl e ↦ subst (λ w. T (less x w)) (sym e) h | inr u ↦ O.chain x y z h (a.0 z u) ]

        behind : T (less y x) → (z : A) → z ∈ insert less x l → T (less y z)
        behind h z m = elim (of_insert z l m)
            [ inl e ↦ subst (λ w. T (less y w)) (sym e) h | inr u ↦ a.0 z u ]

        go : (p q : Bool) → less x y ≡ p → less y x ≡ q → Ascends less (insert less x l) → Ascends less (placed p q x y l (insert less x l))
        go true q e f r = (front (holds e), a)
        go false true e f r = (behind (holds f), r)
        go false false e f r = a

  -- ---- all elements put in order

  pub in_ascending : (z : A) (l : List A) → z ∈ l → z ∈ ascending less l
  unfolding ascending
  in_ascending z [] m = m
  in_ascending z (x ∷ l) m = go (in_ascending z l) (Memᴰ.cases_cons m)
    where
      go : (z ∈ l → z ∈ ascending less l) → (z ≡ x) ⊎ (z ∈ l) → z ∈ insert less x (ascending less l)
      go r (inl e) = in_insert x z (ascending less l) (inl e)
      go r (inr u) = in_insert x z (ascending less l) (inr (r u))

  pub of_ascending : (z : A) (l : List A) → z ∈ ascending less l → z ∈ l
  unfolding ascending
  of_ascending z [] m = m
  of_ascending z (x ∷ l) m = go (of_ascending z l) (of_insert x z (ascending less l) m)
    where
      go : (z ∈ ascending less l → z ∈ l) → (z ≡ x) ⊎ (z ∈ ascending less l) → z ∈ x ∷ l
      go r (inl e) = Memᴰ.head e
      go r (inr u) = Memᴰ.tail (r u)

  pub ascends : (l : List A) → Ascends less (ascending less l)
  unfolding ascending
  ascends [] = tt
  ascends (x ∷ l) = insert_ascends x (ascending less l) (ascends l)

  insert_length : (x : A) (l : List A) → length (insert less x l) ≤ suc (length l)
  unfolding insert
  insert_length x [] = omega arith
  insert_length x (y ∷ l) = go (less x y) (less y x) (insert_length x l)
    where
      go : (a b : Bool) → length (insert less x l) ≤ suc (length l) → length (placed a b x y l (insert less x l)) ≤ suc (suc (length l))
      go true b r = omega arith
      go false true r = omega arith
      go false false r = omega arith

  pub ascending_length : (l : List A) → length (ascending less l) ≤ length l
  unfolding ascending
  ascending_length [] = omega arith
  ascending_length (x ∷ l) = omega (arith, insert_length x (ascending less l), ascending_length l)

  -- ---- an ascending list is known by its elements

  pub ascends_same : (l k : List A) → Ascends less l → Ascends less k → ((x : A) → x ∈ l → x ∈ k) → ((x : A) → x ∈ k → x ∈ l) → l ≡ k
  ascends_same [] [] a b f g = refl
  ascends_same [] (y ∷ k) a b f g = absurd (Memᴰ.not-nil (g y (Memᴰ.head refl)))
  ascends_same (x ∷ l) [] a b f g = absurd (Memᴰ.not-nil (f x (Memᴰ.head refl)))
  ascends_same (x ∷ l) (y ∷ k) a b f g =
      λ i. heads i ∷ ascends_same l k a.1 b.1
      (λ z m. tail_of z (f z (Memᴰ.tail m)) (λ e. O.never x (subst (λ w. T (less x w)) (e ∙ sym heads) (a.0 z m))))
      (λ z m. tail_to z (g z (Memᴰ.tail m)) (λ e. O.never y (subst (λ w. T (less y w)) (e ∙ heads) (b.0 z m)))) i
    where
      heads : x ≡ y
      heads = go (Memᴰ.cases_cons (f x (Memᴰ.head refl))) (Memᴰ.cases_cons (g y (Memᴰ.head refl)))
        where
          go : (x ≡ y) ⊎ (x ∈ k) → (y ≡ x) ⊎ (y ∈ l) → x ≡ y
          go (inl e) q = e
          go (inr u) (inl e) = sym e
          go (inr u) (inr w) = absurd (O.never x (O.chain x y x (a.0 y w) (b.0 x u)))

      tail_of : (z : A) → z ∈ y ∷ k → (z ≡ y → ⊥) → z ∈ k
      tail_of z m d = elim (Memᴰ.cases_cons m) [ inl e ↦ absurd (d e) | inr u ↦ u ]

      tail_to : (z : A) → z ∈ x ∷ l → (z ≡ x → ⊥) → z ∈ l
      tail_to z m d = elim (Memᴰ.cases_cons m) [ inl e ↦ absurd (d e) | inr u ↦ u ]

  -- an element above all others goes to the end
  pub ascends_snoc : (l : List A) (x : A) → Ascends less l → ((y : A) → y ∈ l → T (less y x)) → Ascends less (l ++ (x ∷ []))
  ascends_snoc [] x a h = (λ y m. absurd (Memᴰ.not-nil m), tt)
  ascends_snoc (z ∷ l) x a h = (λ y m. go y (Memᴰ.append_cases l m), ascends_snoc l x a.1 (λ y m. h y (Memᴰ.tail m)))
    where
      go : (y : A) → (y ∈ l) ⊎ (y ∈ x ∷ []) → T (less z y)
      go y (inl u) = a.0 y u
      go y (inr u) = subst (λ w. T (less z w)) (sym (Memᴰ.eq_of_singleton u)) (h z (Memᴰ.head refl))

  -- one value more: it is there already, or it comes after all others
  pub ascending_old : (f : ℕ → A) (m : ℕ) → f m ∈ each f m → ascending less (each f (suc m)) ≡ ascending less (each f m)
  ascending_old f m h =
      ascends_same (ascending less (each f (suc m))) (ascending less (each f m)) (ascends (each f (suc m))) (ascends (each f m))
      (λ x k. in_ascending x (each f m) (back x (of_each f (suc m) x (of_ascending x (each f (suc m)) k))))
      (λ x k. in_ascending x (each f (suc m)) (more f m x (of_ascending x (each f m) k)))
    where
      back : (x : A) → From f (suc m) x → x ∈ each f m
      back x F = go (ℕ_discrete F.at m)
        where
          go : Dec (F.at ≡ m) → x ∈ each f m
          go (yes e) = Memᴰ.cast (F.is ∙ ap f e) h
          go (no e) = in_each f m F.at x (omega (arith, F.below)) F.is

  pub ascending_new : (f : ℕ → A) (m : ℕ) → ((j : ℕ) → j < m → T (less (f j) (f m)))
      → ascending less (each f (suc m)) ≡ ascending less (each f m) ++ (f m ∷ [])
  ascending_new f m h = ascends_same (ascending less (each f (suc m))) (ascending less (each f m) ++ (f m ∷ [])) (ascends (each f (suc m)))
      (ascends_snoc (ascending less (each f m)) (f m) (ascends (each f m)) (λ y k. above y (of_each f m y (of_ascending y (each f m) k))))
      (λ x k. split x (of_each f (suc m) x (of_ascending x (each f (suc m)) k)))
      (λ x k. in_ascending x (each f (suc m)) (join_up x (Memᴰ.append_cases (ascending less (each f m)) k)))
    where
      above : (y : A) → From f m y → T (less y (f m))
      above y F = subst (λ w. T (less w (f m))) (sym F.is) (h F.at F.below)

      split : (x : A) → From f (suc m) x → x ∈ ascending less (each f m) ++ (f m ∷ [])
      split x F = go (ℕ_discrete F.at m)
        where
          go : Dec (F.at ≡ m) → x ∈ ascending less (each f m) ++ (f m ∷ [])
          go (yes e) = Memᴰ.append_right (ascending less (each f m)) (Memᴰ.head (F.is ∙ ap f e))
          go (no e) = Memᴰ.append_left (f m ∷ []) (in_ascending x (each f m) (in_each f m F.at x (omega (arith, F.below)) F.is))

      join_up : (x : A) → (x ∈ ascending less (each f m)) ⊎ (x ∈ f m ∷ []) → x ∈ each f (suc m)
      join_up x (inl u) = more f m x (of_ascending x (each f m) u)
      join_up x (inr u) = in_each f (suc m) m x (omega arith) (Memᴰ.eq_of_singleton u)

-- ---- numbers

pub numbers : Orders ltb
numbers = record {
  never = λ x t. let h = ltb→lt x x t in omega arith;
  chain = λ x y z s t. let h = ltb→lt x y s in let k = ltb→lt y z t in lt→ltb x z (omega arith);
  compare = λ x y p q. numbers_compare x y (dec_lt x y) (dec_lt y x) p q;
}
  where
    numbers_compare : (x y : ℕ) → Dec (x < y) → Dec (y < x) → (T (ltb x y) → ⊥) → (T (ltb y x) → ⊥) → x ≡ y
    numbers_compare x y (yes h) b p q = absurd (p (lt→ltb x y h))
    numbers_compare x y (no h) (yes k) p q = absurd (q (lt→ltb y x k))
    numbers_compare x y (no h) (no k) p q = omega arith

-- a number that is below the whole list has rank 0 there
rank_none : (s : ℕ) (l : List ℕ) → ((y : ℕ) → y ∈ l → s ≤ y) → rank s l ≡ 0
unfolding rank
rank_none s [] h = refl
rank_none s (x ∷ l) h = go (ltb x s) refl (rank_none s l (λ y m. h y (Memᴰ.tail m)))
  where
    go : (b : Bool) → ltb x s ≡ b → rank s l ≡ 0 → one_if b + rank s l ≡ 0
    go true e r = let k = h x (Memᴰ.head refl) in let j = ltb→lt x s (holds e) in omega arith
    go false e r = omega arith

-- an element of an ascending list stands at its rank
pub record Ranked (l : List ℕ) (s : ℕ) : Type 0 where
  pub below : rank s l < length l
  pub is : get_or l (rank s l) 0 ≡ s

pub ranked : (l : List ℕ) (s : ℕ) → Ascends ltb l → s ∈ l → Ranked l s
unfolding rank
ranked [] s a m = absurd (Memᴰ.not-nil m)
ranked (x ∷ l) s a m = go (λ u. ranked l s a.1 u) (Memᴰ.cases_cons m)
  where
    after : (y : ℕ) → y ∈ l → x < y
    after y u = ltb→lt x y (a.0 y u)

    here : s ≡ x → (b : Bool) → ltb x s ≡ b → rank s l ≡ 0 → (one_if b + rank s l < suc (length l))
        × (get_or (x ∷ l) (one_if b + rank s l) 0 ≡ s)
    here e true f r = let k = ltb→lt x s (holds f) in absurd (omega arith)
    here e false f r = let z : 0 + rank s l ≡ 0 = omega arith in (omega arith, rw z (sym e))

    there : x < s → Ranked l s → (b : Bool) → ltb x s ≡ b → (one_if b + rank s l < suc (length l))
        × (get_or (x ∷ l) (one_if b + rank s l) 0 ≡ s)
    there h r true f = let z : 1 + rank s l ≡ suc (rank s l) = omega arith in let k = r.below in (omega arith, rw z r.is)
    there h r false f = absurd (fails f (lt→ltb x s h))

    go : (s ∈ l → Ranked l s) → (s ≡ x) ⊎ (s ∈ l) → Ranked (x ∷ l) s
    go r (inl e) =
        let p = here e (ltb x s) refl (rank_none s l (λ y u. let k = after y u in omega arith)) in
        record { below = p.0; is = p.1 }
    go r (inr u) =
        let p = there (after s u) (r u) (ltb x s) refl in
        record { below = p.0; is = p.1 }

-- and place v has the element of rank v
pub rank_at : (l : List ℕ) (v : ℕ) → Ascends ltb l → v < length l → rank (get_or l v 0) l ≡ v
unfolding rank
rank_at [] v a h = absurd (omega arith)
rank_at (x ∷ l) zero a h = rank_none x (x ∷ l) (λ y m. go y (Memᴰ.cases_cons m))
  where
    go : (y : ℕ) → (y ≡ x) ⊎ (y ∈ l) → x ≤ y
    go y (inl e) = omega arith
    go y (inr u) = let k = ltb→lt x y (a.0 y u) in omega arith
rank_at (x ∷ l) (suc v) a h = go (ltb x (get_or l v 0)) refl (rank_at l v a.1 (omega arith))
  where
    go : (b : Bool) → ltb x (get_or l v 0) ≡ b → rank (get_or l v 0) l ≡ v → one_if b + rank (get_or l v 0) l ≡ suc v
    go true e r = omega arith
    go false e r = absurd (fails e (a.0 (get_or l v 0) (in_at l v (omega arith))))
      where
        in_at : (k : List ℕ) (i : ℕ) → i < length k → get_or k i 0 ∈ k
        in_at k i q = in_place 0 k i q

rank_le : (l : List ℕ) (s z : ℕ) → s < z → rank s l ≤ rank z l
unfolding rank
rank_le [] s z h = omega arith
rank_le (x ∷ l) s z h = go (ltb x s) refl (ltb x z) refl (rank_le l s z h)
  where
    go : (p : Bool) → ltb x s ≡ p → (q : Bool) → ltb x z ≡ q → rank s l ≤ rank z l → one_if p + rank s l ≤ one_if q + rank z l
    go true f true g r = omega arith
    go true f false g r = let k = ltb→lt x s (holds f) in absurd (fails g (lt→ltb x z (omega arith)))
    go false f true g r = omega arith
    go false f false g r = omega arith

-- ranks rise with the elements
pub rank_less : (l : List ℕ) (s z : ℕ) → s ∈ l → s < z → rank s l < rank z l
unfolding rank
rank_less [] s z m h = absurd (Memᴰ.not-nil m)
rank_less (x ∷ l) s z m h = go (Memᴰ.cases_cons m) (ltb x s) refl (ltb x z) refl (rank_less l s z) (rank_le l s z h)
  where
    go : (s ≡ x) ⊎ (s ∈ l) → (p : Bool) → ltb x s ≡ p → (q : Bool) → ltb x z ≡ q → (s ∈ l → s < z → rank s l < rank z l)
        → rank s l ≤ rank z l
        → one_if p + rank s l < one_if q + rank z l
    go (inl e) true f q g r w = let k = ltb→lt x s (holds f) in absurd (omega arith)
    go (inl e) false f true g r w = omega arith
    go (inl e) false f false g r w = absurd (fails g (lt→ltb x z (omega arith)))
    go (inr u) true f true g r w = let k = r u h in omega arith
    go (inr u) true f false g r w = let k = ltb→lt x s (holds f) in absurd (fails g (lt→ltb x z (omega arith)))
    go (inr u) false f true g r w = omega arith
    go (inr u) false f false g r w = let k = r u h in omega arith

-- places of an ascending list ascend
pub ascends_at : {A : Type 0} (less : A → A → Bool) (d : A) (l : List A) → Ascends less l → (i j : ℕ) → i < j → j < length l
    → T (less (get_or l i d) (get_or l j d))
ascends_at less d [] a i j h b = absurd (not-suc-le-zero b)
ascends_at less d (x ∷ l) a i zero h b = absurd (not-suc-le-zero h)
ascends_at less d (x ∷ l) a zero (suc j) h b = a.0 (get_or l j d) (in_place d l j (omega arith))
ascends_at less d (x ∷ l) a (suc i) (suc j) h b = ascends_at less d l a.1 i j (omega arith) (omega arith)
