-- Lists in the strict order of a relation: what is kept, mapped and joined of them stays in order, and the first of least cost is the least
-- in that order among those of least cost, since what stands behind it comes after it.
use mathlib.Core.Path.{◌≡◌, refl, sym, ap, subst, ◌∙◌}
use mathlib.Core.Bool.{Bool, true, false, cond}
use mathlib.Core.Logic.{◌⊎◌, inl, inr, ⊎_elim}
use mathlib.Core.List.Memᴰ
use mathlib.Core.List.{List, [], ◌∷◌, ◌++◌, map, flat_map, Memᴰ}
use Prim.Native.Nat.{ℕ, zero, suc, ◌+◌, ◌≤◌, ◌<◌}
use native.Mathlib.Omega.{arith}
use lib.Dec.{T}
use Rattle.trellis.specs.Lists.{◌∈◌, keep, run}
use Rattle.trellis.proofs.Ascending.{Ascends}
use Rattle.trellis.proofs.Lists.{of_run}
use Rattle.paths.specs.Choice.{Choice, some}
use Rattle.paths.specs.Inner.Ordered.{Ordered, ended, leads}
use Rattle.paths.proofs.First.{Chosen, First, first_chosen}

-- a member of flat_map g xs is one of some g x
pub record Within {A B : Type 0} (g : A → List B) (xs : List A) (b : B) : Type 0 where
  pub source : A
  pub listed : source ∈ xs
  pub holds : Memᴰ b (g source)

pub of_flat_map : {A B : Type 0} (g : A → List B) (xs : List A) (b : B) → Memᴰ b (flat_map g xs) → Within g xs b
unfolding flat_map
of_flat_map g [] b m = absurd (Memᴰ.not-nil m)
of_flat_map {A} {B} g (x ∷ xs) b m =
    ⊎_elim (λ k. record { source = x; listed = Memᴰ.head refl; holds = k }) (λ k. further (of_flat_map g xs b k))
    (Memᴰ.append_cases (g x) m)
  where
    further : Within g xs b → Within g (x ∷ xs) b
    further w = record { source = w.source; listed = Memᴰ.tail w.listed; holds = w.holds }

pub record Kept {A : Type 0} (test : A → Bool) (xs : List A) (y : A) : Type 0 where
  pub listed : y ∈ xs
  pub passes : T (test y)

pub of_keep : {A : Type 0} (test : A → Bool) (xs : List A) (y : A) → Memᴰ y (keep test xs) → Kept test xs y
unfolding keep
of_keep test [] y m = absurd (Memᴰ.not-nil m)
of_keep {A} test (x ∷ xs) y m = go (test x) refl (of_keep test xs y) m
  where
    further : Kept test xs y → Kept test (x ∷ xs) y
    further k = record { listed = Memᴰ.tail k.listed; passes = k.passes }

    go : (b : Bool) → test x ≡ b → (Memᴰ y (keep test xs) → Kept test xs y) → Memᴰ y (cond b (x ∷ keep test xs) (keep test xs))
        → Kept test (x ∷ xs) y
    go true e r k =
        ⊎_elim (λ p. record { listed = Memᴰ.head p; passes = subst T (sym (ap test p ∙ e)) tt }) (λ l. further (r l))
        (Memᴰ.cases_cons k)
    go false e r k = further (r k)

pub in_flat_map : {A B : Type 0} (g : A → List B) (xs : List A) (b : B) (x : A) → x ∈ xs → b ∈ g x → b ∈ flat_map g xs
unfolding flat_map
in_flat_map g [] b x m k = absurd (Memᴰ.not-nil m)
in_flat_map g (y ∷ xs) b x m k =
    ⊎_elim (λ e. Memᴰ.append_left (flat_map g xs) (subst (λ z. b ∈ g z) e k)) (λ l. Memᴰ.append_right (g y) (in_flat_map g xs b x l k))
    (Memᴰ.cases_cons m)

module _ {A : Type 0} (test : A → Bool) where
  pub in_keep : (xs : List A) (x : A) → x ∈ xs → test x ≡ true → x ∈ keep test xs
  unfolding keep
  in_keep [] x m e = absurd (Memᴰ.not-nil m)
  in_keep (y ∷ xs) x m e = ⊎_elim here (λ l. there (test y) (in_keep xs x l e)) (Memᴰ.cases_cons m)
    where
      here : x ≡ y → x ∈ cond (test y) (y ∷ keep test xs) (keep test xs)
      here k = subst (λ b. x ∈ cond b (y ∷ keep test xs) (keep test xs)) (sym (sym (ap test k) ∙ e)) (Memᴰ.head k)

      there : (b : Bool) → x ∈ keep test xs → x ∈ cond b (y ∷ keep test xs) (keep test xs)
      there true l = Memᴰ.tail l
      there false l = l

  pub keep_append : (xs ys : List A) → keep test (xs ++ ys) ≡ keep test xs ++ keep test ys
  unfolding keep
  keep_append [] ys = refl
  keep_append (x ∷ xs) ys = rw (keep_append xs ys) (go (test x))
    where
      go : (b : Bool)
          → cond b (x ∷ (keep test xs ++ keep test ys)) (keep test xs ++ keep test ys)
          ≡ cond b (x ∷ keep test xs) (keep test xs) ++ keep test ys
      go true = refl
      go false = refl

  pub keep_every : (xs : List A) → ((x : A) → x ∈ xs → test x ≡ true) → keep test xs ≡ xs
  unfolding keep
  keep_every [] h = refl
  keep_every (x ∷ xs) h = rw (h x (Memᴰ.head refl), keep_every xs (λ y m. h y (Memᴰ.tail m)))

  pub keep_no : (xs : List A) → ((x : A) → x ∈ xs → test x ≡ false) → keep test xs ≡ []
  unfolding keep
  keep_no [] h = refl
  keep_no (x ∷ xs) h = rw (h x (Memᴰ.head refl)) (keep_no xs (λ y m. h y (Memᴰ.tail m)))

-- trellis's ascending lists
pub ordered_of : {A : Type 0} (less : A → A → Bool) (l : List A) → Ascends less l → Ordered (λ x y. T (less x y)) l
ordered_of less [] a = ended
ordered_of less (x ∷ l) a = leads a.0 (ordered_of less l a.1)

module _ {A : Type 0} {R : A → A → Type 0} where
  pub ordered_append : {xs ys : List A} → Ordered R xs → Ordered R ys → ((x y : A) → x ∈ xs → y ∈ ys → R x y) → Ordered R (xs ++ ys)
  ordered_append ended b h = b
  ordered_append (leads {x = x} {xs = xs} f a) b h =
      leads (λ y m. ⊎_elim (f y) (h x y (Memᴰ.head refl)) (Memᴰ.append_cases xs m))
      (ordered_append a b (λ u v p q. h u v (Memᴰ.tail p) q))

  pub ordered_keep : (test : A → Bool) {xs : List A} → Ordered R xs → Ordered R (keep test xs)
  unfolding keep
  ordered_keep test ended = ended
  ordered_keep test (leads {x = x} {xs = xs} f a) = go (test x) (ordered_keep test a)
    where
      go : (b : Bool) → Ordered R (keep test xs) → Ordered R (cond b (x ∷ keep test xs) (keep test xs))
      go true r = leads (λ y m. f y (of_keep test xs y m).listed) r
      go false r = r

  -- an order that is stronger on the members
  pub ordered_as : {S : A → A → Type 0} {xs : List A} → ((x y : A) → x ∈ xs → y ∈ xs → R x y → S x y) → Ordered R xs → Ordered S xs
  ordered_as h ended = ended
  ordered_as h (leads {x = x} f a) =
      leads (λ y m. h x y (Memᴰ.head refl) (Memᴰ.tail m) (f y m))
      (ordered_as (λ u v p q. h u v (Memᴰ.tail p) (Memᴰ.tail q)) a)

  -- what stands behind a member is after it
  pub after_member : (front : List A) {p : A} {back : List A} → Ordered R (front ++ (p ∷ back)) → (q : A) → q ∈ back → R p q
  after_member [] (leads f a) q m = f q m
  after_member (x ∷ front) (leads f a) q m = after_member front a q m

  -- the chosen member is before every other that is as cheap
  pub chosen_in_order : {P : Type 0} {f : A → Choice P} {xs : List A} {c : ℕ} {p : P} → Ordered R xs → (C : Chosen f xs c p) → (y : A)
      → y ∈ xs → (d : ℕ) (q : P)
      → f y ≡ some d q → d ≤ c → (y ≡ C.member) ⊎ R C.member y
  chosen_in_order {P} {f} {xs} {c} {p} a C y m d q e h =
      ⊎_elim (λ k. let l = C.dearer y k d q e in absurd (omega arith)) (λ k. ⊎_elim inl behind (Memᴰ.cases_cons k))
      (Memᴰ.append_cases C.front (subst (Memᴰ y) C.split m))
    where
      behind : Memᴰ y C.back → (y ≡ C.member) ⊎ R C.member y
      behind k = inr (after_member C.front (subst (Ordered R) C.split a) y k)

  pub first_in_order : {cost : A → ℕ} {xs : List A} {c : ℕ} {p : A} → Ordered R xs → First cost xs c p → (q : A) → q ∈ xs → cost q ≤ c
      → (q ≡ p) ⊎ R p q
  unfolding first_chosen
  first_in_order {cost} {xs} {c} {p} a F q m h = chosen_in_order a (first_chosen cost F) q m (cost q) q refl h

module _ {A B : Type 0} {R : A → A → Type 0} {S : B → B → Type 0} where
  pub ordered_map : (g : A → B) → ((x y : A) → R x y → S (g x) (g y)) → {xs : List A} → Ordered R xs → Ordered S (map g xs)
  ordered_map g h ended = ended
  ordered_map g h (leads {x = x} {xs = xs} f a) =
      leads (λ b m. let w = Memᴰ.of_map g xs m in subst (S (g x)) w.2 (h x w.0 (f w.0 w.1))) (ordered_map g h a)

  pub ordered_flat_map : (g : A → List B) {xs : List A} → Ordered R xs → ((x : A) → x ∈ xs → Ordered S (g x))
      → ((x y : A) → R x y → (a b : B) → Memᴰ a (g x) → Memᴰ b (g y) → S a b) → Ordered S (flat_map g xs)
  unfolding flat_map
  ordered_flat_map g ended each across = ended
  ordered_flat_map g (leads {x = x} {xs = xs} f a) each across =
      ordered_append (each x (Memᴰ.head refl)) (ordered_flat_map g a (λ y m. each y (Memᴰ.tail m)) across)
      (λ u v p q. let w = of_flat_map g xs v q in across x w.source (f w.source w.listed) u v p w.holds)

pub run_ordered : {A : Type 0} {R : A → A → Type 0} (f : ℕ → A) (at count : ℕ) → ((j k : ℕ) → j < k → k < at + count → R (f j) (f k))
    → Ordered R (run f at count)
unfolding run
run_ordered f at zero h = ended
run_ordered {A} {R} f at (suc count) h =
    leads (λ y m. let F = of_run f (suc at) count y m in subst (R (f at)) (sym F.is)
    (h at (suc at + F.at) (omega arith) (omega (arith, F.below))))
    (run_ordered f (suc at) count (λ j k a b. h j k a (omega arith)))
