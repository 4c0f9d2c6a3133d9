-- How many different values a list holds, and the pigeonhole in two laws: values that all stand in a list are no more than it is long, and
-- a list without repeats is no longer than the different values it is taken from. By taking one element after another out of the longer
-- list.
use mathlib.Core.Path.{◌≡◌, refl, sym, ap, subst, ◌∙◌}
use mathlib.Core.Bool.{Bool, true, false}
use mathlib.Core.Logic.{◌⊎◌, inl, inr}
use mathlib.Core.List.Memᴰ
use mathlib.Core.List.{List, [], ◌∷◌, map}
use Prim.Native.Nat.{ℕ, zero, suc, ◌+◌, ◌≤◌, ◌<◌}
use native.Mathlib.Omega.{arith}
use native.Mathlib.Nat.{not-suc-le-zero, le_antisymm}
use native.Mathlib.Decide.{ℕ_discrete}
use lib.ListN.{length}
use lib.Dec.{T}
use Rattle.trellis.specs.Lists.{◌∈◌, Once, is_in}
use Rattle.trellis.proofs.Lists.{in_yes, in_of, From}

-- 0 where the test passes
abbrev pub unless : Bool → ℕ
unless true = 0
unless false = 1

module _ {A : Type 0} (eq : A → A → Bool) where
  -- 1 where x is no value of l
  unfoldable pub new : A → List A → ℕ
  new x l = unless (is_in eq x l)

  -- how many different values l has: a value counts where nothing later in the list repeats it
  unfoldable pub distinct : List A → ℕ
  distinct [] = 0
  distinct (x ∷ l) = new x l + distinct l

  pub record Fresh (x : A) (l : List A) : Type 0 where
    pub one : new x l ≡ 1
    pub never : x ∈ l → ⊥

  pub record Stale (x : A) (l : List A) : Type 0 where
    pub none : new x l ≡ 0
    pub seen : x ∈ l

  -- x is new to the list, or seen there
  abbrev pub Known : A → List A → Type 0
  Known x l = Fresh x l ⊎ Stale x l

  module _ (ok : (x y : A) → T (eq x y) → x ≡ y) (rf : (x : A) → T (eq x x)) where
    pub look : (x : A) (l : List A) → Known x l
    unfolding new
    look x l = go (is_in eq x l) refl
      where
        go : (b : Bool) → is_in eq x l ≡ b → Known x l
        go true e = inr (record { none = ap unless e; seen = in_yes eq ok rf x l (subst T (sym e) tt) })
        go false e = inl (record { one = ap unless e; never = λ m. subst T e (in_of eq ok rf x l m) })

    pub stale_of : (x : A) (l : List A) → x ∈ l → new x l ≡ 0
    stale_of x l m = go (look x l)
      where
        go : Known x l → new x l ≡ 0
        go (inl f) = absurd (f.never m)
        go (inr s) = s.none

    -- L without one x: what is left
    pub record Without (x : A) (L : List A) : Type 0 where
      pub rest : List A
      pub shorter : length L ≡ suc (length rest)
      pub keeps : (y : A) → y ∈ L → (y ≡ x → ⊥) → y ∈ rest
      pub part : (y : A) → y ∈ rest → y ∈ L
      pub once : Once L → Once rest × (x ∈ rest → ⊥)

    pub pluck : (x : A) (L : List A) → x ∈ L → Without x L
    pluck x [] m = absurd (Memᴰ.not-nil m)
    pluck x (y ∷ l) m = go (pluck x l) (Memᴰ.cases_cons m)
      where
        here : (z : A) → x ≡ y → (z ≡ x → ⊥) → (z ≡ y) ⊎ (z ∈ l) → z ∈ l
        here z e n (inl f) = absurd (n (f ∙ sym e))
        here z e n (inr u) = u

        keep : (w : Without x l) (z : A) → (z ≡ x → ⊥) → (z ≡ y) ⊎ (z ∈ l) → z ∈ y ∷ w.rest
        keep w z n (inl e) = Memᴰ.head e
        keep w z n (inr u) = Memᴰ.tail (w.keeps z u n)

        back : (w : Without x l) (z : A) → (z ≡ y) ⊎ (z ∈ w.rest) → z ∈ y ∷ l
        back w z (inl e) = Memᴰ.head e
        back w z (inr u) = Memᴰ.tail (w.part z u)

        lone : (w : Without x l) → x ∈ l → Once (y ∷ l) → (x ≡ y) ⊎ (x ∈ w.rest) → ⊥
        lone w u o (inl e) = o.0 (Memᴰ.cast (sym e) u)
        lone w u o (inr v) = (w.once o.1).1 v

        go : (x ∈ l → Without x l) → (x ≡ y) ⊎ (x ∈ l) → Without x (y ∷ l)
        go r (inl e) = record {
          rest = l;
          shorter = refl;
          keeps = λ z u n. here z e n (Memᴰ.cases_cons u);
          part =
              λ z u. Memᴰ.tail u;
          once = λ o. (o.1, λ u. o.0 (Memᴰ.cast (sym e) u));
        }
        go r (inr u) = let w = r u in
            record {
              rest = y ∷ w.rest;
              shorter = ap suc w.shorter;
              keeps = λ z v n. keep w z n (Memᴰ.cases_cons v);
              part =
                  λ z v. back w z (Memᴰ.cases_cons v);
              once =
                  λ o. ((λ v. o.0 (w.part y v), (w.once o.1).0), λ v. lone w u o (Memᴰ.cases_cons v));
            }

    -- values that all stand in L are no more than L is long
    pub distinct_le : (l L : List A) → ((x : A) → x ∈ l → x ∈ L) → distinct l ≤ length L
    unfolding distinct
    distinct_le [] L h = omega arith
    distinct_le (x ∷ l) L h = go (distinct_le l) (look x l) (pluck x L (h x (Memᴰ.head refl)))
      where
        go : ((K : List A) → ((y : A) → y ∈ l → y ∈ K) → distinct l ≤ length K) → Known x l → Without x L → new x l + distinct l ≤ length L
        go r (inl f) w = let d : distinct l ≤ length w.rest =
            r w.rest (λ y m. w.keeps y (h y (Memᴰ.tail m)) (λ e. f.never (Memᴰ.cast (sym e) m))) in omega arith
        go r (inr s) w = let d : distinct l ≤ length L = r L (λ y m. h y (Memᴰ.tail m)) in omega arith

    -- a list without repeats whose values all stand in l is no longer than the different values of l
    pub le_distinct : (l L : List A) → Once L → ((x : A) → x ∈ L → x ∈ l) → length L ≤ distinct l
    unfolding distinct
    le_distinct [] [] o h = omega arith
    le_distinct [] (x ∷ L) o h = absurd (Memᴰ.not-nil (h x (Memᴰ.head refl)))
    le_distinct (x ∷ l) L o h = go (le_distinct l) (look x l) (look x L)
      where
        old : (y : A) → x ∈ l → (y ≡ x) ⊎ (y ∈ l) → y ∈ l
        old y m (inl e) = Memᴰ.cast e m
        old y m (inr u) = u

        other : (y : A) → (y ≡ x → ⊥) → (y ≡ x) ⊎ (y ∈ l) → y ∈ l
        other y n (inl e) = absurd (n e)
        other y n (inr u) = u

        go : ((K : List A) → Once K → ((y : A) → y ∈ K → y ∈ l) → length K ≤ distinct l) → Known x l → Known x L
            → length L ≤ new x l + distinct l
        go r (inr s) g = let d : length L ≤ distinct l = r L o (λ y m. old y s.seen (Memᴰ.cases_cons (h y m))) in omega arith
        go r (inl f) (inl g) = let d : length L ≤ distinct l =
            r L o (λ y m. other y (λ e. g.never (Memᴰ.cast (sym e) m)) (Memᴰ.cases_cons (h y m))) in omega arith
        go r (inl f) (inr g) =
            let w = pluck x L g.seen in
            let d : length w.rest ≤ distinct l =
            r w.rest (w.once o).0
            (λ y m. other y (λ e. (w.once o).1 (Memᴰ.cast (sym e) m)) (Memᴰ.cases_cons (h y (w.part y m)))) in
            let e = w.shorter in
            omega arith

    -- a list without repeats that has just the values of l is as long as l has different values
    pub length_distinct : (l L : List A) → Once L → ((x : A) → x ∈ L → x ∈ l) → ((x : A) → x ∈ l → x ∈ L) → length L ≡ distinct l
    length_distinct l L o a b = le_antisymm (le_distinct l L o a) (distinct_le l L b)

    -- a list without repeats is no longer than one that has all its values
    pub once_le : (l L : List A) → Once l → ((x : A) → x ∈ l → x ∈ L) → length l ≤ length L
    once_le l L o h = omega (arith, le_distinct L l o h, distinct_le L L (λ x m. m))

-- what is taken from a list without repeats, no two to one, has no repeats
pub once_map : {A B : Type 0} (f : A → B) (l : List A) → Once l → ((x y : A) → x ∈ l → y ∈ l → f x ≡ f y → x ≡ y) → Once (map f l)
once_map f [] o h = tt
once_map f (x ∷ l) o h = (
  λ m. let z = Memᴰ.of_map f l m in o.0 (Memᴰ.cast (h x z.0 (Memᴰ.head refl) (Memᴰ.tail z.1) (sym z.2)) z.1),
  once_map f l o.1 (λ a b p q. h a b (Memᴰ.tail p) (Memᴰ.tail q)),
)

-- ---- the values f 0 .. f (W - 1) of a function, the last first

unfoldable pub upto {ℓ} : {A : Type ℓ} → (ℕ → A) → ℕ → List A
upto f zero = []
upto f (suc n) = f n ∷ upto f n

pub in_upto : {A : Type 0} (f : ℕ → A) (n j : ℕ) (x : A) → j < n → x ≡ f j → x ∈ upto f n
unfolding upto
in_upto f zero j x h e = absurd (not-suc-le-zero h)
in_upto {A} f (suc n) j x h e = go (ℕ_discrete j n) (in_upto f n j x)
  where
    go : Dec (j ≡ n) → (j < n → x ≡ f j → x ∈ upto f n) → x ∈ f n ∷ upto f n
    go (yes q) r = Memᴰ.head (e ∙ ap f q)
    go (no q) r = Memᴰ.tail (r (omega arith) e)

pub from_upto : {A : Type 0} (f : ℕ → A) (n : ℕ) (x : A) → x ∈ upto f n → From f n x
unfolding upto
from_upto f zero x m = absurd (Memᴰ.not-nil m)
from_upto {A} f (suc n) x m = go (from_upto f n x) (Memᴰ.cases_cons m)
  where
    go : (x ∈ upto f n → From f n x) → (x ≡ f n) ⊎ (x ∈ upto f n) → From f (suc n) x
    go r (inl e) = record { at = n; below = omega arith; is = e }
    go r (inr u) = let w = r u in record { at = w.at; below = omega arith; is = w.is }
