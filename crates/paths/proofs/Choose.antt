-- Laws of choosing: `choose` is associative and `extend` goes through it, so the first of least cost among joined, mapped and nested lists
-- follows from those of their parts. That is the whole of the dynamic program.
use mathlib.Core.Path.{◌≡◌, refl, sym, ap, ap₂, ◌∙◌}
use mathlib.Core.Bool.{cond}
use mathlib.Core.List.{List, [], ◌∷◌, ◌++◌, map, flat_map}
use Prim.Native.Nat.{ℕ, ◌+◌, ◌≤◌, ◌<◌}
use native.Mathlib.Nat.{add_assoc}
use native.Mathlib.Omega.{arith}
use native.Mathlib.Decide.{dec_le}
use borrow.Author.Tests.{le-leb, lt-leb}
use Rattle.paths.specs.Choice.{Choice, none, some, choose, best}

-- d more to pay, for f of what is had
unfoldable pub extend : {P Q : Type 0} → ℕ → (P → Q) → Choice P → Choice Q
extend d f none = none
extend d f (some c p) = some (d + c) (f p)

-- the first of least cost among what the members of a list offer
unfoldable pub choose_all : {A P : Type 0} → (A → Choice P) → List A → Choice P
choose_all f [] = none
choose_all f (x ∷ xs) = choose (f x) (choose_all f xs)

-- ---- two offers
module _ {P : Type 0} where
  pub choose_left : (p q : P) {c d : ℕ} → c ≤ d → choose (some c p) (some d q) ≡ some c p
  unfolding choose
  choose_left p q {c} {d} h = ap (λ b. cond b (some c p) (some d q)) (le-leb c d h)

  pub choose_right : (p q : P) {c d : ℕ} → d < c → choose (some c p) (some d q) ≡ some d q
  unfolding choose
  choose_right p q {c} {d} h = ap (λ b. cond b (some c p) (some d q)) (lt-leb c d h)

  pub choose_none : (a : Choice P) → choose a none ≡ a
  unfolding choose
  choose_none none = refl
  choose_none (some c p) = refl

  pub choose_assoc : (a b c : Choice P) → choose (choose a b) c ≡ choose a (choose b c)
  unfolding choose
  choose_assoc none b c = refl
  choose_assoc (some u p) none c = refl
  choose_assoc (some u p) (some v q) none = choose_none _
  choose_assoc (some u p) (some v q) (some w r) = go (dec_le u v) (dec_le v w)
    where
      go : Dec (u ≤ v) → Dec (v ≤ w) → choose (choose (some u p) (some v q)) (some w r) ≡ choose (some u p) (choose (some v q) (some w r))
      go (yes h) (yes k) = rw (choose_left p q h, choose_left q r k, choose_left p q h) (choose_left p r (omega arith))
      go (yes h) (no k) = let l : w < v = omega arith in rw (choose_left p q h, choose_right q r l)
      go (no h) (yes k) = let l : v < u = omega arith in rw (choose_right p q l, choose_left q r k, choose_right p q l)
      go (no h) (no k) =
          let l : v < u = omega arith in
          let m : w < v = omega arith in
          rw (choose_right p q l, choose_right q r m) (sym (choose_right p r (omega arith)))

module _ {P Q : Type 0} (d : ℕ) (f : P → Q) where
  pub extend_choose : (a b : Choice P) → extend d f (choose a b) ≡ choose (extend d f a) (extend d f b)
  unfolding extend choose
  extend_choose none b = refl
  extend_choose (some u p) none = refl
  extend_choose (some u p) (some v q) = go (dec_le u v)
    where
      go : Dec (u ≤ v) → extend d f (choose (some u p) (some v q)) ≡ choose (some (d + u) (f p)) (some (d + v) (f q))
      go (yes h) = rw (choose_left p q h) (sym (choose_left (f p) (f q) (omega arith)))
      go (no h) = let l : v < u = omega arith in rw (choose_right p q l) (sym (choose_right (f p) (f q) (omega arith)))

pub extend_extend : {P Q R : Type 0} (d e : ℕ) (f : P → Q) (g : Q → R) (a : Choice P)
    → extend e g (extend d f a) ≡ extend (e + d) (λ p. g (f p)) a
unfolding extend
extend_extend d e f g none = refl
extend_extend d e f g (some c p) = ap (λ n. some n (g (f p))) (sym (add_assoc e d c))

-- ---- the members of a list
module _ {A P : Type 0} (f : A → Choice P) where
  pub all_append : (xs ys : List A) → choose_all f (xs ++ ys) ≡ choose (choose_all f xs) (choose_all f ys)
  unfolding choose_all choose
  all_append [] ys = refl
  all_append (x ∷ xs) ys = rw (all_append xs ys) (sym (choose_assoc (f x) (choose_all f xs) (choose_all f ys)))

  pub all_map : {B : Type 0} (g : B → A) (xs : List B) → choose_all f (map g xs) ≡ choose_all (λ x. f (g x)) xs
  unfolding choose_all
  all_map g [] = refl
  all_map g (x ∷ xs) = ap (choose (f (g x))) (all_map g xs)

  pub all_flat_map : {B : Type 0} (g : B → List A) (xs : List B) → choose_all f (flat_map g xs) ≡ choose_all (λ x. choose_all f (g x)) xs
  unfolding choose_all flat_map
  all_flat_map g [] = refl
  all_flat_map g (x ∷ xs) = all_append (g x) (flat_map g xs) ∙ ap (choose (choose_all f (g x))) (all_flat_map g xs)

  pub all_extend : {Q : Type 0} (d : ℕ) (g : P → Q) (xs : List A) → choose_all (λ x. extend d g (f x)) xs ≡ extend d g (choose_all f xs)
  unfolding choose_all extend
  all_extend d g [] = refl
  all_extend d g (x ∷ xs) = ap (choose (extend d g (f x))) (all_extend d g xs) ∙ sym (extend_choose d g (f x) (choose_all f xs))

-- the same offers, one by one
pub all_same : {A P : Type 0} {f g : A → Choice P} → ((x : A) → f x ≡ g x) → (xs : List A) → choose_all f xs ≡ choose_all g xs
unfolding choose_all
all_same h [] = refl
all_same h (x ∷ xs) = ap₂ choose (h x) (all_same h xs)

-- where each member offers itself
pub best_all : {P : Type 0} (cost : P → ℕ) (xs : List P) → best cost xs ≡ choose_all (λ p. some (cost p) p) xs
unfolding best choose_all
best_all cost [] = refl
best_all cost (x ∷ xs) = ap (choose (some (cost x) x)) (best_all cost xs)
