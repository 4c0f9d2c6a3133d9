-- The numbers of specs/inner/Costs are the costs of what is best, cut off at `top`: capping goes through `choose` and `extend`. Where no
-- cost can reach `top`, it says that there is no path.
use mathlib.Core.Path.{◌≡◌, refl, sym, ap, ap₂, ◌∙◌}
use mathlib.Core.List.Memᴰ
use mathlib.Core.List.{List, [], ◌∷◌}
use Prim.Native.Nat.{ℕ, zero, suc, ◌+◌, ◌*◌, ◌≤◌, ◌<◌, min}
use native.Mathlib.Nat.{suc-mul}
use native.Mathlib.Omega.{arith}
use native.Mathlib.Decide.{dec_le}
use Rattle.trellis.specs.Lists.{◌∈◌}
use Rattle.paths.specs.Choice.{Choice, none, some, choose, paid_or}
use Rattle.paths.specs.Inner.Graph.{Graph}
use Rattle.paths.specs.Inner.Costs.{plus, min_all, least}
use Rattle.paths.proofs.Choose.{choose_left, choose_right, extend, choose_all}
use Rattle.paths.proofs.First.{all_chosen}
use Rattle.paths.proofs.Walk.{Prices, ahead}

-- what is paid, cut off at `top`
unfoldable pub capped : {P : Type 0} → ℕ → Choice P → ℕ
capped top none = top
capped top (some c p) = min top c

module _ (top : ℕ) where
  pub capped_le : {P : Type 0} (a : Choice P) → capped top a ≤ top
  unfolding capped
  capped_le none = omega arith
  capped_le (some c p) = omega arith

  pub capped_choose : {P : Type 0} (a b : Choice P) → capped top (choose a b) ≡ min (capped top a) (capped top b)
  unfolding capped choose
  capped_choose none none = omega arith
  capped_choose none (some d q) = omega arith
  capped_choose (some c p) none = omega arith
  capped_choose (some c p) (some d q) = go (dec_le c d)
    where
      go : Dec (c ≤ d) → capped top (choose (some c p) (some d q)) ≡ min (min top c) (min top d)
      go (yes h) = rw (choose_left p q h) (omega arith)
      go (no h) = let l : d < c = omega arith in rw (choose_right p q l) (omega arith)

  pub capped_extend : {P Q : Type 0} (d : ℕ) (f : P → Q) (a : Choice P) → capped top (extend d f a) ≡ plus top d (capped top a)
  unfolding capped extend plus
  capped_extend d f none = omega arith
  capped_extend d f (some c p) = omega arith

  -- nothing more to pay
  pub capped_keep : {P Q : Type 0} (f : P → Q) (a : Choice P) → capped top (extend 0 f a) ≡ capped top a
  unfolding capped extend
  capped_keep f none = refl
  capped_keep f (some c p) = omega arith

  pub capped_all : {A P : Type 0} (f : A → Choice P) (xs : List A) → capped top (choose_all f xs) ≡ min_all top (λ x. capped top (f x)) xs
  unfolding choose_all min_all capped
  capped_all f [] = refl
  capped_all f (x ∷ xs) = capped_choose (f x) (choose_all f xs) ∙ ap (min (capped top (f x))) (capped_all f xs)

  pub min_all_le : {A : Type 0} (f : A → ℕ) (xs : List A) → min_all top f xs ≤ top
  unfolding min_all
  min_all_le f [] = omega arith
  min_all_le f (x ∷ xs) = let h = min_all_le f xs in omega arith

  pub min_same_in : {A : Type 0} {f g : A → ℕ} (xs : List A) → ((x : A) → x ∈ xs → f x ≡ g x) → min_all top f xs ≡ min_all top g xs
  unfolding min_all
  min_same_in [] h = refl
  min_same_in (x ∷ xs) h = ap₂ min (h x (Memᴰ.head refl)) (min_same_in xs (λ y m. h y (Memᴰ.tail m)))

  pub min_same : {A : Type 0} {f g : A → ℕ} → ((x : A) → f x ≡ g x) → (xs : List A) → min_all top f xs ≡ min_all top g xs
  min_same h xs = min_same_in xs (λ x m. h x)

  -- the table holds the cost of the best
  module _ {E P : Type 0} {G : Graph E P} (Q : Prices G) (final : ℕ → ℕ) (ended : (t v : ℕ) → final v ≡ capped top (ahead Q zero t v)) where
    pub least_ahead : (k t v : ℕ) → least G Q.cost top final k t v ≡ capped top (ahead Q k t v)
    unfolding least ahead
    least_ahead zero t v = ended t v
    least_ahead (suc k) t v =
        min_same (λ e. ap (plus top (Q.cost t e)) (least_ahead k (suc t) (G.to e))
        ∙ sym (capped_extend (Q.cost t e) (G.onto e) (ahead Q k (suc t) (G.to e)))) (G.out t v)
        ∙ sym (capped_all (λ e. extend (Q.cost t e) (G.onto e) (ahead Q k (suc t) (G.to e))) (G.out t v))

-- ---- where costs stay below top, the number tells all
abbrev pub AtMost : {P : Type 0} → ℕ → Choice P → Type 0
AtMost {P} b a = (c : ℕ) (p : P) → a ≡ some c p → c ≤ b

-- a number below top is the cost of something
pub record Had {P : Type 0} (a : Choice P) (c : ℕ) : Type 0 where
  pub what : P
  pub is : a ≡ some c what

pub capped_had : {P : Type 0} (top : ℕ) (a : Choice P) → capped top a < top → Had a (capped top a)
unfolding capped
capped_had top none h = absurd (omega arith)
capped_had top (some c p) h = let e : min top c ≡ c = omega arith in record { what = p; is = ap (λ n. some n p) (sym e) }

pub capped_is : {P : Type 0} (top : ℕ) (a : Choice P) {c : ℕ} {p : P} → a ≡ some c p → c < top → capped top a ≡ c
unfolding capped
capped_is top a {c} {p} e h = ap (capped top) e ∙ omega arith

-- what is dearer has a greater number
pub capped_above : {P : Type 0} (top c : ℕ) (a : Choice P) → c < top → ((d : ℕ) (q : P) → a ≡ some d q → c < d) → c < capped top a
unfolding capped
capped_above top c none h f = h
capped_above top c (some d q) h f = let l = f d q refl in omega arith

-- and top itself says that there is nothing
pub capped_none : {P : Type 0} (top b : ℕ) (a : Choice P) → AtMost b a → b < top → capped top a ≡ top → a ≡ none
unfolding capped
capped_none top b none m h e = refl
capped_none top b (some c p) m h e = let l = m c p refl in absurd (omega arith)

-- nothing is cut off
pub capped_paid : {P : Type 0} (top b : ℕ) (a : Choice P) → AtMost b a → b < top → paid_or top a ≡ capped top a
unfolding paid_or capped
capped_paid top b none m h = refl
capped_paid top b (some c p) m h = let l = m c p refl in omega arith

pub extend_at_most : {P Q : Type 0} (d b : ℕ) (f : P → Q) (a : Choice P) → AtMost b a → AtMost (d + b) (extend d f a)
unfolding extend
extend_at_most d b f none m c q e = let z : ◌≡◌ {A = ℕ} 0 1 = cc in absurd (omega arith)
extend_at_most d b f (some u p) m c q e = let i : d + u ≡ c = cc in let l = m u p refl in omega arith

-- paths of k edges, each of cost d at most
pub ahead_at_most : {E P : Type 0} {G : Graph E P} (Q : Prices G) (b d : ℕ) → ((t : ℕ) (e : E) → Q.cost t e ≤ d)
    → ((t v : ℕ) → AtMost b (ahead Q zero t v))
    → (k t v : ℕ) → AtMost (k * d + b) (ahead Q k t v)
unfolding ahead
ahead_at_most {E} {P} {G} Q b d h z zero t v c p e = let l = z t v c p e in omega arith
ahead_at_most {E} {P} {G} Q b d h z (suc k) t v c p e =
    let C = all_chosen (λ x. extend (Q.cost t x) (G.onto x) (ahead Q k (suc t) (G.to x))) (G.out t v) e in
    let x = C.member in
    let l = extend_at_most (Q.cost t x) (k * d + b) (G.onto x) (ahead Q k (suc t) (G.to x))
    (ahead_at_most Q b d h z k (suc t) (G.to x)) c p C.offers in
    omega (arith, h t x, suc-mul k d)
