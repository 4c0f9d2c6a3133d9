-- Numbers that rank the members of a list: a distance f, below it a key K that stays under `distance_unit`, and both in one number F, cut
-- off at the top. A smaller distance gives a smaller number, so the least number has the least distance; and where keys ascend, it belongs
-- to the first member of that distance. A number below the top is cut off nowhere; d is the distance with nothing cut off.
use mathlib.Core.Path.{◌≡◌, refl, ap}
use mathlib.Core.Bool.{Bool, true, false, cond}
use mathlib.Core.Logic.{⊎_elim}
use mathlib.Core.Option.{some as just}
use mathlib.Core.List.Memᴰ
use mathlib.Core.List.{List, [], ◌∷◌}
use Prim.Native.Nat.{ℕ, ◌+◌, ◌*◌, ◌/◌, ◌≤◌, ◌<◌, min}
use native.Mathlib.Omega.{arith}
use native.Mathlib.Decide.{dec_le}
use lib.Dec.{eqb}
use borrow.Author.Tests.{eqb-true, eqb-false}
use Rattle.trellis.specs.Lists.{◌∈◌}
use Rattle.paths.specs.Inner.Costs.{plus, min_all, first_with}
use Rattle.paths.specs.Inner.Ranked.{label_unit, distance_unit, ranked, top_rank, ranked_left}
use Rattle.paths.specs.Inner.Ordered.{Ordered, leads, ended}

-- ---- one word: its distance f, its label and goal in one number K, and all three in one number F

pub record Ranks (f d F K : ℕ) : Type 0 where
  pub front : F / distance_unit ≡ f
  pub whole : F < top_rank → F ≡ f * distance_unit + K
  pub uncut : F < top_rank → f ≡ d
  pub small : K < distance_unit

pub ranks : (rest : ℕ → ℕ) (d label goal : ℕ) → rest goal ≤ 4294967295 → label < 65536 → goal < label_unit
    → Ranks (plus 4294967295 d (rest goal)) (d + rest goal)
    (plus top_rank (d * distance_unit + label * label_unit) (ranked_left (rest goal) goal))
    (label * label_unit + goal)
unfolding plus ranked_left ranked
ranks rest d label goal h l g = record { front = omega arith; whole = λ z. omega arith; uncut = λ z. omega arith; small = omega arith }

-- what is not cheaper, and comes no sooner where it is as cheap
above : {f d F K : ℕ} → Ranks f d F K → (c k : ℕ) → c < 4294967295 → k < distance_unit → c ≤ f → k ≤ K → c * distance_unit + k ≤ F
above {f} {d} {F} {K} r c k h s l j = go (dec_le f c)
  where
    go : Dec (f ≤ c) → c * distance_unit + k ≤ F
    go (yes a) = let e = r.front in let w = r.whole (omega arith) in omega arith
    go (no a) = let w = r.front in omega arith

-- ---- a list of words

least_from : {A : Type 0} (top : ℕ) (f : A → ℕ) (xs : List A) (c : ℕ) → c ≤ top → ((x : A) → x ∈ xs → c ≤ f x) → c ≤ min_all top f xs
unfolding min_all
least_from top f [] c h l = h
least_from top f (x ∷ xs) c h l =
    let e = l x (Memᴰ.head refl) in
    let i = least_from top f xs c h (λ y m. l y (Memᴰ.tail m)) in
    omega arith

pub least_under : {A : Type 0} (top : ℕ) (f : A → ℕ) (xs : List A) (x : A) → x ∈ xs → min_all top f xs ≤ f x
unfolding min_all
least_under top f [] x m = absurd (Memᴰ.not-nil m)
least_under top f (y ∷ xs) x m =
    ⊎_elim (λ e. let i = ap f e in omega arith) (λ k. let i = least_under top f xs x k in omega arith) (Memᴰ.cases_cons m)

-- the least number is the top, or that of a member
pub record LeastOf {A : Type 0} (F : A → ℕ) (xs : List A) (c : ℕ) : Type 0 where
  pub member : A
  pub listed : member ∈ xs
  pub is : c ≡ F member

pub least_of : {A : Type 0} (top : ℕ) (F : A → ℕ) (xs : List A) → min_all top F xs < top → LeastOf F xs (min_all top F xs)
unfolding min_all
least_of top F [] h = absurd (omega arith)
least_of {A} top F (x ∷ xs) h = go (dec_le (F x) (min_all top F xs)) (least_of top F xs)
  where
    go : Dec (F x ≤ min_all top F xs) → (min_all top F xs < top → LeastOf F xs (min_all top F xs))
        → LeastOf F (x ∷ xs) (min (F x) (min_all top F xs))
    go (yes l) i = record { member = x; listed = Memᴰ.head refl; is = omega arith }
    go (no l) i =
        let R = i (omega arith) in
        let e = R.is in
        record { member = R.member; listed = Memᴰ.tail R.listed; is = omega arith }

module _ {A : Type 0} {f d F K : A → ℕ} where
  -- the distance of the least number is the least distance
  pub least_front : (xs : List A) → ((x : A) → x ∈ xs → Ranks (f x) (d x) (F x) (K x))
      → min_all top_rank F xs / distance_unit ≡ min_all 4294967295 f xs
  unfolding min_all
  least_front [] r = omega arith
  least_front (x ∷ xs) r =
      let e = (r x (Memᴰ.head refl)).front in
      let i = least_front xs (λ y m. r y (Memᴰ.tail m)) in
      omega arith

  -- the first of those with the least distance has the least number
  pub least_first : {xs : List A} → Ordered (λ x y. K x < K y) xs → ((x : A) → x ∈ xs → Ranks (f x) (d x) (F x) (K x))
      → (c : ℕ) → c < 4294967295 → ((x : A) → x ∈ xs → c ≤ f x)
      → (w : A) → K w < distance_unit → first_with (λ x. eqb (f x) c) xs ≡ just w → min_all top_rank F xs ≡ c * distance_unit + K w
  unfolding first_with min_all
  least_first ended r c h l w k e = let z : ◌≡◌ {A = ℕ} 0 1 = cc in absurd (omega arith)
  least_first (leads {x = x} {xs = xs} a o) r c h l w k e =
      go (eqb (f x) c) refl (least_first o (λ y m. r y (Memᴰ.tail m)) c h (λ y m. l y (Memᴰ.tail m)) w k) e
    where
      go : (b : Bool) → eqb (f x) c ≡ b → (first_with (λ x. eqb (f x) c) xs ≡ just w → min_all top_rank F xs ≡ c * distance_unit + K w)
          → cond b (just x) (first_with (λ x. eqb (f x) c) xs) ≡ just w → min (F x) (min_all top_rank F xs) ≡ c * distance_unit + K w
      go true t i e =
          let q : x ≡ w = cc in
          let j = ap K q in
          let u = eqb-true (f x) c t in
          let p = (r x (Memᴰ.head refl)).front in
          let v = (r x (Memᴰ.head refl)).whole (omega arith) in
          let s
          = least_from top_rank F xs (c * distance_unit + K w) (omega arith)
          (λ y m. let z = a y m in above (r y (Memᴰ.tail m)) c (K w) h k (l y (Memᴰ.tail m)) (omega arith)) in
          omega arith
      go false t i e =
          let p = (r x (Memᴰ.head refl)).front in
          let u : f x ≡ c → ⊥ = eqb-false (f x) c t in
          let v = l x (Memᴰ.head refl) in
          let s = i e in
          omega arith
