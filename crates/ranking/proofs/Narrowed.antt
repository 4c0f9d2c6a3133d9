-- The law of the tree and the trellis: beginnings may be kept before they grow. A beginning costs what the cheapest of those it becomes
-- costs. Where k beginnings are before one, by cost and then by place, each of them becomes something that is before all that the one
-- becomes: it costs less, or as much and stands before. So what comes of that one may be left out, and the k best of the next step are
-- those of the k best of this one.
use mathlib.Core.Path.{◌≡◌, refl, sym, ap, subst, ◌∙◌}
use mathlib.Core.Bool.{Bool, true, false}
use mathlib.Core.Logic.{⊎_elim}
use mathlib.Core.List.Memᴰ
use mathlib.Core.List.{List, [], ◌∷◌, flat_map, Memᴰ}
use Prim.Native.Nat.{ℕ, zero, suc, ◌≤◌, ◌<◌, min}
use native.Mathlib.Omega.{arith}
use native.Mathlib.Decide.{dec_le}
use lib.Dec.{ltb}
use lib.ListN.{length, length-append}
use borrow.Author.Tests.{ltb-true, ltb-false, lt-ltb, le-ltb, le-leb}
use Rattle.trellis.specs.Lists.{◌∈◌}
use Rattle.trellis.proofs.Lists.{flat_map_append}
use Rattle.trellis.proofs.Bools.{is_true}
use Rattle.paths.specs.Inner.Costs.{min_all}
use Rattle.paths.proofs.Ordered.{of_keep, in_keep, keep_no}
use Rattle.ranking.specs.Inner.Kept.{cut, keep_best, live, keep_live}
use Rattle.ranking.specs.Inner.Growth.{after, spread, narrow}
use Rattle.ranking.proofs.Lists.{flat_map_keep, keep_flat_map, count, count_append, count_some}
use Rattle.ranking.proofs.Cut.{Dearest, some_dearest, cut_member, keep_steady}
use Rattle.ranking.proofs.LeftOut.{up_to, under, ahead, keep_without_all}

-- c is the least cost of a list that is not empty
pub record Cheapest {B : Type 0} (cost : B → ℕ) (c : ℕ) (ys : List B) : Type 0 where
  pub member : B
  pub listed : member ∈ ys
  pub is : cost member ≤ c
  pub least : (y : B) → y ∈ ys → c ≤ cost y

module _ {A B : Type 0} (f : A → ℕ) (h : B → ℕ) (g : A → List B) where
  -- each of xs becomes something, and its cost is that of the cheapest
  abbrev pub Leads : List A → Type 0
  Leads xs = (x : A) → x ∈ xs → Cheapest h (f x) (g x)

  -- one that passes a test for each
  one_each : (test : B → Bool) (xs : List A) (L : Leads xs) → ((x : A) (m : x ∈ xs) → test (L x m).member ≡ true)
      → length xs ≤ count test (flat_map g xs)
  unfolding flat_map count
  one_each test [] L p = omega arith
  one_each test (x ∷ xs) L p =
      let a = count_append test (g x) (flat_map g xs) in
      let C = L x (Memᴰ.head refl) in
      let b = count_some test (g x) C.member C.listed (p x (Memᴰ.head refl)) in
      let c = one_each test xs (λ y m. L y (Memᴰ.tail m)) (λ y m. p y (Memᴰ.tail m)) in
      omega arith

  cut_first : (k : ℕ) (xs : List A) → Leads xs → k < length xs → keep_best h k (flat_map g xs) ≡ keep_best h k (flat_map g (cut f xs))
  unfolding flat_map
  cut_first k xs L l =
      ap (λ w. keep_best h k (flat_map g w)) D.split ∙ ap (keep_best h k) (flat_map_append g D.front (D.last ∷ D.back))
      ∙ keep_without_all h k (flat_map g D.front) (g D.last) (flat_map g D.back) enough
      ∙ ap (keep_best h k) (sym (flat_map_append g D.front D.back)) ∙ ap (λ w. keep_best h k (flat_map g w)) (sym D.left)
    where
      D : Dearest f xs
      D = some_dearest f xs (omega arith)

      in_front : (x : A) → x ∈ D.front → x ∈ xs
      in_front x m = subst (Memᴰ x) (sym D.split) (Memᴰ.append_left (D.last ∷ D.back) m)

      in_back : (x : A) → x ∈ D.back → x ∈ xs
      in_back x m = subst (Memᴰ x) (sym D.split) (Memᴰ.append_right D.front (Memᴰ.tail m))

      enough : (z : B) → z ∈ g D.last → k ≤ ahead h (flat_map g D.front) z (flat_map g D.back)
      enough z m =
          let C = L D.last (subst (Memᴰ D.last) (sym D.split) (Memᴰ.append_right D.front (Memᴰ.head refl))) in
          let c = C.least z m in
          let a
          = one_each (up_to h (h z)) D.front (λ x n. L x (in_front x n))
          (λ x n. let i = (L x (in_front x n)).is in let j = D.in_front x n in le-leb (h (L x (in_front x n)).member) (h z) (omega arith)) in
          let b
          = one_each (under h (h z)) D.back (λ x n. L x (in_back x n))
          (λ x n. let i = (L x (in_back x n)).is in let j = D.behind x n in lt-ltb (h (L x (in_back x n)).member) (h z) (omega arith)) in
          let e = ap length D.split in
          omega (arith, length-append D.front (D.last ∷ D.back))

  -- the k best that come of all are the k best that come of the k best
  pub keep_first : (k : ℕ) (xs : List A) → Leads xs → keep_best h k (flat_map g xs) ≡ keep_best h k (flat_map g (keep_best f k xs))
  keep_first k xs L =
      keep_steady f (λ l. keep_best h k (flat_map g l)) Leads k (cut_first k) (λ l M x m. M x (cut_member f l x m)) xs L

-- ---- with a number for what cannot be had: what costs that much or more is left out

pub min_under : {B : Type 0} (top : ℕ) (h : B → ℕ) (ys : List B) (y : B) → y ∈ ys → min_all top h ys ≤ h y
unfolding min_all
min_under top h [] y m = absurd (Memᴰ.not-nil m)
min_under top h (z ∷ ys) y m =
    ⊎_elim (λ e. let i = ap h e in omega arith) (λ k. let i = min_under top h ys y k in omega arith) (Memᴰ.cases_cons m)

record Attained {B : Type 0} (h : B → ℕ) (ys : List B) (c : ℕ) : Type 0 where
  member : B
  listed : member ∈ ys
  is : h member ≡ c

attained : {B : Type 0} (top : ℕ) (h : B → ℕ) (ys : List B) → min_all top h ys < top → Attained h ys (min_all top h ys)
unfolding min_all
attained top h [] l = absurd (omega arith)
attained {B} top h (y ∷ ys) l = go (dec_le (h y) (min_all top h ys)) (attained top h ys)
  where
    go : Dec (h y ≤ min_all top h ys) → (min_all top h ys < top → Attained h ys (min_all top h ys))
        → Attained h (y ∷ ys) (min (h y) (min_all top h ys))
    go (yes i) r = record { member = y; listed = Memᴰ.head refl; is = omega arith }
    go (no i) r =
        let a = r (omega arith) in
        let e = a.is in
        record { member = a.member; listed = Memᴰ.tail a.listed; is = omega arith }

module _ {A B : Type 0} (top : ℕ) (f : A → ℕ) (h : B → ℕ) (g : A → List B) (is : (x : A) → f x ≡ min_all top h (g x)) where
  abbrev lives : A → List B
  lives x = live h top (g x)

  alive : (x : A) → f x < top → Cheapest h (f x) (lives x)
  unfolding live
  alive x l =
      let i = is x in
      let a = attained top h (g x) (omega arith) in
      let e = a.is in
      record {
        member = a.member;
        listed = in_keep (λ y. ltb (h y) top) (g x) a.member a.listed (lt-ltb (h a.member) top (omega arith));
        is = omega arith;
        least = λ y m. let j = min_under top h (g x) y (of_keep (λ y. ltb (h y) top) (g x) y m).listed in omega arith;
      }

  dead : (x : A) → ltb (f x) top ≡ false → lives x ≡ []
  unfolding live
  dead x e =
      let i = is x in
      let l = ltb-false (f x) top e in
      keep_no (λ y. ltb (h y) top) (g x) (λ y m. let j = min_under top h (g x) y m in le-ltb (h y) top (omega arith))

  live_flat : (xs : List A) → live h top (flat_map g xs) ≡ flat_map lives xs
  unfolding live
  live_flat xs = keep_flat_map (λ y. ltb (h y) top) g xs

  live_leads : (xs : List A) → Leads f h lives (live f top xs)
  unfolding live
  live_leads xs x m =
      let k = of_keep (λ x. ltb (f x) top) xs x m in
      alive x (ltb-true (f x) top (is_true (ltb (f x) top) k.passes))

  only_live : (xs : List A) → flat_map lives (live f top xs) ≡ flat_map lives xs
  unfolding live
  only_live xs = flat_map_keep (λ x. ltb (f x) top) lives xs (λ x m e. dead x e)

  -- one step: the k best of all that comes are the k best of what comes of the k best
  pub live_step : (k : ℕ) (xs : List A) → keep_live h top k (flat_map g xs) ≡ keep_live h top k (flat_map g (keep_live f top k xs))
  unfolding keep_live
  live_step k xs =
      ap (keep_best h k) (live_flat xs ∙ sym (only_live xs)) ∙ keep_first f h lives k (live f top xs) (live_leads xs)
      ∙ ap (keep_best h k) (sym (live_flat (keep_best f k (live f top xs))))

-- ---- step by step

module _ {A : Type 0} (grow : ℕ → A → List A) (cost : ℕ → ℕ → A → ℕ) (top : ℕ)
    (is : (m t : ℕ) (x : A) → cost (suc m) t x ≡ min_all top (cost m (suc t)) (grow t x)) where
  -- k kept at each step are the k best of all
  pub narrow_keeps : (k m t : ℕ) (xs : List A)
      → narrow grow cost top k m t (keep_live (cost m t) top k xs) ≡ keep_live (cost zero (after m t)) top k (spread grow m t xs)
  unfolding narrow spread after
  narrow_keeps k zero t xs = refl
  narrow_keeps k (suc m) t xs =
      ap (narrow grow cost top k m (suc t)) (sym (live_step top (cost (suc m) t) (cost m (suc t)) (grow t) (is m t) k xs))
      ∙ narrow_keeps k m (suc t) (flat_map (grow t) xs)
