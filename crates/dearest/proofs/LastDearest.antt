-- The last dearest: what stands before it is no dearer, what stands behind it is cheaper. So it has the greatest cost, and it is the one
-- that `cut` takes out. It is found by passing over the items: a later one that is no cheaper than the one found is found instead. Where no
-- item costs more than a bound and those from some place on cost less, it is found going back from there: the first that reaches the bound.
use mathlib.Core.Path.{◌≡◌, refl, sym, ap, ap₂, subst, ◌∙◌}
use mathlib.Core.Bool.{true, false}
use mathlib.Core.Logic.{◌⊎◌, inl, inr, ⊎_elim}
use mathlib.Core.List.Memᴰ
use mathlib.Core.List.{List, [], ◌∷◌, ◌++◌}
use Prim.Native.Nat.{ℕ, suc, ◌+◌, ◌-◌, ◌≤◌, ◌<◌}
use native.Mathlib.Omega.{arith}
use native.Mathlib.Decide.{dec_le, ℕ_discrete}
use lib.ListN.{length, get_or, take, drop, length-take, length-drop}
use lib.Seq.{take-take, get_or-take, get_or-drop, split_at}
use Rattle.trellis.specs.Lists.{◌∈◌}
use Rattle.trellis.proofs.Bools.{settle}
use Rattle.trellis.proofs.Lists.{place_of}
use Rattle.ranking.specs.Inner.Kept.{all_below, cut, dearest}
use Rattle.ranking.proofs.Cut.{below_each, each_below}
use Rattle.dearest.specs.Inner.Items.{cost_in, LastDearest}
use Rattle.dearest.specs.Inner.Loops.{Later, CheaperFrom}

-- ---- a member that is no cheaper than those in front and dearer than those behind

module _ {A : Type 0} (cost : A → ℕ) where
  cut_at : (front : List A) (z : A) (back : List A) → ((y : A) → y ∈ front → cost y ≤ cost z) → ((y : A) → y ∈ back → cost y < cost z)
      → cut cost (front ++ (z ∷ back)) ≡ front ++ back
  unfolding cut
  cut_at [] z back f b = rw (each_below cost (cost z) back b)
  cut_at (a ∷ front) z back f b =
      rw (over (settle (all_below cost (cost a) (front ++ (z ∷ back)))))
      (ap (λ l. a ∷ l) (cut_at front z back (λ y m. f y (Memᴰ.tail m)) b))
    where
      over : (all_below cost (cost a) (front ++ (z ∷ back)) ≡ true) ⊎ (all_below cost (cost a) (front ++ (z ∷ back)) ≡ false)
          → all_below cost (cost a) (front ++ (z ∷ back)) ≡ false
      over (inl e) =
          let l = below_each cost (cost a) (front ++ (z ∷ back)) e z (Memᴰ.append_right front (Memᴰ.head refl)) in
          let m = f a (Memᴰ.head refl) in
          absurd (omega arith)
      over (inr e) = e

  dearest_back : (c : ℕ) (back : List A) → ((y : A) → y ∈ back → cost y < c) → dearest cost back ≤ c
  unfolding dearest
  dearest_back c [] b = omega arith
  dearest_back c (y ∷ back) b =
      let i = b y (Memᴰ.head refl) in
      let j = dearest_back c back (λ z m. b z (Memᴰ.tail m)) in
      omega arith

  dearest_at : (front : List A) (z : A) (back : List A) → ((y : A) → y ∈ front → cost y ≤ cost z) → ((y : A) → y ∈ back → cost y < cost z)
      → dearest cost (front ++ (z ∷ back)) ≡ cost z
  unfolding dearest
  dearest_at [] z back f b = let i = dearest_back (cost z) back b in omega arith
  dearest_at (a ∷ front) z back f b =
      let i = f a (Memᴰ.head refl) in
      let j = dearest_at front z back (λ y m. f y (Memᴰ.tail m)) b in
      omega arith

-- ---- the one that stands at w among the first items of an array

module _ {items : List ℕ} {count w : ℕ} (D : LastDearest items count w) (fits : count ≤ length items) where
  parts : take count items ≡ take w items ++ (get_or items w 0 ∷ drop (suc w) (take count items))
  parts =
      let l : w < length (take count items) = omega (arith, length-take count items, D.inside) in
      let h = D.inside in
      split_at (take count items) w 0 l
      ∙ ap₂ (λ a z. a ++ (z ∷ drop (suc w) (take count items))) (take-take w count items (omega arith)) (get_or-take count items w 0 h)

  in_front : (y : ℕ) → y ∈ take w items → cost_in y ≤ cost_in (get_or items w 0)
  in_front y m =
      let P = place_of 0 (take w items) y m in
      let l : P.at < w = omega (arith, P.below, length-take w items) in
      subst (λ z. cost_in z ≤ cost_in (get_or items w 0)) (sym (get_or-take w items P.at 0 l) ∙ P.is) (D.before P.at l)

  in_back : (y : ℕ) → y ∈ drop (suc w) (take count items) → cost_in y < cost_in (get_or items w 0)
  in_back y m =
      let P = place_of 0 (drop (suc w) (take count items)) y m in
      let l : suc w + P.at < count = omega (arith, P.below, length-drop (suc w) (take count items), length-take count items) in
      subst (λ z. cost_in z < cost_in (get_or items w 0))
      (sym (get_or-drop (suc w) (take count items) P.at 0 ∙ get_or-take count items (suc w + P.at) 0 l) ∙ P.is)
      (D.behind (suc w + P.at) (omega arith) l)

  pub cut_is : cut cost_in (take count items) ≡ take w items ++ drop (suc w) (take count items)
  cut_is = ap (cut cost_in) parts ∙ cut_at cost_in (take w items) (get_or items w 0) (drop (suc w) (take count items)) in_front in_back

  pub dearest_is : dearest cost_in (take count items) ≡ cost_in (get_or items w 0)
  dearest_is =
      ap (dearest cost_in) parts ∙ dearest_at cost_in (take w items) (get_or items w 0) (drop (suc w) (take count items)) in_front in_back

-- ---- as it is found

pub later_at : {at here i there : ℕ} → there < here → Later at here i there at here
later_at h = record { is = inl (refl, refl, h) }

pub later_i : {at here i there : ℕ} → here ≤ there → Later at here i there i there
later_i h = record { is = inr (refl, refl, h) }

-- the last dearest of the first i, and its cost
pub record Looked (items : List ℕ) (count at cost i : ℕ) : Type 0 where
  pub i_le : i ≤ count
  pub costs : cost ≡ cost_in (get_or items at 0)
  pub found : LastDearest items i at

pub looked_start : {items : List ℕ} {count cost : ℕ} → cost ≡ cost_in (get_or items 0 0) → 0 < count → Looked items count 0 cost 1
looked_start {items} e h = record { i_le = omega arith; costs = e; found = one }
  where
    one : LastDearest items 1 0
    one = record { inside = omega arith; before = λ j l. absurd (omega arith); behind = λ j l m. absurd (omega arith) }

pub looked_more : {items : List ℕ} {count at here i there r cost : ℕ} → Looked items count at here i → i < count
    → there ≡ cost_in (get_or items i 0) → Later at here i there r cost → Looked items count r cost (i + 1)
looked_more {items} {count} {at} {here} {i} {there} {r} {cost} L h e W = ⊎_elim stays moves W.is
  where
    stays : (r ≡ at) × (cost ≡ here) × (there < here) → Looked items count r cost (i + 1)
    stays p = record {
      i_le = omega arith;
      costs = p.1 ∙ L.costs ∙ ap (λ k. cost_in (get_or items k 0)) (sym p.0);
      found = subst (LastDearest items (i + 1)) (sym p.0)
          (record { inside = omega (arith, L.found.inside); before = L.found.before; behind = λ j l m. go j l m (dec_le i j) });
    }
      where
        go : (j : ℕ) → at < j → j < i + 1 → Dec (i ≤ j) → cost_in (get_or items j 0) < cost_in (get_or items at 0)
        go j l m (yes q) =
            let s : j ≡ i = omega arith in
            let a = L.costs in
            let b = p.2 in
            subst (λ k. cost_in (get_or items k 0) < cost_in (get_or items at 0)) (sym s) (omega arith)
        go j l m (no q) = L.found.behind j l (omega arith)

    moves : (r ≡ i) × (cost ≡ there) × (here ≤ there) → Looked items count r cost (i + 1)
    moves p = record {
      i_le = omega arith;
      costs = p.1 ∙ e ∙ ap (λ k. cost_in (get_or items k 0)) (sym p.0);
      found = subst (LastDearest items (i + 1)) (sym p.0)
          (record { inside = omega arith; before = λ j l. go j l (dec_le j at); behind = λ j l m. absurd (omega arith) });
    }
      where
        up : cost_in (get_or items at 0) ≤ cost_in (get_or items i 0)
        up = let a = L.costs in let b = p.2 in omega arith

        go : (j : ℕ) → j < i → Dec (j ≤ at) → cost_in (get_or items j 0) ≤ cost_in (get_or items i 0)
        go j l (yes q) = up_to (ℕ_discrete j at)
          where
            up_to : Dec (j ≡ at) → cost_in (get_or items j 0) ≤ cost_in (get_or items i 0)
            up_to (yes e) = subst (λ k. cost_in (get_or items k 0) ≤ cost_in (get_or items i 0)) (sym e) up
            up_to (no e) = let b = L.found.before j (omega arith) in let c = up in omega arith
        go j l (no q) = let b = L.found.behind j (omega arith) l in let c = up in omega arith

pub looked_all : {items : List ℕ} {count at cost i : ℕ} → Looked items count at cost i → count ≤ i → LastDearest items count at
looked_all {items} {count} {at} {cost} {i} L h =
    let e : i ≡ count = omega (arith, L.i_le) in
    subst (λ k. LastDearest items k at) e L.found

-- ---- as it is found going back from a place behind it

pub cheaper_found : {items : List ℕ} {count i cost here : ℕ} → CheaperFrom items count i cost → 0 < i → here ≡ cost_in (get_or items (i - 1) 0)
    → cost ≤ here → LastDearest items count (i - 1)
cheaper_found {items} {count} {i} {cost} {here} F h e l = record {
  inside = omega (arith, F.inside);
  before = λ j m. let a = F.most j (omega (arith, F.inside)) in omega arith;
  behind = λ j m n. let a = F.behind j (omega arith) n in omega arith;
}

pub cheaper_more : {items : List ℕ} {count i cost here : ℕ} → CheaperFrom items count i cost → 0 < i → here ≡ cost_in (get_or items (i - 1) 0)
    → here < cost → CheaperFrom items count (i - 1) cost
cheaper_more {items} {count} {i} {cost} {here} F h e l =
    record { some = F.some; inside = omega (arith, F.inside); most = F.most; behind = λ j m n. go j m n (ℕ_discrete j (i - 1)) }
  where
    go : (j : ℕ) → i - 1 ≤ j → j < count → Dec (j ≡ i - 1) → cost_in (get_or items j 0) < cost
    go j m n (yes q) = subst (λ k. cost_in (get_or items k 0) < cost) (sym q) (subst (λ z. z < cost) e l)
    go j m n (no q) = F.behind j (omega arith) n
