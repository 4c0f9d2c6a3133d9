-- From sorted slots to sorted beginnings. A slot has its own place in its code, so the kept beginnings are the slots through one map: of a
-- slot, the beginning at the place in its code (`slots-begun`). Where nothing is left to pay, a slot's cost is what its beginning has paid
-- (`paid-is`). Sorting looks only at the costs and goes through a map, so the beginnings sorted by what is paid are the sorted slots
-- through that map (`sorted-begun`); the rest reads this off at one place.
use mathlib.Core.Path.{◌≡◌, refl, sym, ap, subst, ◌∙◌}
use mathlib.Core.List.{List, map}
use Prim.Native.Nat.{ℕ, ◌≤◌, ◌<◌}
use native.Mathlib.Omega.{arith}
use lib.ListN.{length, get_or, take, length-take}
use lib.Seq.{get_or-take, ext_get_or}
use Rattle.trellis.specs.Bounds.{most_states}
use Rattle.trellis.specs.Lists.{◌∈◌, each}
use Rattle.trellis.specs.Word.{Word}
use Rattle.trellis.proofs.Lists.{length_run, each_at, each_same, From, in_each, of_each, map_run}
use Rattle.ranking.specs.Several.{sort_by}
use Rattle.ranking.specs.Inner.Growth.{Start}
use Rattle.ranking.proofs.Sorted.{of_sort}
use Rattle.ranking.proofs.Mapped.{sort_map, sort_same}
use Rattle.dearest.specs.Inner.Items.{cost_in, code_in, Sorted}
use Rattle.codes.specs.Inner.Codes.{code, code_root}
use Rattle.beginnings.specs.Inner.Trails.{state_at, trail, begun_at, Slots}
use Rattle.readout.specs.Inner.Read.{Placed}

-- ---- lists by their places

take_each : (n : ℕ) (l : List ℕ) → n ≤ length l → take n l ≡ each (λ j. get_or l j 0) n
take_each n l h =
    ext_get_or 0 (take n l) (each (λ j. get_or l j 0) n) (long ∙ sym (length_run (λ j. get_or l j 0) 0 n))
    (λ i k.
    let m : i < n = omega (arith, long) in
    get_or-take n l i 0 m ∙ sym (each_at (λ j. get_or l j 0) n i 0 m))
  where
    long : length (take n l) ≡ n
    long = omega (arith, length-take n l)

-- the place in a code
root_is : (x j s : ℕ) → code_in x ≡ code j s 0 → s < most_states → code_root (code_in x) ≡ j
root_is x j s e h = ap code_root e ∙ omega arith

module _ {back : List ℕ} {first : ℕ} {rest : ℕ → ℕ} {slots : List ℕ} {b have : ℕ} {kept : List (Start (List Word))} {sorted : List ℕ}
    (S : Slots back first rest slots b have kept) (O : Sorted slots have sorted) where
  -- where the beginning of a slot is found
  abbrev place_in : ℕ → ℕ
  place_in x = code_root (code_in x)

  abbrev begun : ℕ → Start (List Word)
  begun j = begun_at back first rest slots b j

  slots_each : take have slots ≡ each (λ j. get_or slots j 0) have
  slots_each = take_each have slots (omega (arith, S.long, S.few))

  sorted_each : take have sorted ≡ each (λ q. get_or sorted q 0) have
  sorted_each = take_each have sorted (omega (arith, O.long, S.few))

  own_place : (j : ℕ) → j < have → place_in (get_or slots j 0) ≡ j
  own_place j h = root_is (get_or slots j 0) j (state_at back first b j) (S.coded j h) (S.state_lt j h)

  slots_begun : kept ≡ map (λ x. begun (place_in x)) (take have slots)
  slots_begun =
      S.are
      ∙ sym (ap (map (λ x. begun (place_in x))) slots_each ∙ map_run (λ x. begun (place_in x)) (λ j. get_or slots j 0) 0 have
      ∙ each_same (λ j. begun (place_in (get_or slots j 0))) begun have have refl (λ j h. ap begun (own_place j h)))

  -- every sorted slot is one of the slots
  slot_in : (q : ℕ) → q < have → get_or sorted q 0 ∈ take have slots
  slot_in q h =
      of_sort cost_in (take have slots) (get_or sorted q 0)
      (subst (λ l. get_or sorted q 0 ∈ l) (sym sorted_each ∙ O.is) (in_each (λ i. get_or sorted i 0) have q (get_or sorted q 0) h refl))

  slot_from : (x : ℕ) → x ∈ take have slots → From (λ j. get_or slots j 0) have x
  slot_from x m = of_each (λ j. get_or slots j 0) have x (subst (λ l. x ∈ l) slots_each m)

  pub sorted_placed : Placed sorted have
  sorted_placed = record {
    long = O.long;
    at = λ q h.
        let F = slot_from (get_or sorted q 0) (slot_in q h) in
        let e : place_in (get_or sorted q 0) ≡ F.at = ap place_in F.is ∙ own_place F.at F.below in
        omega (arith, e, F.below, S.few);
  }

  -- ---- where nothing is left to pay

  module _ (spent : (j : ℕ) → j < have → rest (state_at back first b j) ≡ 0) where
    paid_is : (j : ℕ) → j < have → (begun j).paid ≡ cost_in (get_or slots j 0)
    unfolding begun_at
    paid_is j h = let r = spent j h in omega arith

    same_cost : (x : ℕ) → x ∈ take have slots → (begun (place_in x)).paid ≡ cost_in x
    same_cost x m =
        let F = slot_from x m in
        ap (λ y. (begun (place_in y)).paid) F.is ∙ ap (λ j. (begun j).paid) (own_place F.at F.below)
        ∙ paid_is F.at F.below ∙ ap cost_in (sym F.is)

    -- the beginnings in their order
    pub sorted_begun : sort_by (λ x. x.paid) kept ≡ each (λ q. begun_at back first rest slots b (code_root (code_in (get_or sorted q 0)))) have
    sorted_begun =
        ap (sort_by (λ x. x.paid)) slots_begun ∙ sort_map (λ x. x.paid) (λ x. begun (place_in x)) (take have slots)
        ∙ ap (map (λ x. begun (place_in x)))
        (sort_same (λ x. (begun (place_in x)).paid) cost_in (take have slots) same_cost ∙ sym O.is ∙ sorted_each)
        ∙ map_run (λ x. begun (place_in x)) (λ q. get_or sorted q 0) 0 have

    -- their words
    pub sorted_trails : map (λ x. x.had) (sort_by (λ x. x.paid) kept)
        ≡ each (λ q. trail back first b (code_root (code_in (get_or sorted q 0)))) have
    unfolding begun_at
    sorted_trails =
        ap (map (λ x. x.had)) sorted_begun ∙ map_run (λ x. x.had) (λ q. begun (place_in (get_or sorted q 0))) 0 have

    -- and what is paid for each
    pub sorted_paid : (q : ℕ) (d : Start (List Word)) → q < have
        → (get_or (sort_by (λ x. x.paid) kept) q d).paid ≡ cost_in (get_or sorted q 0)
    sorted_paid q d h =
        ap (λ l. (get_or l q d).paid) sorted_begun ∙ ap (λ x. x.paid) (each_at (λ i. begun (place_in (get_or sorted i 0))) have q d h)
        ∙ same_cost (get_or sorted q 0) (slot_in q h)
