-- In front of the first block one beginning is kept: it has no word, stands in the start state, and nothing is paid for it. There is a path
-- from there, so it costs less than `unreached` in the end, and it stays.
use mathlib.Core.Path.{◌≡◌, sym, ap, subst, ◌∙◌}
use mathlib.Core.Bool.{Bool}
use mathlib.Core.List.{List, [], ◌∷◌}
use Prim.Native.Nat.{ℕ, ◌+◌, ◌-◌, ◌*◌, ◌≤◌, ◌<◌}
use native.Mathlib.Nat.{sub-zero}
use native.Mathlib.Omega.{arith}
use lib.ListN.{length, get_or, set, length-set}
use lib.Seq.{get_or-set_same}
use borrow.Author.Tests.{lt-ltb}
use Rattle.trellis.specs.Bounds.{most_paths, most_states, costs_a_block}
use Rattle.trellis.specs.Lists.{keep, run}
use Rattle.trellis.specs.Word.{Word}
use Rattle.paths.specs.Chain.{unreached, ends_in}
use Rattle.paths.specs.Inner.Costs.{plus}
use Rattle.paths.specs.Inner.Chains.{chain_least}
use Rattle.ranking.specs.Inner.Kept.{live, keep_live}
use Rattle.ranking.specs.Inner.Growth.{Start, start, narrow, rated}
use Rattle.ranking.specs.Inner.Chain.{one_word, chain_rated, chain_kept}
use Rattle.ranking.proofs.Cut.{kept_all}
use Rattle.dearest.specs.Inner.Items.{cost_in, code_in, item_of}
use Rattle.codes.specs.Inner.Codes.{code}
use Rattle.beginnings.specs.Inner.Trails.{state_at, trail, begun_at, NotedWell, Slots}
use Rattle.frame.specs.Frame.{Frame, block_count, block_words, word_distance}
use Rattle.forward.specs.Inner.Fronts.{least_at, Tabled, KeptAt}

-- a beginning that can go on is kept
first_kept : (words : ℕ → List Word) (ends : ℕ → Bool) (dist : ℕ → Word → ℕ) (m s k : ℕ) → 0 < k
    → chain_least words ends dist unreached m 0 s < unreached
    → keep_live (chain_rated words ends dist unreached m 0) unreached k (start [] s 0 ∷ []) ≡ start [] s 0 ∷ []
unfolding keep_live live keep chain_rated rated plus chain_least
first_kept words ends dist m s k h l =
    let r : chain_rated words ends dist unreached m 0 (start [] s 0) < unreached = omega arith in
    rw (lt-ltb (chain_rated words ends dist unreached m 0 (start [] s 0)) unreached r)
    (kept_all (chain_rated words ends dist unreached m 0) k (start [] s 0 ∷ []) (omega arith))

-- ---- as a slot

record Slot (x cost state : ℕ) : Type 0 where
  cost_is : cost_in x ≡ cost
  code_is : code_in x ≡ code 0 state 0

slot_of : (cost state : ℕ) → state < most_states → Slot (item_of cost (code 0 state 0)) cost state
slot_of cost state h = record { cost_is = omega arith; code_is = omega arith }

-- what holds of the first place holds of every place below 1
at_first : (P : ℕ → Type 0) → P 0 → (j : ℕ) → j < 1 → P j
at_first P p j h = let e : 0 ≡ j = omega arith in subst P e p

slots_start : (slots : List ℕ) {rest : ℕ → ℕ} {s x : ℕ} {back : List ℕ} → Slot x (rest s) s → rest s < unreached → s < most_states
    → length slots ≡ most_paths → NotedWell back → Slots back s rest (set slots 0 x) 0 1 (start [] s 0 ∷ [])
unfolding run begun_at trail state_at
slots_start slots {rest} {s} {x} {back} S low below l N = record {
  long = simp length-set l;
  few = omega arith;
  noted = N;
  are = ap (λ c. start [] s c ∷ []) (sym (ap (λ y. y - rest s) cost ∙ none));
  coded = at_first (λ j. code_in (get_or (set slots 0 x) j 0) ≡ code j s 0) (ap code_in slot ∙ S.code_is);
  state_lt = λ j h. below;
  low = at_first (λ j. cost_in (get_or (set slots 0 x) j 0) < unreached) (omega (arith, cost));
  paid = at_first (λ j. rest s ≤ cost_in (get_or (set slots 0 x) j 0)) (omega (arith, cost));
}
  where
    slot : get_or (set slots 0 x) 0 0 ≡ x
    slot = get_or-set_same slots 0 x 0 (omega (arith, l))

    cost : cost_in (get_or (set slots 0 x) 0 0) ≡ rest s
    cost = ap cost_in slot ∙ S.cost_is

    none : rest s - rest s ≡ 0
    none = omega arith

-- ---- of a frame

-- what comes of beginnings in front of block b, m blocks further on
abbrev pub onward : Frame → ℕ → ℕ → ℕ → List (Start (List Word)) → List (Start (List Word))
onward f k m b xs =
    narrow (one_word (block_words f) (ends_in f.end) (word_distance f))
    (chain_rated (block_words f) (ends_in f.end) (word_distance f) unreached) unreached k m b xs

module _ {f : Frame} {costs : List ℕ} (D : Tabled f costs) where
  cost_start : {from : ℕ} → f.start < most_states → 1 ≤ block_count f → from ≡ f.start → get_or costs from 0 ≡ least_at f 0 f.start
  cost_start {from} below some e =
      let z : from ≡ costs_a_block * 0 + f.start = omega arith in
      ap (λ i. get_or costs i 0) z ∙ D.at 0 f.start some below

  pub cost_low : {from : ℕ} → f.start < most_states → 1 ≤ block_count f → from ≡ f.start → get_or costs from 0 < unreached
  cost_low below some e = let c = cost_start below some e in let l = D.some in omega arith

  pub kept_start : (slots : List ℕ) {k from x : ℕ} {back : List ℕ} → f.start < most_states → 1 ≤ block_count f → 0 < k
      → length slots ≡ most_paths → NotedWell back → from ≡ f.start → x ≡ item_of (get_or costs from 0) (code 0 from 0)
      → KeptAt f k 0 1 (set slots 0 x) back
  unfolding chain_kept
  kept_start slots {k} {from} {x} below some h l N e p = record {
    inside = omega arith;
    few = h;
    kept = start [] f.start 0 ∷ [];
    are = slots_start slots S D.some below l N;
    whole = ap (λ m. onward f k m 0 (start [] f.start 0 ∷ [])) count
        ∙ sym (ap (onward f k (block_count f) 0)
        (first_kept (block_words f) (ends_in f.end) (word_distance f) (block_count f) f.start k h low));
  }
    where
      count : block_count f - 0 ≡ block_count f
      count = sub-zero (block_count f)

      low : chain_least (block_words f) (ends_in f.end) (word_distance f) unreached (block_count f) 0 f.start < unreached
      low =
          subst (λ m. chain_least (block_words f) (ends_in f.end) (word_distance f) unreached m 0 f.start < unreached) count D.some

      S : Slot x (least_at f 0 f.start) f.start
      S =
          let z : x ≡ item_of (least_at f 0 f.start) (code 0 f.start 0)
          = p ∙ (λ i. item_of (cost_start below some e i) (code 0 (e i) 0)) in
          subst (λ y. Slot y (least_at f 0 f.start) f.start) (sym z) (slot_of (least_at f 0 f.start) f.start below)
