-- Items leave a section. The item at place j becomes the slot at place j, and its back pointer stands at place j of its block; every other
-- back pointer stays. So the back pointers of earlier blocks stay, and those of this block are at places of their own.
use mathlib.Core.Path.{◌≡◌, refl, sym, ap, ap₂, ◌∙◌}
use mathlib.Core.List.{List}
use Prim.Native.Nat.{ℕ, ◌+◌, ◌*◌, ◌≤◌, ◌<◌}
use native.Mathlib.Omega.{arith}
use native.Mathlib.Decide.{ℕ_discrete}
use lib.ListN.{length, get_or, set, length-set}
use lib.Seq.{get_or-set_same, get_or-set_other}
use Rattle.trellis.specs.Bounds.{most_paths, most_states, most_blocks}
use Rattle.dearest.specs.Inner.Items.{cost_in, code_in, item_of}
use Rattle.codes.specs.Inner.Codes.{code, code_root, code_vertex, code_label}
use Rattle.beginnings.specs.Inner.Trails.{back_long}
use Rattle.beginnings.specs.Inner.Entering.{state_from, left_code, Left}

-- the slot that an item becomes at place j
abbrev left_slot : (ℕ → ℕ) → ℕ → ℕ → ℕ
left_slot goal_of j x = item_of (cost_in x) (code j (goal_of (code_vertex (code_in x))) 0)

-- ---- one item, as the function reads it: its code, its vertex, and the state there

-- the place where it entered
pub from_small : (x : ℕ) {c f : ℕ} → c ≡ code_in x → f ≡ code_root c → code_root (code_in x) < most_paths → f < most_paths
from_small x e g h = let i = g ∙ ap code_root e in omega arith

-- the place of its goal's state
pub goal_inside : (goals x : ℕ) {c v long : ℕ} → c ≡ code_in x → v ≡ code_vertex c → goals + code_vertex (code_in x) < long → goals + v < long
goal_inside goals x e g h = let i = g ∙ ap code_vertex e in omega arith

module _ (s : List ℕ) (goals x : ℕ) {c v w : ℕ} (code_is : c ≡ code_in x) (vertex_is : v ≡ code_vertex c)
    (read : w ≡ get_or s (goals + v) 0) where
  goal_is : w ≡ state_from s goals (code_vertex (code_in x))
  goal_is = read ∙ ap (state_from s goals) (vertex_is ∙ ap code_vertex code_is)

  pub goal_small : state_from s goals (code_vertex (code_in x)) < most_states → w < most_states
  goal_small h = let e = goal_is in omega arith

  pub left_slot_lem : (j : ℕ) {cost f r : ℕ} → cost ≡ cost_in x → f ≡ code j w 0 → r ≡ item_of cost f → r ≡ left_slot (state_from s goals) j x
  left_slot_lem j e g i = i ∙ ap₂ item_of e (g ∙ ap (λ a. code j a 0) goal_is)

  pub left_code_lem : {f l r : ℕ} → f ≡ code_root c → l ≡ code_label c → r ≡ code f w l → r ≡ left_code (state_from s goals) x
  left_code_lem {f} {l} e g i =
      let a : f ≡ code_root (code_in x) = e ∙ ap code_root code_is in
      let b : l ≡ code_label (code_in x) = g ∙ ap code_label code_is in
      i ∙ (λ k. code (a k) (goal_is k) (b k))

-- ---- one item after another

module _ {goal_of : ℕ → ℕ} {items : List ℕ} {b : ℕ} {old : List ℕ} where
  pub left_start : {slots : List ℕ} → length slots ≡ most_paths → length old ≡ back_long → Left goal_of items b 0 slots old old
  left_start l m = record {
    long = l;
    long_back = m;
    at = λ j h. absurd (omega arith);
    noted = λ j h. absurd (omega arith);
    other = λ i h. refl;
  }

  pub left_more : {slots new : List ℕ} {j x c : ℕ} → Left goal_of items b j slots old new → j < most_paths → b < most_blocks
      → x ≡ left_slot goal_of j (get_or items j 0) → c ≡ left_code goal_of (get_or items j 0)
      → Left goal_of items b (j + 1) (set slots j x) old (set new (most_paths * b + j) c)
  left_more {slots} {new} {j} {x} {c} L h room ex ec = record {
    long = length-set slots j x ∙ L.long;
    long_back = length-set new (most_paths * b + j) c ∙ L.long_back;
    at = λ i k. at_of i k (ℕ_discrete i j);
    noted = λ i k. noted_of i k (ℕ_discrete i j);
    other = λ i k. get_or-set_other new (most_paths * b + j) i c 0 (λ e. k j (omega arith) (sym e)) ∙ L.other i (λ u v. k u (omega arith));
  }
    where
      at_of : (i : ℕ) → i < j + 1 → Dec (i ≡ j) → get_or (set slots j x) i 0 ≡ left_slot goal_of i (get_or items i 0)
      at_of i k (yes e) =
          ap (λ w. get_or (set slots j x) w 0) e ∙ get_or-set_same slots j x 0 (omega (arith, L.long)) ∙ ex
          ∙ ap (λ w. left_slot goal_of w (get_or items w 0)) (sym e)
      at_of i k (no e) = get_or-set_other slots j i x 0 e ∙ L.at i (omega arith)

      noted_of : (i : ℕ) → i < j + 1 → Dec (i ≡ j)
          → get_or (set new (most_paths * b + j) c) (most_paths * b + i) 0 ≡ left_code goal_of (get_or items i 0)
      noted_of i k (yes e) =
          ap (λ w. get_or (set new (most_paths * b + j) c) (most_paths * b + w) 0) e
          ∙ get_or-set_same new (most_paths * b + j) c 0 (omega (arith, L.long_back)) ∙ ec
          ∙ ap (λ w. left_code goal_of (get_or items w 0)) (sym e)
      noted_of i k (no e) =
          get_or-set_other new (most_paths * b + j) (most_paths * b + i) c 0 (λ q. e (omega arith)) ∙ L.noted i (omega arith)

  pub left_all : {slots new : List ℕ} {j count : ℕ} → Left goal_of items b j slots old new → j ≤ count → count ≤ j
      → Left goal_of items b count slots old new
  left_all {slots} {new} {j} {count} L h l = record {
    long = L.long;
    long_back = L.long_back;
    at = λ i k. L.at i (omega arith);
    noted = λ i k. L.noted i (omega arith);
    other = λ i k. L.other i (λ u v. k u (omega arith));
  }
