-- Slots enter a section at the roots of their states. Each slot that enters leaves an item at its own place and touches no other.
use mathlib.Core.Path.{◌≡◌, sym, ap, ap₂, subst, ◌∙◌}
use mathlib.Core.List.{List}
use Prim.Native.Nat.{ℕ, ◌+◌, ◌≤◌, ◌<◌}
use native.Mathlib.Omega.{arith}
use native.Mathlib.Decide.{ℕ_discrete}
use lib.ListN.{length, get_or, set, length-set}
use lib.Seq.{get_or-set_same, get_or-set_other}
use Rattle.trellis.specs.Bounds.{most_paths}
use Rattle.dearest.specs.Inner.Items.{cost_in, code_in, item_of}
use Rattle.codes.specs.Inner.Codes.{code, code_vertex}
use Rattle.beginnings.specs.Inner.Entering.{RootOf, EnteredOne, AllEntered}

-- ---- one slot, as the function reads it: its code, its state, the root and the cost

module _ (x : ℕ) {s : List ℕ} {roots count c v w : ℕ} (code_is : c ≡ code_in x) (state_is : v ≡ code_vertex c)
    (F : RootOf s roots count v w) where
  here : RootOf s roots count (code_vertex (code_in x)) w
  here = subst (λ a. RootOf s roots count a w) (state_is ∙ ap code_vertex code_is) F

  pub root_here : w < count
  root_here = here.below

  pub entered_one : {j cost f r : ℕ} → cost ≡ cost_in x → f ≡ code j w 0 → r ≡ item_of cost f → EnteredOne s roots count j x r
  entered_one e g i = record { root = w; below = root_here; state = here.is; is = i ∙ ap₂ item_of e g }

-- ---- one slot after another

module _ {s : List ℕ} {roots count : ℕ} {slots : List ℕ} where
  pub entered_start : {items : List ℕ} → length items ≡ most_paths → AllEntered s roots count slots items 0
  entered_start l = record { long = l; at = λ i h. absurd (omega arith) }

  pub entered_more : {items : List ℕ} {j x : ℕ} → AllEntered s roots count slots items j → j < most_paths
      → EnteredOne s roots count j (get_or slots j 0) x → AllEntered s roots count slots (set items j x) (j + 1)
  entered_more {items} {j} {x} A h E = record { long = length-set items j x ∙ A.long; at = λ i k. go i k (ℕ_discrete i j) }
    where
      go : (i : ℕ) → i < j + 1 → Dec (i ≡ j) → EnteredOne s roots count i (get_or slots i 0) (get_or (set items j x) i 0)
      go i k (yes e) =
          let a : get_or (set items j x) i 0 ≡ x
          = ap (λ w. get_or (set items j x) w 0) e ∙ get_or-set_same items j x 0 (omega (arith, A.long)) in
          subst (EnteredOne s roots count i (get_or slots i 0)) (sym a)
          (subst (λ w. EnteredOne s roots count w (get_or slots w 0) x) (sym e) E)
      go i k (no e) = subst (EnteredOne s roots count i (get_or slots i 0)) (sym (get_or-set_other items j i x 0 e)) (A.at i (omega arith))

  pub entered_all : {items : List ℕ} {j have : ℕ} → AllEntered s roots count slots items j → j ≤ have → have ≤ j
      → AllEntered s roots count slots items have
  entered_all {items} {j} {have} A h l = record { long = A.long; at = λ i k. A.at i (omega arith) }
