-- Being within bounds is two comparisons: the lower bound fails, or the upper one decides.
use mathlib.Core.Path.{◌≡◌, sym, ap, ◌∙◌}
use mathlib.Core.Bool.{Bool, true, false, not, ◌&&◌}
use Prim.Native.Nat.{ℕ, ◌≤◌, ◌<◌}
use native.Mathlib.Decide.{dec_lt}
use native.Mathlib.Omega.{arith}
use lib.Dec.{ltb, leb}
use borrow.Author.Tests.{lt-ltb, le-ltb, le-leb, lt-leb, not-false, leb-true}
use Rattle.trellis.specs.Lists.{within}
use Rattle.trellis.proofs.Bools.{holds, is_true, both}

pub within_under : (low high x : ℕ) → x < low → false ≡ within low high x
unfolding within
within_under low high x h = sym (ap (λ b. b && leb x high) (lt-leb low x h))

pub within_from : (low high x : ℕ) → low ≤ x → leb x high ≡ within low high x
unfolding within
within_from low high x h = sym (ap (λ b. b && leb x high) (le-leb low x h))

pub within_of : (low high x : ℕ) → within low high x ≡ true → (low ≤ x) × (x ≤ high)
unfolding within
within_of low high x e =
    let a = both (leb low x) (leb x high) (holds e) in
    (leb-true low x (is_true _ a.0), leb-true x high (is_true _ a.1))

pub within_to : (low high x : ℕ) {w : Bool} → w ≡ within low high x → not w ≡ false → x ≤ high
within_to low high x {w} e h = (within_of low high x (sym e ∙ not-false w h)).1

pub at_least : (x y : ℕ) → leb x y ≡ not (ltb y x)
at_least x y = go (dec_lt y x)
  where
    go : Dec (y < x) → leb x y ≡ not (ltb y x)
    go (yes h) = lt-leb x y h ∙ sym (ap not (lt-ltb y x h))
    go (no h) = le-leb x y (omega arith) ∙ sym (ap not (le-ltb y x (omega arith)))
