-- A table of where edges end, filled edge by edge: since edges that share their start and their symbol share their end, what was put for
-- one is not lost when another is put in its place.
use mathlib.Core.Path.{◌≡◌, refl, sym, ap, ◌∙◌}
use mathlib.Core.Bool.{Bool, true, false, not, ◌&&◌}
use mathlib.Core.Logic.{◌⊎◌, inl, inr}
use mathlib.Core.List.{List}
use Prim.Native.Nat.{ℕ, ◌+◌, ◌-◌, ◌*◌, ◌≤◌, ◌<◌}
use native.Mathlib.Omega.{arith}
use lib.ListN.{get_or, set, replicate}
use lib.Dec.{eqb}
use borrow.Author.Tests.{eq-eqb}
use Rattle.trellis.specs.Bounds.{most_words, most_q}
use Rattle.trellis.specs.Own.{Edge, edge}
use Rattle.trellis.proofs.Bools.{clash}
use Rattle.twins.proofs.Marking.{Last, Apart, Small, apart_start, twins_not}
use Rattle.partners.specs.Inner.Following.{slot, Single, Ending, Leads}

-- the ends of the edges passed, as the search for twins holds them
abbrev pub Passing : (ℕ → Edge) → ℕ → List ℕ → ℕ → Type 0
Passing e count ends k = Apart (λ k. (e k).from) (λ k. (e k).symbol) (λ k. (e k).to) count ends k

abbrev pub InBounds : (ℕ → Edge) → ℕ → Type 0
InBounds e count = Small (λ k. (e k).from) (λ k. (e k).symbol) (λ k. (e k).to) count

pub passing_start : {e : ℕ → Edge} {count : ℕ} {ends : List ℕ} → ends ≡ replicate (most_q * most_words) 0 → Passing e count ends 0
passing_start q = apart_start q

-- a slot tells the start and the symbol
slot_one : {v a x b : ℕ} → a < most_q → b < most_q → slot v a ≡ slot x b → (v ≡ x) × (a ≡ b)
slot_one h k e = (omega arith, omega arith)

module _ {e : ℕ → Edge} {count : ℕ} (S : InBounds e count) (one : Single e count) where
  pub passing_next : {ends : List ℕ} {k place end : ℕ} → Passing e count ends k → k < count → place ≡ slot (e k).from (e k).symbol
      → end ≡ (e k).to → Passing e count (set ends place (end + 1)) (k + 1)
  passing_next {ends} {k} {place} {end} P h p q = twins_not S P h p q refl (fine (P.blank place low))
    where
      low : place < most_q * most_words
      low = omega (arith, S.ones k h, S.symbols k h)

      none : (x y : Bool) → x ≡ true → (not x && y) ≡ false
      none true y d = refl
      none false y d = absurd (clash (sym d))

      known : (x y : Bool) → y ≡ true → (not x && not y) ≡ false
      known true y d = refl
      known false true d = refl
      known false false d = absurd (clash (sym d))

      fine : (get_or ends place 0 ≡ 0) ⊎ Last (λ j. most_q * (e j).from + (e j).symbol) (λ j. (e j).to) k place (get_or ends place 0)
          → (not (eqb (get_or ends place 0) 0) && not (eqb (get_or ends place 0) (end + 1))) ≡ false
      fine (inl z) = none (eqb (get_or ends place 0) 0) (not (eqb (get_or ends place 0) (end + 1))) (eq-eqb (get_or ends place 0) 0 z)
      fine (inr w) =
          let s = slot_one (S.symbols w.at (omega (arith, w.below))) (S.symbols k h) (w.here ∙ p) in
          let t = one.one w.at k (omega (arith, w.below)) h s.0 s.1 in
          known (eqb (get_or ends place 0) 0) (eqb (get_or ends place 0) (end + 1))
          (eq-eqb (get_or ends place 0) (end + 1) (w.is ∙ ap (λ y. y + 1) (t ∙ sym q)))

  pub passing_all : {ends : List ℕ} {k : ℕ} → Passing e count ends k → count ≤ k → Leads e count ends
  passing_all {ends} {k} P h = record {
    long = P.long;
    known = λ j l. P.known j (omega arith);
    only = λ v a b c d. found v a b c d (P.blank (slot v a) (omega arith));
  }
    where
      found : (v a : ℕ) → v < most_words → a < most_q → 0 < get_or ends (slot v a) 0
          → (get_or ends (slot v a) 0 ≡ 0) ⊎ Last (λ j. most_q * (e j).from + (e j).symbol) (λ j. (e j).to) k (slot v a) (get_or ends (slot v a) 0)
          → Ending e count v a (get_or ends (slot v a) 0 - 1)
      found v a b c d (inl z) = absurd (omega arith)
      found v a b c d (inr w) =
          let l : w.at < count = omega (arith, w.below, P.so_far.inside) in
          let s = slot_one (S.symbols w.at l) c w.here in
          let y : (e w.at).to ≡ get_or ends (slot v a) 0 - 1 = omega (arith, w.is) in
          record { at = w.at; below = l; is = λ i. edge (s.0 i) (s.1 i) (y i) }
