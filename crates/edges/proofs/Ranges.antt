-- `(0..count).all(..)` answers whether a test passes at all numbers below count, where each call of the closure answers the test.
use mathlib.Core.Path.{◌≡◌, refl, ap, ◌∙◌, sym}
use mathlib.Core.Bool.{Bool, true, false, ◌&&◌}
use mathlib.Core.List.{List}
use Prim.Native.Nat.{ℕ, zero, suc, ◌+◌, ◌-◌}
use native.Mathlib.Omega.{arith}
use denote.Param.Members.{Mut}
use Rattle.std.specs.Prelude.{Option}
use Rattle.std.specs.declared.ops.Range.{Range}
use Rattle.std.specs.Iterator.{YieldsThen}
use Rattle.std.specs.Fn.{Called}
use Rattle.std.specs.List.{FoldsTo, list_all, range_with_len}
use Rattle.std.specs.Option.{MatchOption}
use Rattle.std.proofs.iter.Yields.{nat_range_steps}
use Rattle.std.proofs.lemmas.Iterator.{YieldsList-from_range}
use Rattle.std.proofs.lemmas.Iterator.Search.{all_from_yields_List}
use Rattle.trellis.specs.Lists.{all}
use Rattle.edges.proofs.Tests.{all_same}

grouped : (a b c : Bool) → ((a && b) && c) ≡ (a && (b && c))
grouped true b c = refl
grouped false b c = refl

-- the first number apart
all_front : (test : ℕ → Bool) (count : ℕ) → all test (suc count) ≡ (test 0 && all (λ k. test (suc k)) count)
unfolding all
all_front test zero = last (test 0)
  where
    last : (b : Bool) → b ≡ (b && true)
    last true = refl
    last false = refl
all_front test (suc count) =
    ap (λ b. b && test (suc count)) (all_front test count) ∙ grouped (test 0) (all (λ k. test (suc k)) count) (test (suc count))

list_all_below : (test : ℕ → Bool) (a count : ℕ) → list_all test (range_with_len a count) ≡ all (λ k. test (a + k)) count
unfolding all
list_all_below test a zero = refl
list_all_below test a (suc count) =
    let here : a ≡ a + 0 = omega arith in
    let next : all (λ k. test ((a + 1) + k)) count ≡ all (λ k. test (a + suc k)) count =
    all_same _ _ count (λ k h. let e : (a + 1) + k ≡ a + suc k = omega arith in ap test e) in
    ap (λ b. test a && b) (list_all_below test (a + 1) count ∙ next) ∙ ap (λ x. test x && all (λ k. test (a + suc k)) count) here
    ∙ sym (all_front (λ k. test (a + k)) count)

module _ {F : Type 0} {g : Mut F (ℕ × Unit {0}) Bool} {s : Range ℕ} {count : ℕ} (test : ℕ → Bool) (u : Range ℕ) (f : F) where
  pub all_from_range : (r : Bool)
      → (xs : List ℕ) × (o : Option ℕ) × (j : F) × YieldsThen nat_range_steps s xs o u × FoldsTo (λ p x q. Called g p (x, tt) true q) f xs j
      × MatchOption o (r ≡ true) (λ x. (r ≡ false) × ((h : F) × Called g j (x, tt) false h))
      → s ≡ record { start = 0; end = count } → ((x : ℕ) (b : Bool) (q : F) → Called g f (x, tt) b q → (q ≡ f) × (b ≡ test x))
      → r ≡ all test count
  all_from_range r d e k =
      let n : count - 0 ≡ count = omega arith in
      let same : all (λ k. test (0 + k)) count ≡ all test count = all_same _ _ count (λ k h. let z : 0 + k ≡ k = omega arith in ap test z) in
      all_from_yields_List test u f r d (YieldsList-from_range 0 count count e n) k ∙ list_all_below test 0 count ∙ same
