-- The answer by its tests: what comes before the edges is read at the view's places, and the outcome is the definition's.
use mathlib.Core.Path.{◌≡◌, sym, ap, ◌∙◌}
use mathlib.Core.Bool.{Bool, true, false}
use mathlib.Core.List.{List}
use Prim.Native.Nat.{ℕ, ◌<◌}
use native.Mathlib.Omega.{arith}
use lib.ListN.{get_or}
use lib.Dec.{eqb}
use Rattle.trellis.specs.Lists.{one_if, all}
use Rattle.trellis.specs.Outcome.{success, bad_section}
use Rattle.section_file.specs.Inner.View.{Seen}
use Rattle.section_file.specs.declared.View.{View}
use Rattle.section_file.proofs.Seen.{viewed}
use Rattle.section_file.specs.Usable.{is_section}
use Rattle.partners.specs.Inner.Following.{BothSeen}
use Rattle.following.proofs.Front.{alike_to, both_seen, front_of}
use Rattle.same_section.specs.Comparing.{same_code, comparing}
use Rattle.same_section.proofs.Comparing.{section_sound, fronts_differ, one_step}

-- ---- the tests of same_code

module _ (a b : List ℕ) {at : View} (S : Seen a at) (A : is_section a ≡ true) (B : is_section b ≡ true) {r : Bool}
    (r_is : r ≡ all (λ i. eqb (get_or a i 0) (get_or b i 0)) at.pairs) where
  pub front_differs : r ≡ false → false ≡ same_code a b
  front_differs e = fronts_differ a b A B (sym e ∙ r_is ∙ ap (all (alike_to a b)) (viewed S.is).pairs_is)

  pub front_same : r ≡ true → BothSeen a b at
  front_same e = both_seen S (section_sound B) (front_of (sym e ∙ r_is ∙ ap (all (alike_to a b)) (viewed S.is).pairs_is))

  pub all_same : r ≡ true → at.n ≡ 1 → {q : Bool} → q ≡ all (λ i. eqb (get_or a i 0) (get_or b i 0)) at.end → q ≡ same_code a b
  all_same e n q_is_lem =
      one_step a b A B (sym (viewed S.is).n_is ∙ n) (sym e ∙ r_is ∙ ap (all (alike_to a b)) (viewed S.is).pairs_is)
      (q_is_lem ∙ ap (all (alike_to a b)) (viewed S.is).end_is)

pub more_steps : {l : List ℕ} {at : View} → Seen l at → (at.n ≡ 1 → ⊥) → 1 < at.n
more_steps S h = omega (arith, S.sound.n_from, (viewed S.is).n_is)

-- ---- the outcome

module _ (a b : List ℕ) where
  pub first_unusable : is_section a ≡ false → bad_section 0 ≡ comparing a b
  unfolding comparing
  first_unusable e = rw e

  pub second_unusable : is_section a ≡ true → is_section b ≡ false → bad_section 1 ≡ comparing a b
  unfolding comparing
  second_unusable e f = rw (e, f)

  pub both_compared : is_section a ≡ true → is_section b ≡ true → {r : Bool} → r ≡ same_code a b → success (one_if r) ≡ comparing a b
  unfolding comparing
  both_compared e f q = rw (e, f) (ap (λ x. success (one_if x)) q)
