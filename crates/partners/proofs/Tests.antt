-- Tests as the loops make them: two numbers read are compared, and a comparison that fails ends the loop.
use mathlib.Core.Path.{◌≡◌, sym, ap, ◌∙◌}
use mathlib.Core.Bool.{true, false}
use mathlib.Core.List.{List}
use Prim.Native.Nat.{ℕ, ◌+◌, ◌≤◌, ◌<◌}
use native.Mathlib.Omega.{arith}
use native.Mathlib.Nat.{not-suc-le-zero}
use native.Mathlib.Decide.{ℕ_discrete}
use lib.ListN.{length, get_or, set, replicate, length-set, length-replicate}
use lib.Seq.{get_or-set_same, get_or-set_other}
use lib.Dec.{eqb}
use borrow.Author.Tests.{eq-eqb, ne_eqb}
use Rattle.trellis.specs.Bounds.{most_words}
use Rattle.trellis.specs.Lists.{all}
use Rattle.edges.proofs.Tests.{all_fails, Passed, passed_start, passed_by, passed_all}

-- f and g agree at the numbers passed
pub record Agreeing (f g : ℕ → ℕ) (count k : ℕ) : Type 0 where
  pub passed : Passed (λ k. eqb (f k) (g k)) count k

pub agree_start : {f g : ℕ → ℕ} {count : ℕ} → Agreeing f g count 0
agree_start = record { passed = passed_start }

pub agree_all : {f g : ℕ → ℕ} {count k : ℕ} → Agreeing f g count k → count ≤ k → true ≡ all (λ k. eqb (f k) (g k)) count
agree_all A h = passed_all A.passed h

module _ {f g : ℕ → ℕ} {count k : ℕ} (A : Agreeing f g count k) (h : k < count) {x y : ℕ} (x_is : x ≡ f k) (y_is : y ≡ g k) where
  pub agree_not : (x ≡ y → ⊥) → false ≡ all (λ k. eqb (f k) (g k)) count
  agree_not d = sym (all_fails (λ k. eqb (f k) (g k)) count k h (ne_eqb (f k) (g k) (λ e. d (x_is ∙ e ∙ sym y_is))))

  pub agree_next : x ≡ y → Agreeing f g count (k + 1)
  agree_next e = record { passed = passed_by A.passed h (eq-eqb (f k) (g k) (sym x_is ∙ e ∙ y_is)) }

-- ---- the first vertices, each its own partner

pub record Own (matched : List ℕ) (count k : ℕ) : Type 0 where
  pub inside : k ≤ count
  pub few : count ≤ most_words
  pub long : length matched ≡ most_words
  pub own : (v : ℕ) → v < k → get_or matched v 0 ≡ v + 1

pub own_start : {matched : List ℕ} {count : ℕ} → count ≤ most_words → matched ≡ replicate most_words 0 → Own matched count 0
own_start h q = record {
  inside = omega arith;
  few = h;
  long = ap length q ∙ length-replicate {A = ℕ} most_words 0;
  own = λ v h. absurd (not-suc-le-zero h);
}

pub own_next : {matched : List ℕ} {count k : ℕ} → Own matched count k → k < count → Own (set matched k (k + 1)) count (k + 1)
own_next {matched} {count} {k} O h = record {
  inside = omega arith;
  few = O.few;
  long = length-set matched k (k + 1) ∙ O.long;
  own = λ v l. go v l (ℕ_discrete v k);
}
  where
    go : (v : ℕ) → v < k + 1 → Dec (v ≡ k) → get_or (set matched k (k + 1)) v 0 ≡ v + 1
    go v l (yes e) =
        ap (λ u. get_or (set matched k (k + 1)) u 0) e ∙ get_or-set_same matched k (k + 1) 0 (omega (arith, O.long, O.few))
        ∙ ap (λ u. u + 1) (sym e)
    go v l (no e) = get_or-set_other matched k v (k + 1) 0 e ∙ O.own v (omega arith)

pub own_all : {matched : List ℕ} {count k : ℕ} → Own matched count k → count ≤ k
    → (length matched ≡ most_words) × ((v : ℕ) → v < count → get_or matched v 0 ≡ v + 1)
own_all O h = (O.long, λ v l. O.own v (omega arith))
