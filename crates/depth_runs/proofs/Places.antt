-- One place more of a list: a store changes its own place only, so what holds of the first i places holds of the first i + 1 after a store
-- at i.
use mathlib.Core.Path.{◌≡◌, sym, subst, ◌∙◌}
use mathlib.Core.List.{List}
use Prim.Native.Nat.{ℕ, ◌+◌, ◌<◌}
use native.Mathlib.Omega.{arith}
use native.Mathlib.Decide.{ℕ_discrete}
use lib.ListN.{length, set, length-set}
use lib.Seq.{get_or-set_same, get_or-set_other}
use Rattle.trellis.specs.Bounds.{most_words}
use Rattle.depth_runs.specs.Inner.Rows.{at, Row}

pub at_set : (l : List ℕ) (i j v : ℕ) → (j ≡ i → ⊥) → at (set l i v) j ≡ at l j
at_set l i j v h = get_or-set_other l i j v 0 h

pub upto_next : (P : ℕ → Type 0) (i : ℕ) → ((j : ℕ) → j < i → P j) → P i → (j : ℕ) → j < i + 1 → P j
upto_next P i h p j l = go (ℕ_discrete j i)
  where
    go : Dec (j ≡ i) → P j
    go (yes e) = subst P (sym e) p
    go (no e) = h j (omega arith)

pub row_none : (f : ℕ → ℕ) (l : List ℕ) → length l ≡ most_words → Row 0 f l
row_none f l e = record { len = e; is = λ i h. absurd (omega arith) }

pub row_more : {i : ℕ} {f : ℕ → ℕ} {l : List ℕ} (v : ℕ) → Row i f l → i < most_words → v ≡ f i → Row (i + 1) f (set l i v)
row_more {i} {f} {l} v R h e = record {
  len = simp length-set R.len;
  is = upto_next (λ j. at (set l i v) j ≡ f j) i (λ j k. at_set l i j v (λ q. omega arith) ∙ R.is j k)
      (get_or-set_same l i v 0 (omega (arith, R.len)) ∙ e);
}
