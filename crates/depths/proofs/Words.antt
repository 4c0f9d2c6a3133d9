-- Word i of the table that three parallel lists hold has number i of each list. By induction along the lists.
use mathlib.Core.Path.{◌≡◌, refl, ap}
use mathlib.Core.List.{List, [], ◌∷◌}
use Prim.Native.Nat.{ℕ, zero, suc, ◌<◌}
use native.Mathlib.Omega.{arith}
use native.Mathlib.Nat.{not-suc-le-zero}
use lib.ListN.{length}
use Rattle.trellis.specs.Word.{Word, word, word_at}
use Rattle.depth_runs.specs.Inner.Rows.{at}
use Rattle.depths.specs.Inner.Words.{words, Held}

pub words_length : (roots labels goals : List ℕ) → length labels ≡ length roots → length goals ≡ length roots
    → length (words roots labels goals) ≡ length roots
unfolding words
words_length [] labels goals p q = refl
words_length (r ∷ roots) [] goals p q = absurd (omega arith)
words_length (r ∷ roots) (l ∷ labels) [] p q = absurd (omega arith)
words_length (r ∷ roots) (l ∷ labels) (g ∷ goals) p q = ap suc (words_length roots labels goals (omega arith) (omega arith))

pub held_length : {n : ℕ} {roots labels goals : List ℕ} → Held n roots labels goals → length (words roots labels goals) ≡ length roots
held_length {n} {roots} {labels} {goals} H = words_length roots labels goals H.labelled H.aimed

pub word_is : (roots labels goals : List ℕ) (i : ℕ) → i < length (words roots labels goals)
    → word_at (words roots labels goals) i ≡ word (at roots i) (at labels i) (at goals i)
unfolding words
word_is [] labels goals i h = absurd (not-suc-le-zero h)
word_is (r ∷ roots) [] goals i h = absurd (not-suc-le-zero h)
word_is (r ∷ roots) (l ∷ labels) [] i h = absurd (not-suc-le-zero h)
word_is (r ∷ roots) (l ∷ labels) (g ∷ goals) zero h = refl
word_is (r ∷ roots) (l ∷ labels) (g ∷ goals) (suc i) h = word_is roots labels goals i (omega arith)

module _ (roots labels goals : List ℕ) (i : ℕ) (h : i < length (words roots labels goals)) where
  pub word_root : (word_at (words roots labels goals) i).root ≡ at roots i
  word_root = ap (λ (w : Word). w.root) (word_is roots labels goals i h)

  pub word_label : (word_at (words roots labels goals) i).label ≡ at labels i
  word_label = ap (λ (w : Word). w.label) (word_is roots labels goals i h)

  pub word_goal : (word_at (words roots labels goals) i).goal ≡ at goals i
  word_goal = ap (λ (w : Word). w.goal) (word_is roots labels goals i h)
