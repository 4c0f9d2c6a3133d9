-- The starts of runs. Words with one beginning stand together, so the start of i's run is that of the run before, where both words begin
-- alike, and else i; the pass keeps the start of the last word's run. On the words of a table this is the first word with i's beginning.
use mathlib.Core.Path.{◌≡◌, refl, sym, ap, ap₂, ◌∙◌}
use mathlib.Core.Bool.{Bool, cond, ◌&&◌}
use mathlib.Core.List.{List}
use Prim.Native.Nat.{ℕ, zero, suc, ◌+◌, ◌-◌, ◌≤◌, ◌<◌}
use native.Mathlib.Omega.{arith}
use native.Mathlib.Decide.{ℕ_discrete, dec_lt}
use lib.ListN.{length, set}
use lib.Dec.{eqb}
use borrow.Author.Tests.{eq-eqb, ne_eqb}
use Rattle.trellis.specs.Bounds.{most_words}
use Rattle.trellis.specs.Label.{front}
use Rattle.trellis.specs.Word.{Word}
use Rattle.runs.specs.Inner.Runs.{first_like}
use Rattle.runs.specs.Inner.Cuts.{beginning_at}
use Rattle.runs.proofs.FirstLike.{like_le, like_is, like_eq}
use Rattle.runs.proofs.Cuts.{cut, begins_eq}
use Rattle.depth_runs.specs.Inner.Rows.{at, Row, begin_alike, joins, start_by, run_start}
use Rattle.depth_runs.proofs.Places.{row_more}
use Rattle.depths.specs.Inner.Words.{words, Held}
use Rattle.depths.proofs.Words.{held_length, word_root, word_label}

-- ---- the pass

pub record InStarts (roots labels : List ℕ) (n t : ℕ) (starts : List ℕ) (i start : ℕ) : Type 0 where
  pub i_le : i ≤ length roots
  pub row : Row i (run_start (joins roots labels n t)) starts
  pub last : (j : ℕ) → i ≡ suc j → start ≡ run_start (joins roots labels n t) j

start_now : (joined : ℕ → Bool) (i start : ℕ) → ((j : ℕ) → i ≡ suc j → start ≡ run_start joined j)
    → start_by joined i start ≡ run_start joined i
unfolding start_by run_start
start_now joined zero start h = refl
start_now joined (suc i) start h = simp (ne_eqb (suc i) 0 (λ e. omega arith), h i refl)

pub starts_more : {roots labels : List ℕ} {n t : ℕ} {starts : List ℕ} {i start now : ℕ} → InStarts roots labels n t starts i start
    → now ≡ start_by (joins roots labels n t) i start → i < length roots → i < most_words
    → InStarts roots labels n t (set starts i now) (i + 1) now
starts_more {roots} {labels} {n} {t} {starts} {i} {start} {now} c e h k =
    let is = e ∙ start_now (joins roots labels n t) i start c.last in
    record {
      i_le = omega arith;
      row = row_more now c.row k is;
      last = λ j q. let r : i ≡ j = omega arith in is ∙ ap (run_start (joins roots labels n t)) r;
    }

-- ---- runs from neighbours

run_start_is : (W : ℕ) (f : ℕ → ℕ) (joined : ℕ → Bool) → ((i j : ℕ) → i ≤ j → j < W → f i ≤ f j)
    → ((i : ℕ) → suc i < W → joined (suc i) ≡ eqb (f i) (f (suc i))) → (i : ℕ) → i < W → run_start joined i ≡ first_like f i
unfolding run_start
run_start_is W f joined rises next zero h = let l = like_le f 0 in omega arith
run_start_is W f joined rises next (suc i) h = go (ℕ_discrete (f i) (f (suc i))) (run_start_is W f joined rises next i (omega arith))
  where
    go : Dec (f i ≡ f (suc i)) → run_start joined i ≡ first_like f i → cond (joined (suc i)) (run_start joined i) (suc i) ≡ first_like f (suc i)
    go (yes e) r = rw (next i h, eq-eqb (f i) (f (suc i)) e) (r ∙ like_eq f i (suc i) e)
    go (no e) r = rw (next i h, ne_eqb (f i) (f (suc i)) e) (last (dec_lt (first_like f (suc i)) (suc i)))
      where
        last : Dec (first_like f (suc i) < suc i) → suc i ≡ first_like f (suc i)
        last (yes d) =
            let p = rises (first_like f (suc i)) i (omega arith) (omega arith) in
            let q = rises i (suc i) (omega arith) h in
            absurd (e (omega (arith, like_is f (suc i))))
        last (no d) = omega (arith, like_le f (suc i))

-- ---- the row, said of the words

module _ {n : ℕ} {roots labels goals starts : List ℕ} (H : Held n roots labels goals) (t : ℕ) (le : t ≤ n)
    (A : Row (length roots) (run_start (joins roots labels n t)) starts) where
  abbrev table : List Word
  table = words roots labels goals

  alike_is : (i j : ℕ) → i < length table → j < length table
      → begin_alike roots labels n t i j ≡ eqb (beginning_at n table t i) (beginning_at n table t j)
  unfolding begin_alike
  alike_is i j a b =
      ap₂ (λ x y. x && y)
      (ap₂ eqb (sym (word_root roots labels goals i a)) (sym (word_root roots labels goals j b)))
      (ap₂ (λ x y. eqb (front n t x) (front n t y)) (sym (word_label roots labels goals i a)) (sym (word_label roots labels goals j b)))
      ∙ begins_eq H.table t le i j a b

  pub starts_are : (i : ℕ) → i < length table → at starts i ≡ first_like (beginning_at n table t) i
  unfolding joins
  starts_are i h = A.is i (omega (arith, held_length H))
      ∙ run_start_is (length table) (beginning_at n table t) (joins roots labels n t) (cut H.table t le).rises next i h
    where
      next : (j : ℕ) → suc j < length (words roots labels goals)
          → begin_alike roots labels n t (suc j - 1) (suc j) ≡ eqb (beginning_at n (words roots labels goals) t j)
          (beginning_at n (words roots labels goals) t (suc j))
      next j l = let e : suc j - 1 ≡ j = omega arith in rw e (alike_is j (suc j) (omega arith) l)
