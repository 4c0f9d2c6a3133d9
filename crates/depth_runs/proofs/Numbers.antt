-- Numbering in one pass. A word that is first of its vertex gets the count so far; any other reads back the number of its first word, which
-- stands before it and is its own first word. So each gets how many first words come before its own.
use mathlib.Core.Path.{◌≡◌, refl, sym, ap, ap₂, ◌∙◌}
use mathlib.Core.List.{List}
use Prim.Native.Nat.{ℕ, ◌+◌, ◌≤◌, ◌<◌}
use native.Mathlib.Omega.{arith}
use native.Mathlib.Numerals.{add-one}
use native.Mathlib.Decide.{ℕ_discrete}
use lib.ListN.{length, set, length-set}
use lib.Seq.{get_or-set_same}
use lib.Dec.{eqb}
use Rattle.trellis.specs.Lists.{one_if}
use Rattle.runs.specs.Inner.Runs.{below, number_of}
use Rattle.runs.proofs.Counting.{below_le}
use Rattle.depth_runs.specs.Inner.Rows.{at, RowAt, first_word_in, ToNumber}
use Rattle.depth_runs.proofs.Places.{at_set, upto_next}

pub record InNumbers (place W : ℕ) (first_word : ℕ → ℕ) (old new : List ℕ) (i count : ℕ) : Type 0 where
  pub i_le : i ≤ W
  pub row : RowAt place i (number_of first_word) old new
  pub counted : count ≡ below (λ j. eqb (first_word j) j) i

pub numbers_own : {W place : ℕ} {starts firsts map : List ℕ} {i own : ℕ} → ToNumber W place starts firsts map
    → own ≡ first_word_in starts firsts i → i < W → own ≤ i
numbers_own {W} {place} {starts} {firsts} {map} {i} N e h = omega (arith, N.backward.word_le i h, N.backward.start_le i h)

pub numbers_none : (place W : ℕ) (first_word : ℕ → ℕ) (old : List ℕ) → InNumbers place W first_word old old 0 0
unfolding below
numbers_none place W first_word old = record {
  i_le = omega arith;
  row = record { is = λ i h. absurd (omega arith); before = λ j h. refl; behind = λ j h. refl; len = refl };
  counted = refl;
}

module _ {place W : ℕ} {first_word : ℕ → ℕ} {old new : List ℕ} {i count : ℕ} (c : InNumbers place W first_word old new i count) where
  pub numbers_few : count ≤ i
  numbers_few = omega (arith, c.counted, below_le (λ j. eqb (first_word j) j) i)

  -- the number read back is that of i's vertex
  read_back : (own : ℕ) → own ≡ first_word i → own ≤ i → first_word (first_word i) ≡ first_word i → place + i < length new
      → at (set new (place + i) count) (place + own) ≡ number_of first_word i
  unfolding number_of
  read_back own e l t h = go (ℕ_discrete own i)
    where
      go : Dec (own ≡ i) → at (set new (place + i) count) (place + own) ≡ below (λ j. eqb (first_word j) j) (first_word i)
      go (yes q) = ap (λ k. at (set new (place + i) count) (place + k)) q ∙ get_or-set_same new (place + i) count 0 h
          ∙ c.counted ∙ ap (below (λ j. eqb (first_word j) j)) (sym q ∙ e)
      go (no q) = at_set new (place + i) (place + own) count (λ r. q (omega arith)) ∙ c.row.is own (omega arith)
          ∙ ap (below (λ j. eqb (first_word j) j)) (ap first_word e ∙ t)

  pub numbers_more : {own count' : ℕ} → own ≡ first_word i → own ≤ i → first_word (first_word i) ≡ first_word i → place + W ≤ length old
      → count' ≡ count + one_if (eqb own i) → i < W
      → InNumbers place W first_word old (set (set new (place + i) count) (place + i) (at (set new (place + i) count) (place + own)))
      (i + 1) count'
  unfolding below
  numbers_more {own} {count'} e l t h f k = record {
    i_le = omega arith;
    row = record {
      is = upto_next (λ j. at (set (set new (place + i) count) (place + i) v) (place + j) ≡ number_of first_word j) i
          (λ j q. other (place + j) (λ r. omega arith) ∙ c.row.is j q)
          (get_or-set_same (set new (place + i) count) (place + i) v 0 (simp length-set room) ∙ read_back own e l t room);
      before = λ j q. other j (λ r. omega arith) ∙ c.row.before j q;
      behind = λ j q. other j (λ r. omega arith) ∙ c.row.behind j (omega arith);
      len = simp length-set c.row.len;
    };
    counted = rw (add-one i) (f ∙ ap₂ (λ x y. x + one_if (eqb y i)) c.counted e);
  }
    where
      v : ℕ
      v = at (set new (place + i) count) (place + own)

      room : place + i < length new
      room = omega (arith, c.row.len)

      other : (j : ℕ) → (j ≡ place + i → ⊥)
          → at (set (set new (place + i) count) (place + i) (at (set new (place + i) count) (place + own))) j ≡ at new j
      other j q = at_set (set new (place + i) count) (place + i) j (at (set new (place + i) count) (place + own)) q
          ∙ at_set new (place + i) j count q
