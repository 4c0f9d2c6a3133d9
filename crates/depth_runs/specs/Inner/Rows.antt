-- What the passes over one depth compute, on the raw lists. A row is an array of 1,024 numbers, of which the first W are for the words.
use Rattle.std.specs.Prelude.{◌≡◌, Bool, cond, ◌&&◌, List, ℕ, zero, suc, ◌+◌, ◌-◌, ◌*◌, ◌≤◌, ◌<◌, length, get_or, eqb}
use Rattle.std.specs.Bool.{beq}
use Rattle.trellis.specs.Bounds.{most_words}
use Rattle.trellis.specs.Lists.{all}
use Rattle.trellis.specs.Label.{symbol, front}
use Rattle.runs.specs.Inner.Runs.{below, number_of, goes_on}

abbrev pub at : List ℕ → ℕ → ℕ
at l i = get_or l i 0

-- the first W numbers of the array l are f 0, f 1, ..
pub record Row (W : ℕ) (f : ℕ → ℕ) (l : List ℕ) : Type 0 where
  pub len : length l ≡ most_words
  pub is : (i : ℕ) → i < W → at l i ≡ f i

-- so are those from place on, and all others are as they were
pub record RowAt (place W : ℕ) (f : ℕ → ℕ) (old new : List ℕ) : Type 0 where
  pub is : (i : ℕ) → i < W → at new (place + i) ≡ f i
  pub before : (j : ℕ) → j < place → at new j ≡ at old j
  pub behind : (j : ℕ) → place + W ≤ j → at new j ≡ at old j
  pub len : length new ≡ length old

-- the first W numbers of the array l are below 1024
pub record Small (W : ℕ) (l : List ℕ) : Type 0 where
  pub len : length l ≡ most_words
  pub lt : (i : ℕ) → i < W → at l i < most_words

-- the first W numbers of the array l are the bytes of another list
pub record Bytes (bytes l : List ℕ) : Type 0 where
  pub row : Row (length bytes) (at bytes) l
  pub byte : (i : ℕ) → i < length bytes → at bytes i < 256

-- ---- the starts of runs

-- whether words i and j have the same beginning at depth t
unfoldable pub begin_alike : List ℕ → List ℕ → ℕ → ℕ → ℕ → ℕ → Bool
begin_alike roots labels n t i j = eqb (at roots i) (at roots j) && eqb (front n t (at labels i)) (front n t (at labels j))

-- word i is of the run of the word before it
unfoldable pub joins : List ℕ → List ℕ → ℕ → ℕ → ℕ → Bool
joins roots labels n t i = begin_alike roots labels n t (i - 1) i

-- the start of i's run, from that of the word before
unfoldable pub start_by : (ℕ → Bool) → ℕ → ℕ → ℕ
start_by joined i before = cond (eqb i 0) 0 (cond (joined i) before i)

unfoldable pub run_start : (ℕ → Bool) → ℕ → ℕ
run_start joined zero = 0
run_start joined (suc i) = cond (joined (suc i)) (run_start joined i) (suc i)

-- ---- first words with one ending

-- symbol t and the row's number as one key
unfoldable pub row_key : List ℕ → ℕ → ℕ → List ℕ → ℕ → ℕ
row_key labels n t row i = at row i * 4 + symbol n t (at labels i)

-- ---- the test

-- the first word of i's vertex, from the rows of run starts and of first words with one ending
abbrev pub first_word_in : List ℕ → List ℕ → ℕ → ℕ
first_word_in starts firsts i = at starts (at firsts i)

unfoldable pub agrees_test : ℕ → (ℕ → ℕ) → (ℕ → ℕ) → ℕ → Bool
agrees_test W start first_word i =
    eqb (first_word i) (first_word (start i)) && beq (goes_on W start i) (goes_on W start (first_word i + (i - start i)))

unfoldable pub runs_agree_test : ℕ → List ℕ → List ℕ → Bool
runs_agree_test W starts firsts = all (agrees_test W (at starts) (first_word_in starts firsts)) W

-- rows point backward, and no first word stands behind its run's start: so each place that the test looks at is a word's
pub record Backward (W : ℕ) (starts firsts : List ℕ) : Type 0 where
  pub start_le : (i : ℕ) → i < W → at starts i ≤ i
  pub first_le : (i : ℕ) → i < W → at firsts i ≤ i
  pub word_le : (i : ℕ) → i < W → first_word_in starts firsts i ≤ at starts i

-- ---- vertex numbers

-- a row of W numbers from place on is in the map, and each first word of a vertex is its own
pub record ToNumber (W place : ℕ) (starts firsts map : List ℕ) : Type 0 where
  pub few : W ≤ most_words
  pub room : place + W ≤ length map
  pub backward : Backward W starts firsts
  pub twice : (i : ℕ) → i < W → first_word_in starts firsts (first_word_in starts firsts i) ≡ first_word_in starts firsts i

pub record VerticesNumbered (place W : ℕ) (first_word : ℕ → ℕ) (old new : List ℕ) (count : ℕ) : Type 0 where
  pub row : RowAt place W (number_of first_word) old new
  pub counted : count ≡ below (λ j. eqb (first_word j) j) W
