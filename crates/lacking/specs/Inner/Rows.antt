-- What is read off the row of run starts and the row of first words with one ending: which words refute the table at the rows' depth.
use Rattle.std.specs.Prelude.{◌≡◌, Bool, cond, ◌&&◌, not, List, ℕ, ◌≤◌, ◌<◌, eqb, ltb}
use Rattle.trellis.specs.Bounds.{most_words}
use Rattle.trellis.specs.Lists.{any}
use Rattle.depth_runs.specs.Inner.Rows.{at}
use Rattle.depths.specs.Inner.Words.{Held}

-- the table is held by the three lists, and t is an inner depth
pub record InnerDepth (n t : ℕ) (roots labels goals : List ℕ) : Type 0 where
  pub held : Held n roots labels goals
  pub inner : 0 < t
  pub deep : t < n

-- a row of first words with one key: each stands no later than its word, and is its own
pub record FirstRow (w : ℕ) (row : List ℕ) : Type 0 where
  pub le : (i : ℕ) → i < w → at row i ≤ i
  pub own : (i : ℕ) → i < w → at row (at row i) ≡ at row i

pub record SearchRows (w : ℕ) (starts firsts : List ℕ) : Type 0 where
  pub few : w ≤ most_words
  pub runs : FirstRow w starts
  pub rises : (i j : ℕ) → i ≤ j → j < w → at starts i ≤ at starts j
  pub endings : FirstRow w firsts

-- l is one of the first w words, and of the run that starts at a
unfoldable pub in_run : List ℕ → ℕ → ℕ → ℕ → Bool
in_run starts w a l = ltb l w && eqb (at starts l) a

-- l is a word of a run before that one
unfoldable pub before_run : List ℕ → ℕ → ℕ → ℕ → Bool
before_run starts w a l = ltb l w && ltb (at starts l) a

-- j is of i's run, and one of them is its first word
unfoldable pub to_try : List ℕ → ℕ → ℕ → ℕ → Bool
to_try starts w i j = cond (ltb (at starts i) i) (eqb j (at starts i)) (in_run starts w (at starts i) j)

-- the run of k has the ending of j
unfoldable pub has_ending : List ℕ → List ℕ → ℕ → ℕ → ℕ → Bool
has_ending starts firsts w k j = any (λ l. eqb (at starts l) (at starts k) && eqb (at firsts l) (at firsts j)) w

-- i and j begin alike, i and k end alike, and the run of k lacks the ending of j
unfoldable pub refutes_in : List ℕ → List ℕ → ℕ → ℕ → ℕ → ℕ → Bool
refutes_in starts firsts w i j k = eqb (at starts i) (at starts j)
    && (eqb (at firsts i) (at firsts k) && not (has_ending starts firsts w k j))
