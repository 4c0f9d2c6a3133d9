-- A table of W words cut at one depth, in numbers: word i is the pair of beginning i and ending i. Words with one beginning stand together,
-- a run. The definitions give a test for rectangular tables and the first word of each vertex, from the runs and a key that tells endings
-- apart.
use Rattle.std.specs.Prelude.{◌≡◌, Bool, ◌&&◌, ◌↔◌, ℕ, zero, suc, ◌+◌, ◌-◌, ◌≤◌, ◌<◌, eqb, ltb}
use Rattle.trellis.specs.Lists.{one_if, first}

-- the first number on which f has the value that it has on i
unfoldable pub first_like : (ℕ → ℕ) → ℕ → ℕ
first_like f i = first (λ j. eqb (f j) (f i)) i

-- how many numbers below m pass the test
unfoldable pub below : (ℕ → Bool) → ℕ → ℕ
below test zero = 0
below test (suc m) = below test m + one_if (test m)

-- the number of i's vertex, where first_word i is the vertex's first word: how many words before that are first words
unfoldable pub number_of : (ℕ → ℕ) → ℕ → ℕ
number_of first_word i = below (λ j. eqb (first_word j) j) (first_word i)

-- ---- the table, cut

-- words ascend strictly
pub record Cut (W : ℕ) (beginning ending : ℕ → ℕ) : Type 0 where
  pub rises : (i j : ℕ) → i ≤ j → j < W → beginning i ≤ beginning j
  pub within : (i j : ℕ) → i < j → j < W → beginning i ≡ beginning j → ending i < ending j

-- the beginning of i followed by the ending of j is a word
pub record Shared (W : ℕ) (beginning ending : ℕ → ℕ) (i j : ℕ) : Type 0 where
  pub at : ℕ
  pub inside : at < W
  pub begins : beginning at ≡ beginning i
  pub ends : ending at ≡ ending j

-- rectangular: whenever i, j, k are (a,c), (a,d), (b,c), there is (b,d)
abbrev pub Rectangle : ℕ → (ℕ → ℕ) → (ℕ → ℕ) → Type 0
Rectangle W beginning ending =
    (i j k : ℕ) → i < W → j < W → k < W → beginning i ≡ beginning j → ending i ≡ ending k → Shared W beginning ending k j

-- word x is of the run of word a
pub record In (W : ℕ) (beginning : ℕ → ℕ) (a x : ℕ) : Type 0 where
  pub inside : x < W
  pub begins : beginning x ≡ beginning a

-- v tells endings apart, and nothing else
abbrev pub Tells : ℕ → (ℕ → ℕ) → (ℕ → ℕ) → Type 0
Tells W ending v = (i j : ℕ) → i < W → j < W → (v i ≡ v j) ↔ (ending i ≡ ending j)

-- ---- the test

-- the first word of the run of the first word with i's key
abbrev pub first_word_by : (ℕ → ℕ) → (ℕ → ℕ) → ℕ → ℕ
first_word_by beginning key i = first_like beginning (first_like key i)

-- the word after i is of its run, where start i is the first word of i's run
abbrev pub goes_on : ℕ → (ℕ → ℕ) → ℕ → Bool
goes_on W start i = ltb (i + 1) W && eqb (start (i + 1)) (start i)

-- i has the first word that its run's start has, and its run goes on behind i exactly if the run of the first word does at the same
-- distance
pub record Agrees (W : ℕ) (start first_word : ℕ → ℕ) (i : ℕ) : Type 0 where
  pub firsts : first_word i ≡ first_word (start i)
  pub lasts : goes_on W start i ≡ goes_on W start (first_word i + (i - start i))

abbrev pub RunsAgree : ℕ → (ℕ → ℕ) → (ℕ → ℕ) → Type 0
RunsAgree W start first_word = (i : ℕ) → i < W → Agrees W start first_word i
