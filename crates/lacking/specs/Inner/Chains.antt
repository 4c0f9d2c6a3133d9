-- The words with one ending as a chain: each leads to the next. A number from w on is no word, and ends a chain.
use Rattle.std.specs.Prelude.{◌≡◌, List, ℕ, ◌+◌, ◌≤◌, ◌<◌}
use Rattle.depth_runs.specs.Inner.Rows.{at}
use Rattle.lacking.specs.Inner.Search.{NoneBefore}
use Rattle.lacking.specs.Inner.Rows.{SearchRows, refutes_in}

-- y is the nearest word from i on whose ending has this first word, or it is no word, and there is none
pub record Nearest (w : ℕ) (firsts : List ℕ) (i first y : ℕ) : Type 0 where
  pub from : i ≤ y
  pub has : y < w → at firsts y ≡ first
  pub none : (z : ℕ) → i ≤ z → z < y → z < w → at firsts z ≡ first → ⊥

pub record Chained (w : ℕ) (firsts next : List ℕ) : Type 0 where
  pub leads : (x : ℕ) → x < w → Nearest w firsts (x + 1) (at firsts x) (at next x)

-- chains lead ahead, so that each ends
abbrev pub Ahead : ℕ → List ℕ → Type 0
Ahead w next = (x : ℕ) → x < w → x < at next x

-- r is in the chain from l or ends it, and the words passed are in runs before the one that starts at a
pub record Passed (w : ℕ) (starts firsts : List ℕ) (a l r : ℕ) : Type 0 where
  pub from : l ≤ r
  pub alike : r < w → at firsts r ≡ at firsts l
  pub earlier : (y : ℕ) → l ≤ y → y < r → y < w → at firsts y ≡ at firsts l → at starts y < a

-- and r itself is not
pub record Reached (w : ℕ) (starts firsts : List ℕ) (a l r : ℕ) : Type 0 where
  pub passed : Passed w starts firsts a l r
  pub there : r < w → a ≤ at starts r

-- no witness begins before i
pub record Begun (w : ℕ) (starts firsts next : List ℕ) (i : ℕ) : Type 0 where
  pub rows : SearchRows w starts firsts
  pub chains : Chained w firsts next
  pub i_lt : i < w
  pub before : NoneBefore (refutes_in starts firsts w) w i

-- i and j begin alike, and no witness begins before i
pub record Asked (w : ℕ) (starts firsts next : List ℕ) (i j : ℕ) : Type 0 where
  pub rows : SearchRows w starts firsts
  pub chains : Chained w firsts next
  pub i_lt : i < w
  pub j_lt : j < w
  pub begins : at starts i ≡ at starts j
  pub before : NoneBefore (refutes_in starts firsts w) w i
