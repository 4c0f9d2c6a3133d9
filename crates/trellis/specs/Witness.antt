-- Why a table is refused: three of its words that force a fourth that it lacks. Everything here computes.
use Rattle.std.specs.Prelude.{◌≡◌, Bool, true, false, ◌&&◌, not, List, ℕ, zero, suc, ◌-◌, ◌≤◌, ◌<◌, length, eqb}
use Rattle.trellis.specs.Lists.{◌∈◌, is_in}
use Rattle.trellis.specs.Label.{front, back}
use Rattle.trellis.specs.Word.{Word, word_at, same_word, beginning, ending, joined}

-- at depth t, words i, j, k are (a,c), (a,d), (b,c) with (b,d) missing; or there is nothing of the kind
pub data Witness : Type 0 where
  found : ℕ → ℕ → ℕ → ℕ → Witness
  nothing : Witness

abbrev pub same_beginning : ℕ → ℕ → Word → Word → Bool
same_beginning n t v w = eqb v.root w.root && eqb (front n t v.label) (front n t w.label)

abbrev pub same_ending : ℕ → ℕ → Word → Word → Bool
same_ending n t v w = eqb (back n t v.label) (back n t w.label) && eqb v.goal w.goal

-- whether words i, j, k are such a witness at depth t
unfoldable pub refutes : ℕ → List Word → ℕ → ℕ → ℕ → ℕ → Bool
refutes n table t i j k =
    same_beginning n t (word_at table i) (word_at table j)
    && (same_ending n t (word_at table i) (word_at table k)
    && not (is_in same_word (joined n t (word_at table k) (word_at table j)) table))

abbrev pub or_else : Witness → Witness → Witness
or_else (found t i j k) w = found t i j k
or_else nothing w = w

abbrev pub when : Bool → Witness → Witness
when true w = w
when false w = nothing

-- the first of f at, f (at + 1), .. that is a witness, count of them
unfoldable pub first_of : ℕ → ℕ → (ℕ → Witness) → Witness
first_of zero at f = nothing
first_of (suc count) at f = or_else (f at) (first_of count (suc at) f)

module _ (n : ℕ) (table : List Word) where
  unfoldable pub over_k : ℕ → ℕ → ℕ → Witness
  over_k t i j = first_of (length table) 0 (λ k. when (refutes n table t i j k) (found t i j k))

  unfoldable pub over_j : ℕ → ℕ → Witness
  over_j t i = first_of (length table) 0 (over_k t i)

  -- the first witness at depth t, by i, then j, then k
  unfoldable pub witness_at : ℕ → Witness
  witness_at t = first_of (length table) 0 (over_j t)

  -- the first witness: the smallest inner depth, then i, then j, then k
  unfoldable pub witness : Witness
  witness = first_of (n - 1) 1 witness_at

-- ---- what a witness says

-- at the inner depth t, words i, j, k of the table are (a,c), (a,d), (b,c), and (b,d) is missing
pub record Refuted (n : ℕ) (table : List Word) (t i j k : ℕ) : Type 0 where
  pub inner : (0 < t) × (t < n)
  pub words : (i < length table) × (j < length table) × (k < length table)
  pub begins : beginning n t (word_at table i) ≡ beginning n t (word_at table j)
  pub ends : ending n t (word_at table i) ≡ ending n t (word_at table k)
  pub missing : joined n t (word_at table k) (word_at table j) ∈ table → ⊥

-- the first of these: the smallest depth, then i, then j, then k
pub record FirstRefuted (n : ℕ) (table : List Word) (t i j k : ℕ) : Type 0 where
  pub refuted : Refuted n table t i j k
  pub depth : (t' i' j' k' : ℕ) → Refuted n table t' i' j' k' → t ≤ t'
  pub first_i : (i' j' k' : ℕ) → Refuted n table t i' j' k' → i ≤ i'
  pub first_j : (j' k' : ℕ) → Refuted n table t i j' k' → j ≤ j'
  pub first_k : (k' : ℕ) → Refuted n table t i j k' → k ≤ k'
