-- Why few triples are tried. Let a word m before i have i's ending. No witness begins with m, so the run of each word with that ending has
-- every ending of m's run: j need not be tried with i where m's run has its ending. Let the first word a of i's run begin no witness. Then
-- a run with the endings of i and of a has all endings of i's run: only a need be tried with i.
use mathlib.Core.Path.{◌≡◌, refl, sym, ap, ◌∙◌}
use mathlib.Core.Bool.{Bool, true, false, cond, not}
use mathlib.Core.List.{List}
use Prim.Native.Nat.{ℕ, ◌+◌, ◌≤◌, ◌<◌}
use native.Mathlib.Omega.{arith}
use Rattle.std.specs.Prelude.{Some, None}
use native.Mathlib.Decide.{ℕ_discrete, dec_lt}
use lib.Dec.{eqb, eqb→eq, ltb, ltb→lt}
use borrow.Author.Tests.{lt-ltb, le-ltb}
use Rattle.trellis.proofs.Bools.{holds, fails, eqb_of}
use Rattle.depth_runs.specs.Inner.Rows.{at}
use Rattle.depth_runs.proofs.Places.{upto_next}
use Rattle.lacking.specs.Inner.Search.{NoneAt, NoneFrom, NoneBefore, FirstWith, FirstAt}
use Rattle.lacking.specs.Inner.Rows.{SearchRows, in_run, to_try, has_ending, refutes_in}
use Rattle.lacking.specs.Inner.Chains.{Chained, Begun, Asked}
use Rattle.lacking.proofs.Endings.{Ends, ending_yes, ending_of, run_yes, run_no, refutes_begin, refutes_end, refutes_last}

-- ---- a triple that does not refute

pub none_with : (starts firsts : List ℕ) (w i j k : ℕ) → (at firsts i ≡ at firsts k → has_ending starts firsts w k j ≡ true)
    → refutes_in starts firsts w i j k ≡ false
none_with starts firsts w i j k h = go (ℕ_discrete (at starts i) (at starts j)) (ℕ_discrete (at firsts i) (at firsts k))
  where
    go : Dec (at starts i ≡ at starts j) → Dec (at firsts i ≡ at firsts k) → refutes_in starts firsts w i j k ≡ false
    go (no d) f = sym (refutes_begin starts firsts w i j k d)
    go (yes d) (no f) = sym (refutes_end starts firsts w i j k d f)
    go (yes d) (yes f) = sym (refutes_last starts firsts w i j k {r = true} d f (sym (h f)))

-- of words that begin alike and end alike: the run of k has the ending of j
not_missing : (starts firsts : List ℕ) (w i j k : ℕ) → refutes_in starts firsts w i j k ≡ false → at starts i ≡ at starts j
    → at firsts i ≡ at firsts k
    → Ends starts firsts w k j
not_missing starts firsts w i j k e p q =
    ending_of (go (has_ending starts firsts w k j) (refutes_last starts firsts w i j k {r = has_ending starts firsts w k j} p q refl ∙ e))
  where
    go : (b : Bool) → not b ≡ false → b ≡ true
    go true f = refl
    go false f = sym f

-- ---- an earlier word with i's ending

pub settled : {w : ℕ} {starts firsts next : List ℕ} {i j k l : ℕ} → Asked w starts firsts next i j → k ≡ at firsts i → l ≡ at firsts j
    → in_run starts i (at starts l) k ≡ true
    → FirstWith (refutes_in starts firsts w) w i j None
settled {w} {starts} {firsts} {next} {i} {j} {k} {l} A e f r = λ z h. none_with starts firsts w i j z (λ g.
    let E = not_missing starts firsts w k l z (A.before.none k run.0 l (omega (arith, A.j_lt, l_le)) z h) run.1
    (ap (at firsts) e ∙ A.rows.endings.own i A.i_lt ∙ g) in
    ending_yes (record {
      place = E.place;
      below = E.below;
      begins = E.begins;
      ends = E.ends ∙ ap (at firsts) f ∙ A.rows.endings.own j A.j_lt;
    }))
  where
    run : (k < i) × (at starts k ≡ at starts l)
    run = run_yes starts i (at starts l) k r

    l_le : l ≤ j
    l_le = omega (arith, A.rows.endings.le j A.j_lt)

-- ---- the words that are tried with i

-- a word that begins no witness with the first word of its run begins none, if that word begins none
run_first : (starts firsts : List ℕ) (w i a : ℕ) → at starts a ≡ at starts i → NoneFrom (refutes_in starts firsts w) w a
    → NoneAt (refutes_in starts firsts w) w i a
    → NoneFrom (refutes_in starts firsts w) w i
run_first starts firsts w i a e N M j p k q = go (ℕ_discrete (at starts i) (at starts j))
  where
    go : Dec (at starts i ≡ at starts j) → refutes_in starts firsts w i j k ≡ false
    go (no d) = sym (refutes_begin starts firsts w i j k d)
    go (yes d) = none_with starts firsts w i j k (λ f.
        let E = not_missing starts firsts w i a k (M k q) (sym e) f in
        let F = not_missing starts firsts w a j E.place (N j p E.place E.below) (e ∙ d) (sym E.ends) in
        ending_yes (record { place = F.place; below = F.below; begins = F.begins ∙ E.begins; ends = F.ends }))

module _ (starts : List ℕ) (w i j a : ℕ) (e : a ≡ at starts i) where
  pub try_first : a < i → eqb j a ≡ to_try starts w i j
  unfolding to_try
  try_first h = let l : at starts i < i = omega arith in rw (lt-ltb (at starts i) i l) (ap (eqb j) e)

  pub try_run : i ≤ a → in_run starts w (at starts i) j ≡ to_try starts w i j
  unfolding to_try
  try_run h = let l : i ≤ at starts i = omega arith in rw (le-ltb (at starts i) i l)

module _ {starts firsts : List ℕ} {w i j : ℕ} (R : SearchRows w starts firsts) (h : i < w) where
  try_yes : to_try starts w i j ≡ true → (j < w) × (at starts i ≡ at starts j)
  unfolding to_try
  try_yes e = go (ltb (at starts i) i) e
    where
      go : (b : Bool) → cond b (eqb j (at starts i)) (in_run starts w (at starts i) j) ≡ true → (j < w) × (at starts i ≡ at starts j)
      go true e =
          let d = eqb→eq j (at starts i) (holds e) in
          (omega (arith, R.runs.le i h), sym (ap (at starts) d ∙ R.runs.own i h))
      go false e = let d = run_yes starts w (at starts i) j e in (d.0, sym d.1)

  -- with the words before j tried, and no more to try, all are
  tried : to_try starts w i j ≡ false → at starts i ≤ j → NoneBefore (refutes_in starts firsts w) w i
      → ((y : ℕ) → y < j → NoneAt (refutes_in starts firsts w) w i y)
      → NoneFrom (refutes_in starts firsts w) w i
  unfolding to_try
  tried e f B N = go (ltb (at starts i) i) refl e
    where
      go : (b : Bool) → ltb (at starts i) i ≡ b → cond b (eqb j (at starts i)) (in_run starts w (at starts i) j) ≡ false
          → NoneFrom (refutes_in starts firsts w) w i
      go true q e =
          let l = ltb→lt (at starts i) i (holds q) in
          let d : at starts i < j = after (ℕ_discrete j (at starts i)) in
          run_first starts firsts w i (at starts i) (R.runs.own i h) (B.none (at starts i) l) (N (at starts i) d)
        where
          after : Dec (j ≡ at starts i) → at starts i < j
          after (yes d) = absurd (fails e (eqb_of d))
          after (no d) = omega arith
      go false q e = λ y p. behind y p (dec_lt y j)
        where
          behind : (y : ℕ) → y < w → Dec (y < j) → NoneAt (refutes_in starts firsts w) w i y
          behind y p (yes d) = N y d
          behind y p (no d) = λ k m. sym (refutes_begin starts firsts w i y k (λ s. run_no R h refl f e y (omega arith) p (sym s)))

pub record InTries (starts firsts : List ℕ) (w i j : ℕ) : Type 0 where
  pub rows : SearchRows w starts firsts
  pub i_lt : i < w
  pub from : at starts i ≤ j
  pub before : NoneBefore (refutes_in starts firsts w) w i
  pub none : (y : ℕ) → y < j → NoneAt (refutes_in starts firsts w) w i y

-- no word before i's run begins like i
pub tries_none : {starts firsts next : List ℕ} {w i j : ℕ} → Begun w starts firsts next i → j ≡ at starts i
    → InTries starts firsts w i j
tries_none {starts} {firsts} {next} {w} {i} {j} B e =
    let l = B.rows.runs.le i B.i_lt in
    record {
      rows = B.rows;
      i_lt = B.i_lt;
      from = omega arith;
      before = B.before;
      none = λ y p k q. sym (refutes_begin starts firsts w i y k (λ d. omega (arith, B.i_lt, B.rows.runs.le y (omega (arith, B.i_lt)))));
    }

module _ {starts firsts : List ℕ} {w i j : ℕ} (c : InTries starts firsts w i j) where
  pub tries_lt : to_try starts w i j ≡ true → j < w
  tries_lt e = (try_yes c.rows c.i_lt e).0

  pub tries_asked : {next : List ℕ} → Chained w firsts next → to_try starts w i j ≡ true → Asked w starts firsts next i j
  tries_asked C e =
      record { rows = c.rows; chains = C; i_lt = c.i_lt; j_lt = tries_lt e; begins = (try_yes c.rows c.i_lt e).1; before = c.before }

  pub tries_more : FirstWith (refutes_in starts firsts w) w i j None → InTries starts firsts w i (j + 1)
  tries_more F = record {
    rows = c.rows;
    i_lt = c.i_lt;
    from = omega (arith, c.from);
    before = c.before;
    none = upto_next (NoneAt (refutes_in starts firsts w) w i) j c.none F;
  }

  pub tries_hit : {k : ℕ} → to_try starts w i j ≡ true → FirstWith (refutes_in starts firsts w) w i j (Some k)
      → FirstAt (refutes_in starts firsts w) w i j k
  tries_hit e F = record {
    below = (c.i_lt, tries_lt e, F.below);
    passes = F.passes;
    first_i = c.before.none;
    first_j = c.none;
    first_k = F.none;
  }

  pub tries_end : to_try starts w i j ≡ false → NoneFrom (refutes_in starts firsts w) w i
  tries_end e = tried c.rows c.i_lt e c.from c.before c.none
