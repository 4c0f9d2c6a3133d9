-- The first word with i's ending whose run lacks the ending of j. Both chains are gone along together, and the words of a chain are in
-- ascending runs: where j's chain has come to no word of k's run, but to one of a later run or to its end, k's run lacks the ending.
use mathlib.Core.Path.{◌≡◌, sym, ap, ◌∙◌}
use mathlib.Core.Bool.{true, false}
use mathlib.Core.List.{List}
use Prim.Native.Nat.{ℕ, ◌+◌, ◌≤◌, ◌<◌}
use native.Mathlib.Omega.{arith}
use Rattle.std.specs.Prelude.{Some, None}
use native.Mathlib.Decide.{ℕ_discrete, dec_lt}
use Rattle.depth_runs.specs.Inner.Rows.{at}
use Rattle.lacking.specs.Inner.Search.{FirstWith}
use Rattle.lacking.specs.Inner.Rows.{in_run, has_ending, refutes_in}
use Rattle.lacking.specs.Inner.Chains.{Nearest, Reached, Asked}
use Rattle.lacking.proofs.Endings.{ending_yes, ending_no, run_yes, run_miss, refutes_last}
use Rattle.lacking.proofs.Passing.{none_with}

pub record InLacking (w : ℕ) (starts firsts next : List ℕ) (i j k l : ℕ) : Type 0 where
  pub asked : Asked w starts firsts next i j
  pub k_ends : k < w → at firsts k ≡ at firsts i
  pub l_ends : l < w → at firsts l ≡ at firsts j
  pub held : (z : ℕ) → z < k → z < w → at firsts i ≡ at firsts z → has_ending starts firsts w z j ≡ true
  pub passed : k < w → (y : ℕ) → y < l → y < w → at firsts y ≡ at firsts j → at starts y < at starts k

pub lacking_none : {w : ℕ} {starts firsts next : List ℕ} {i j k l : ℕ} → Asked w starts firsts next i j → k ≡ at firsts i
    → l ≡ at firsts j
    → InLacking w starts firsts next i j k l
lacking_none {w} {starts} {firsts} {next} {i} {j} {k} {l} A e f = record {
  asked = A;
  k_ends = λ h. ap (at firsts) e ∙ A.rows.endings.own i A.i_lt;
  l_ends = λ h. ap (at firsts) f ∙ A.rows.endings.own j A.j_lt;
  held = λ z p h q. absurd (omega (arith, A.rows.endings.le z h));
  passed = λ g y p h q. absurd (omega (arith, A.rows.endings.le y h));
}

module _ {w : ℕ} {starts firsts next : List ℕ} {i j k l : ℕ} (c : InLacking w starts firsts next i j k l) where
  pub lacking_end : w ≤ k → FirstWith (refutes_in starts firsts w) w i j None
  lacking_end h = λ z q. none_with starts firsts w i j z (c.held z (omega arith) q)

  module _ {a r : ℕ} (h : k < w) (e : a ≡ at starts k) (T : Reached w starts firsts a l r) where
    -- the words with j's ending before r are in runs before k's
    behind : (y : ℕ) → y < r → y < w → at firsts y ≡ at firsts j → at starts y < at starts k
    behind y p q f = go (dec_lt y l)
      where
        go : Dec (y < l) → at starts y < at starts k
        go (yes d) = c.passed h y d q f
        go (no d) = omega (arith, T.passed.earlier y (omega arith) p q (f ∙ sym (c.l_ends (omega arith))))

    ends : r < w → at firsts r ≡ at firsts j
    ends q = T.passed.alike q ∙ c.l_ends (omega (arith, T.passed.from))

    pub lacking_more : {new : ℕ} → in_run starts w a r ≡ true → new ≡ at next k → InLacking w starts firsts next i j new r
    lacking_more {new} s f = record {
      asked = c.asked;
      k_ends = λ p. ap (at firsts) f ∙ N.has (omega arith) ∙ c.k_ends h;
      l_ends = ends;
      held = λ z p q g. go z p q g (dec_lt z k) (ℕ_discrete z k);
      passed = λ p y q m g. omega (arith, behind y q m g, c.asked.rows.rises k new (omega (arith, N.from)) p);
    }
      where
        N : Nearest w firsts (k + 1) (at firsts k) (at next k)
        N = c.asked.chains.leads k h

        go : (z : ℕ) → z < new → z < w → at firsts i ≡ at firsts z → Dec (z < k) → Dec (z ≡ k) → has_ending starts firsts w z j ≡ true
        go z p q g (yes d) o = c.held z d q g
        go z p q g (no d) (yes o) =
            let x = run_yes starts w a r s in
            ending_yes (record { place = r; below = x.0; begins = x.1 ∙ e ∙ ap (at starts) (sym o); ends = ends x.0 })
        go z p q g (no d) (no o) = absurd (N.none z (omega arith) (omega arith) q (sym g ∙ sym (c.k_ends h)))

    pub lacking_hit : in_run starts w a r ≡ false → FirstWith (refutes_in starts firsts w) w i j (Some k)
    lacking_hit s = record {
      below = h;
      none = λ z p. none_with starts firsts w i j z (c.held z p (omega arith));
      passes = sym (refutes_last starts firsts w i j k c.asked.begins (sym (c.k_ends h)) (sym lacks));
    }
      where
        later : (r < w) → at starts k < at starts r
        later p = go (ℕ_discrete (at starts r) a)
          where
            go : Dec (at starts r ≡ a) → at starts k < at starts r
            go (yes d) = absurd (run_miss starts w a r s p d)
            go (no d) = omega (arith, T.there p)

        lacks : has_ending starts firsts w k j ≡ false
        lacks = ending_no starts firsts w k j (λ y p b f. go y p b f (dec_lt y r))
          where
            go : (y : ℕ) → y < w → at starts y ≡ at starts k → at firsts y ≡ at firsts j → Dec (y < r) → ⊥
            go y p b f (yes d) = omega (arith, behind y d p f)
            go y p b f (no d) = omega (arith, later (omega arith), c.asked.rows.rises r y (omega arith) p)
