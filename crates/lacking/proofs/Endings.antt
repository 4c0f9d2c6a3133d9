-- Endings of a run, and the words of it. A run is an interval that starts at its start: behind a word that is no more of it no word is.
use mathlib.Core.Path.{◌≡◌, refl, sym, ap, ap₂, ◌∙◌}
use mathlib.Core.Bool.{Bool, true, false, ◌&&◌, ◌||◌, not}
use mathlib.Core.List.{List}
use Prim.Native.Nat.{ℕ, zero, suc, ◌≤◌, ◌<◌}
use native.Mathlib.Omega.{arith}
use native.Mathlib.Decide.{ℕ_discrete, dec_lt}
use lib.Dec.{T, eqb, eqb→eq, ltb, ltb→lt, lt→ltb}
use borrow.Author.Tests.{eq-eqb, ne_eqb}
use Rattle.trellis.proofs.Bools.{holds, fails, is_false, both, join, eqb_of, or_true}
use Rattle.trellis.specs.Lists.{any}
use Rattle.depth_runs.specs.Inner.Rows.{at}
use Rattle.lacking.specs.Inner.Rows.{SearchRows, in_run, before_run, has_ending, refutes_in}

-- ---- any of the numbers below m

pub any_hit : (p : ℕ → Bool) (m l : ℕ) → l < m → p l ≡ true → any p m ≡ true
unfolding any
any_hit p zero l h e = absurd (omega arith)
any_hit p (suc m) l h e = go (ℕ_discrete l m) (any_hit p m l)
  where
    go : Dec (l ≡ m) → (l < m → p l ≡ true → any p m ≡ true) → (any p m || p m) ≡ true
    go (yes q) r = ap (λ b. any p m || b) (ap p (sym q) ∙ e) ∙ or_true (any p m)
    go (no q) r = ap (λ b. b || p m) (r (omega arith) e)

any_none : (p : ℕ → Bool) (m : ℕ) → ((l : ℕ) → l < m → p l ≡ false) → any p m ≡ false
unfolding any
any_none p zero h = refl
any_none p (suc m) h = ap₂ (λ a b. a || b) (any_none p m (λ l k. h l (omega arith))) (h m (omega arith))

pub record Hit (p : ℕ → Bool) (m : ℕ) : Type 0 where
  pub place : ℕ
  pub below : place < m
  pub hits : T (p place)

pub any_find : (p : ℕ → Bool) (m : ℕ) → T (any p m) → Hit p m
unfolding any
any_find p zero e = absurd e
any_find p (suc m) e = go (any p m) refl (p m) refl (any_find p m) e
  where
    go : (a : Bool) → any p m ≡ a → (b : Bool) → p m ≡ b → (T (any p m) → Hit p m) → T (a || b) → Hit p (suc m)
    go true q b r f u = let x = f (holds q) in record { place = x.place; below = omega arith; hits = x.hits }
    go false q true r f u = record { place = m; below = omega arith; hits = holds r }
    go false q false r f u = absurd u

-- ---- a word of k's run with j's ending

pub record Ends (starts firsts : List ℕ) (w k j : ℕ) : Type 0 where
  pub place : ℕ
  pub below : place < w
  pub begins : at starts place ≡ at starts k
  pub ends : at firsts place ≡ at firsts j

module _ {starts firsts : List ℕ} {w k j : ℕ} where
  pub ending_yes : Ends starts firsts w k j → has_ending starts firsts w k j ≡ true
  unfolding has_ending
  ending_yes E = any_hit (λ l. eqb (at starts l) (at starts k) && eqb (at firsts l) (at firsts j)) w E.place E.below
      (ap₂ (λ a b. a && b) (eq-eqb (at starts E.place) (at starts k) E.begins)
      (eq-eqb (at firsts E.place) (at firsts j) E.ends))

  pub ending_of : has_ending starts firsts w k j ≡ true → Ends starts firsts w k j
  unfolding has_ending
  ending_of e =
      let x = any_find (λ l. eqb (at starts l) (at starts k) && eqb (at firsts l) (at firsts j)) w (holds e) in
      let p = both (eqb (at starts x.place) (at starts k)) (eqb (at firsts x.place) (at firsts j)) x.hits in
      record {
        place = x.place;
        below = x.below;
        begins = eqb→eq (at starts x.place) (at starts k) p.0;
        ends =
            eqb→eq (at firsts x.place) (at firsts j) p.1;
      }

pub ending_no : (starts firsts : List ℕ) (w k j : ℕ) → ((l : ℕ) → l < w → at starts l ≡ at starts k → at firsts l ≡ at firsts j → ⊥)
    → has_ending starts firsts w k j ≡ false
unfolding has_ending
ending_no starts firsts w k j h =
    any_none (λ l. eqb (at starts l) (at starts k) && eqb (at firsts l) (at firsts j)) w (λ l b. is_false _ (λ u.
    let p = both (eqb (at starts l) (at starts k)) (eqb (at firsts l) (at firsts j)) u in
    h l b (eqb→eq (at starts l) (at starts k) p.0) (eqb→eq (at firsts l) (at firsts j) p.1)))

-- ---- words of a run

pub run_yes : (starts : List ℕ) (w a l : ℕ) → in_run starts w a l ≡ true → (l < w) × (at starts l ≡ a)
unfolding in_run
run_yes starts w a l e =
    let p = both (ltb l w) (eqb (at starts l) a) (holds e) in
    (ltb→lt l w p.0, eqb→eq (at starts l) a p.1)

pub run_miss : (starts : List ℕ) (w a l : ℕ) → in_run starts w a l ≡ false → l < w → at starts l ≡ a → ⊥
unfolding in_run
run_miss starts w a l e h g = fails e (join (ltb l w) (eqb (at starts l) a) (lt→ltb l w h) (eqb_of g))

-- behind a word that is no more of the run no word is
pub run_no : {starts firsts : List ℕ} {w i a l : ℕ} → SearchRows w starts firsts → i < w → a ≡ at starts i → at starts i ≤ l
    → in_run starts w a l ≡ false
    → (x : ℕ) → l ≤ x → x < w → at starts x ≡ at starts i → ⊥
run_no {starts} {firsts} {w} {i} {a} {l} R h e f n x p q s =
    let u = R.rises (at starts i) l f (omega arith) in
    let v = R.rises l x p q in
    let g : at starts l ≡ a = omega (arith, R.runs.own i h) in
    run_miss starts w a l n (omega arith) g

pub before_yes : (starts : List ℕ) (w a l : ℕ) → before_run starts w a l ≡ true → (l < w) × (at starts l < a)
unfolding before_run
before_yes starts w a l e =
    let p = both (ltb l w) (ltb (at starts l) a) (holds e) in
    (ltb→lt l w p.0, ltb→lt (at starts l) a p.1)

pub before_no : (starts : List ℕ) (w a l : ℕ) → before_run starts w a l ≡ false → l < w → a ≤ at starts l
unfolding before_run
before_no starts w a l e h = go (dec_lt (at starts l) a)
  where
    go : Dec (at starts l < a) → a ≤ at starts l
    go (yes d) = absurd (fails e (join (ltb l w) (ltb (at starts l) a) (lt→ltb l w h) (lt→ltb (at starts l) a d)))
    go (no d) = omega arith

-- ---- the test

module _ (starts firsts : List ℕ) (w i j k : ℕ) where
  pub refutes_begin : (at starts i ≡ at starts j → ⊥) → false ≡ refutes_in starts firsts w i j k
  unfolding refutes_in
  refutes_begin h = simp (ne_eqb (at starts i) (at starts j) h)

  pub refutes_end : at starts i ≡ at starts j → (at firsts i ≡ at firsts k → ⊥) → false ≡ refutes_in starts firsts w i j k
  unfolding refutes_in
  refutes_end p h = simp (eq-eqb (at starts i) (at starts j) p, ne_eqb (at firsts i) (at firsts k) h)

  pub refutes_last : {r : Bool} → at starts i ≡ at starts j → at firsts i ≡ at firsts k → r ≡ has_ending starts firsts w k j
      → not r ≡ refutes_in starts firsts w i j k
  unfolding refutes_in
  refutes_last {r} p q e = simp (eq-eqb (at starts i) (at starts j) p, eq-eqb (at firsts i) (at firsts k) q) (ap not e)
