-- The chains of words with one ending. They are made from the last word to the first. The first word with an ending leads to the nearest of
-- those that are in its chain so far, so a word that is put in between stands before all of them. Going along a chain, no word with the
-- ending is left out.
use mathlib.Core.Path.{◌≡◌, refl, sym, ap, ◌∙◌}
use mathlib.Core.Bool.{true, false}
use mathlib.Core.List.{List}
use Prim.Native.Nat.{ℕ, ◌+◌, ◌-◌, ◌≤◌, ◌<◌}
use native.Mathlib.Omega.{arith}
use native.Mathlib.Decide.{ℕ_discrete, dec_lt}
use lib.ListN.{length, set, length-set, replicate, length-replicate, get_or-replicate}
use lib.Seq.{get_or-set_same}
use Rattle.trellis.specs.Bounds.{most_words}
use Rattle.depth_runs.specs.Inner.Rows.{at}
use Rattle.depth_runs.proofs.Places.{at_set}
use Rattle.lacking.specs.Inner.Rows.{FirstRow, before_run}
use Rattle.lacking.specs.Inner.Chains.{Nearest, Chained, Ahead, Passed, Reached}
use Rattle.lacking.proofs.Endings.{before_yes, before_no}

-- ---- making them

pub record InNext (w : ℕ) (firsts next : List ℕ) (i : ℕ) : Type 0 where
  pub i_le : i ≤ w
  pub few : w ≤ most_words
  pub row : FirstRow w firsts
  pub places : length next ≡ most_words
  pub done : (x : ℕ) → i ≤ x → x < w → Nearest w firsts (x + 1) (at firsts x) (at next x)
  pub near : (x : ℕ) → x < i → at firsts x ≡ x → Nearest w firsts i x (at next x)

pub next_none : (w : ℕ) (firsts : List ℕ) → w ≤ most_words → FirstRow w firsts → InNext w firsts (replicate 1024 1024) w
next_none w firsts h R = record {
  i_le = omega arith;
  few = h;
  row = R;
  places = length-replicate {A = ℕ} 1024 1024;
  done = λ x a b. absurd (omega arith);
  near = λ x l o. let e = get_or-replicate {A = ℕ} 1024 x 1024 0 (omega arith) in record {
    from = omega arith;
    has = λ a. absurd (omega arith);
    none = λ z a b d e. absurd (omega arith);
  };
}

module _ {w : ℕ} {firsts next : List ℕ} {i : ℕ} (c : InNext w firsts next i) where
  pub next_le : {first : ℕ} → 0 < i → first ≡ at firsts (i - 1) → first ≤ i - 1
  next_le h e = omega (arith, c.row.le (i - 1) (omega (arith, c.i_le)))

  pub next_more : {first : ℕ} → 0 < i → first ≡ at firsts (i - 1)
      → InNext w firsts (set (set next first (i - 1)) (i - 1) (at next first)) (i - 1)
  next_more {first} h e = record {
    i_le = omega (arith, c.i_le);
    few = c.few;
    row = c.row;
    places = simp length-set c.places;
    done = λ x a b. own x a b (ℕ_discrete x (i - 1));
    near = λ x l o. first_word x l o (ℕ_discrete x first);
  }
    where
      le : first ≤ i - 1
      le = next_le {first = first} h e

      new : List ℕ
      new = set (set next first (i - 1)) (i - 1) (at next first)

      N : Nearest w firsts i first (at next first)
      N = c.near first (omega (arith, le)) (ap (at firsts) e ∙ c.row.own (i - 1) (omega (arith, c.i_le)) ∙ sym e)

      other : (x : ℕ) → (x ≡ i - 1 → ⊥) → (x ≡ first → ⊥) → at new x ≡ at next x
      other x p q = at_set (set next first (i - 1)) (i - 1) x (at next first) p ∙ at_set next first x (i - 1) q

      own : (x : ℕ) → i - 1 ≤ x → x < w → Dec (x ≡ i - 1) → Nearest w firsts (x + 1) (at firsts x) (at new x)
      own x a b (yes d) =
          let s : at new x ≡ at next first =
          ap (at new) d
          ∙ get_or-set_same (set next first (i - 1)) (i - 1) (at next first) 0 (simp length-set (omega (arith, c.places, c.few, c.i_le))) in
          let g : at firsts x ≡ first = ap (at firsts) d ∙ sym e in
          record {
            from = omega (arith, N.from);
            has = λ l. ap (at firsts) s ∙ N.has (omega arith) ∙ sym g;
            none = λ z p q r o. N.none z (omega arith) (omega arith) r (o ∙ g);
          }
      own x a b (no d) =
          let s = other x d (λ q. omega (arith, le)) in
          let O = c.done x (omega arith) b in
          record {
            from = omega (arith, O.from);
            has = λ l. ap (at firsts) s ∙ O.has (omega arith);
            none = λ z p q r o. O.none z p (omega arith) r o;
          }

      first_word : (x : ℕ) → x < i - 1 → at firsts x ≡ x → Dec (x ≡ first) → Nearest w firsts (i - 1) x (at new x)
      first_word x l o (yes d) =
          let s : at new x ≡ i - 1 =
          at_set (set next first (i - 1)) (i - 1) x (at next first) (λ q. omega arith) ∙ ap (at (set next first (i - 1))) d
          ∙ get_or-set_same next first (i - 1) 0 (omega (arith, c.places, c.few, c.i_le, le)) in
          record {
            from = omega arith;
            has = λ q. ap (at firsts) s ∙ sym e ∙ sym d;
            none = λ z p q r o. absurd (omega arith);
          }
      first_word x l o (no d) =
          let s = other x (λ q. omega arith) d in
          let O = c.near x (omega arith) o in
          record {
            from = omega (arith, O.from);
            has = λ q. ap (at firsts) s ∙ O.has (omega arith);
            none = λ z p q r g. behind z p (omega arith) r g (ℕ_discrete z (i - 1));
          }
        where
          behind : (z : ℕ) → i - 1 ≤ z → z < at next x → z < w → at firsts z ≡ x → Dec (z ≡ i - 1) → ⊥
          behind z p q r g (yes m) = d (sym g ∙ ap (at firsts) m ∙ sym e)
          behind z p q r g (no m) = (c.near x (omega arith) o).none z (omega arith) q r g

  pub next_end : i ≤ 0 → Chained w firsts next
  next_end h = record { leads = λ x l. c.done x (omega arith) l }

-- ---- going along them

pub ahead : {w : ℕ} {firsts next : List ℕ} → Chained w firsts next → Ahead w next
ahead C x h = omega (arith, (C.leads x h).from)

pub way_none : (w : ℕ) (starts firsts : List ℕ) (a l : ℕ) → Passed w starts firsts a l l
way_none w starts firsts a l = record { from = omega arith; alike = λ h. refl; earlier = λ y p q h e. absurd (omega arith) }

pub way_more : {w : ℕ} {starts firsts next : List ℕ} {a l r new : ℕ} → Chained w firsts next → Passed w starts firsts a l r
    → before_run starts w a r ≡ true → new ≡ at next r
    → Passed w starts firsts a l new
way_more {w} {starts} {firsts} {next} {a} {l} {r} {new} C c b e = record {
  from = omega (arith, c.from, N.from);
  alike = λ h. ap (at firsts) e ∙ N.has (omega arith) ∙ c.alike here.0;
  earlier = λ y p q h f. go y p q h f (dec_lt y r) (ℕ_discrete y r);
}
  where
    here : (r < w) × (at starts r < a)
    here = before_yes starts w a r b

    N : Nearest w firsts (r + 1) (at firsts r) (at next r)
    N = C.leads r here.0

    go : (y : ℕ) → l ≤ y → y < new → y < w → at firsts y ≡ at firsts l → Dec (y < r) → Dec (y ≡ r) → at starts y < a
    go y p q h f (yes d) o = c.earlier y p d h f
    go y p q h f (no d) (yes o) = omega (arith, ap (at starts) o, here.1)
    go y p q h f (no d) (no o) = absurd (N.none y (omega arith) (omega arith) h (f ∙ sym (c.alike here.0)))

pub way_end : {w : ℕ} {starts firsts : List ℕ} {a l r : ℕ} → Passed w starts firsts a l r → before_run starts w a r ≡ false
    → Reached w starts firsts a l r
way_end {w} {starts} {firsts} {a} {l} {r} c b = record { passed = c; there = before_no starts w a r b }
