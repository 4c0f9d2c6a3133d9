-- The row of first words. For each key the pass notes the first word that had it; so what is noted for the key of word i is the first word
-- with that key, and where nothing is noted it is i itself. From a row that tells the endings at depth t + 1 apart comes one that tells
-- those at depth t apart.
use mathlib.Core.Path.{◌≡◌, refl, sym, ap, ap₂, subst, ◌∙◌}
use mathlib.Core.Bool.{cond}
use mathlib.Core.Logic.{◌⊎◌, inl, inr}
use mathlib.Core.List.{List}
use Prim.Native.Nat.{ℕ, suc, ◌+◌, ◌*◌, ◌≤◌, ◌<◌}
use native.Mathlib.Omega.{arith}
use native.Mathlib.Decide.{ℕ_discrete, dec_lt}
use lib.ListN.{length, set, length-set, replicate, length-replicate, get_or-replicate}
use lib.Seq.{get_or-set_same}
use lib.Dec.{eqb}
use borrow.Author.Tests.{eq-eqb, ne_eqb}
use Rattle.trellis.specs.Bounds.{most_words}
use Rattle.trellis.specs.Label.{symbol}
use Rattle.trellis.specs.Word.{Word}
use Rattle.runs.specs.Inner.Runs.{first_like}
use Rattle.runs.specs.Inner.Cuts.{ending_at, step_key}
use Rattle.runs.proofs.FirstLike.{like_le, like_is, like_eq, like_cong}
use Rattle.runs.proofs.Keys.{symbol_lt, tells_first, tells_row, tells_step}
use Rattle.depth_runs.specs.Inner.Rows.{at, Row, Small, row_key}
use Rattle.depth_runs.proofs.Places.{at_set, upto_next, row_none, row_more}
use Rattle.depths.specs.Inner.Words.{words, Held}
use Rattle.depths.specs.Inner.Merge.{EndingRow}
use Rattle.depths.proofs.Words.{held_length, word_label}

-- word y stands before i and has the key x
pub record HasKey (key : ℕ → ℕ) (i x y : ℕ) : Type 0 where
  pub earlier : y < i
  pub has : key y ≡ x

pub record InFirsts (labels : List ℕ) (n t : ℕ) (old row seen : List ℕ) (i : ℕ) : Type 0 where
  pub i_le : i ≤ length labels
  pub few : length labels ≤ most_words
  pub small : Small (length labels) old
  pub places : length seen ≡ 4096
  pub done : Row i (first_like (row_key labels n t old)) row
  pub rest : (j : ℕ) → i ≤ j → at row j ≡ at old j
  pub noted : (j : ℕ) → j < i → at seen (row_key labels n t old j) ≡ first_like (row_key labels n t old) j
  pub known : (x : ℕ) → x < 4096 → (at seen x ≡ most_words) ⊎ HasKey (row_key labels n t old) i x (at seen x)

key_lt : (labels : List ℕ) (n t : ℕ) (row : List ℕ) (W i : ℕ) → Small W row → i < W → row_key labels n t row i < 4096
unfolding row_key
key_lt labels n t row W i S h = omega (arith, S.lt i h, symbol_lt n t (at labels i))

-- what is noted for the key of i, or i if nothing is, is the first word with that key
noted_first : (key : ℕ → ℕ) (i found : ℕ) → i < most_words → ((j : ℕ) → j < i → key j ≡ key i → found ≡ first_like key j)
    → (found ≡ most_words) ⊎ HasKey key i (key i) found → cond (eqb found most_words) i found ≡ first_like key i
noted_first key i found h f (inl e) = rw (eq-eqb found most_words e) (go (dec_lt (first_like key i) i))
  where
    go : Dec (first_like key i < i) → i ≡ first_like key i
    go (yes l) = let q = f (first_like key i) l (like_is key i) in absurd (omega (arith, like_le key (first_like key i)))
    go (no l) = omega (arith, like_le key i)
noted_first key i found h f (inr o) =
    let q = o.earlier in
    rw (ne_eqb found most_words (λ e. omega arith)) (f found o.earlier o.has ∙ like_eq key found i o.has)

module _ {labels : List ℕ} {n t : ℕ} {old row seen : List ℕ} {i : ℕ} (c : InFirsts labels n t old row seen i) where
  abbrev keys : ℕ → ℕ
  keys j = row_key labels n t old j

  pub firsts_key : {a s b : ℕ} → a ≡ at row i → s ≡ symbol n t (at labels i) → b ≡ s → a * 4 + b ≡ keys i
  unfolding row_key
  firsts_key {a} {s} {b} p q r = ap₂ (λ x y. x * 4 + y) (p ∙ c.rest i (omega arith)) (r ∙ q)

  pub firsts_lt : {a s b : ℕ} → a ≡ at row i → s ≡ symbol n t (at labels i) → b ≡ s → i < length labels → a * 4 + b < 4096
  firsts_lt {a} {s} {b} p q r h = let e = firsts_key {a = a} {s = s} {b = b} p q r in
      omega (arith, key_lt labels n t old (length labels) i c.small h)

  first_is : (first x : ℕ) → x ≡ keys i → first ≡ cond (eqb (at seen x) most_words) i (at seen x) → i < length labels
      → first ≡ first_like keys i
  first_is first x e f h =
      f ∙ ap (λ y. cond (eqb (at seen y) most_words) i (at seen y)) e
      ∙ noted_first keys i (at seen (keys i)) (omega (arith, c.few)) (λ j l q. ap (at seen) (sym q) ∙ c.noted j l)
      (c.known (keys i) (key_lt labels n t old (length labels) i c.small h))

  pub firsts_more : {first x : ℕ} → x ≡ keys i → first ≡ cond (eqb (at seen x) most_words) i (at seen x) → i < length labels
      → InFirsts labels n t old (set row i first) (set seen x first) (i + 1)
  firsts_more {first} {x} e f h = record {
    i_le = omega arith;
    few = c.few;
    small = c.small;
    places = simp length-set c.places;
    done = row_more first c.done (omega (arith, c.few)) is;
    rest = λ j l. at_set row i j first (λ q. omega arith) ∙ c.rest j (omega arith);
    noted = upto_next (λ j. at (set seen x first) (keys j) ≡ first_like keys j) i
        (λ j l. note j (ℕ_discrete (keys j) x) (c.noted j l)) (ap (at (set seen x first)) (sym e) ∙ hit);
    known = λ y l. own y (ℕ_discrete y x) (c.known y l);
  }
    where
      is : first ≡ first_like keys i
      is = first_is first x e f h

      room : x < length seen
      room = let k = key_lt labels n t old (length labels) i c.small h in omega (arith, c.places)

      hit : at (set seen x first) x ≡ first_like keys i
      hit = get_or-set_same seen x first 0 room ∙ is

      note : (j : ℕ) → Dec (keys j ≡ x) → at seen (keys j) ≡ first_like keys j → at (set seen x first) (keys j) ≡ first_like keys j
      note j (yes q) r = ap (at (set seen x first)) q ∙ hit ∙ like_eq keys i j (sym e ∙ sym q)
      note j (no q) r = at_set seen x (keys j) first q ∙ r

      own : (y : ℕ) → Dec (y ≡ x) → (at seen y ≡ most_words) ⊎ HasKey keys i y (at seen y)
          → (at (set seen x first) y ≡ most_words) ⊎ HasKey keys (i + 1) y (at (set seen x first) y)
      own y (yes q) r = inr (subst (λ z. HasKey keys (i + 1) y z) (sym (ap (at (set seen x first)) q ∙ hit))
          (record { earlier = omega (arith, like_le keys i); has = like_is keys i ∙ sym e ∙ sym q }))
      own y (no q) (inl r) = inl (at_set seen x y first q ∙ r)
      own y (no q) (inr o) =
          inr (subst (λ z. HasKey keys (i + 1) y z) (sym (at_set seen x y first q))
          (record { earlier = omega (arith, o.earlier); has = o.has }))

pub firsts_none : (labels : List ℕ) (n t : ℕ) (old : List ℕ) → length labels ≤ most_words → Small (length labels) old
    → InFirsts labels n t old old (replicate 4096 most_words) 0
firsts_none labels n t old h s = record {
  i_le = omega arith;
  few = h;
  small = s;
  places = length-replicate {A = ℕ} 4096 most_words;
  done = row_none _ old s.len;
  rest = λ j q. refl;
  noted = λ j q. absurd (omega arith);
  known = λ x q. inl (get_or-replicate {A = ℕ} 4096 x most_words 0 q);
}

-- ---- the row, said of the words

pub row_small : {n t : ℕ} {roots labels goals row : List ℕ} → Held n roots labels goals → EndingRow n (words roots labels goals) t row
    → Small (length labels) row
row_small {n} {t} {roots} {labels} {goals} {row} H E =
    let e : length (words roots labels goals) ≡ length labels = held_length H ∙ sym H.labelled in
    subst (λ k. Small k row) e E.small

module _ {n : ℕ} {roots labels goals old row : List ℕ} (H : Held n roots labels goals) (t : ℕ) (deep : t < n)
    (E : EndingRow n (words roots labels goals) (suc t) old) (B : Row (length labels) (first_like (row_key labels n t old)) row) where
  abbrev table : List Word
  table = words roots labels goals

  key_is : (i : ℕ) → i < length table → row_key labels n t old i ≡ step_key n table t (at old) i
  unfolding row_key
  key_is i h = ap (λ x. at old i * 4 + symbol n t x) (sym (word_label roots labels goals i h))

  pub firsts_are : (i : ℕ) → i < length table → at row i ≡ first_like (step_key n table t (at old)) i
  firsts_are i h = B.is i (omega (arith, held_length H, H.labelled))
      ∙ like_cong (row_key labels n t old) (step_key n table t (at old)) i (λ j l. key_is j (omega arith))

  pub ends_now : EndingRow n table t row
  ends_now = record {
    small = record {
      len = B.len;
      lt =
          λ i h. omega (arith, firsts_are i h, like_le (step_key n table t (at old)) i, held_length H, H.few);
    };
    tells = tells_row (length table) (ending_at n table t) (first_like (step_key n table t (at old))) (at row) firsts_are
        (tells_first (length table) (ending_at n table t) (step_key n table t (at old)) (tells_step H.table t deep (at old) E.tells));
  }
