-- Marks in a fixed array. A mark for each vertex that was met tells which vertices are met. For each vertex and symbol the vertex last met
-- at the other end tells whether two edges make twins: as long as none did, all edges of that vertex and symbol end there.
use mathlib.Core.Path.{◌≡◌, refl, sym, ap, ap₂, subst, ◌∙◌}
use mathlib.Core.Bool.{Bool, true, false, not, ◌&&◌, ◌||◌}
use mathlib.Core.Logic.{◌⊎◌, inl, inr}
use mathlib.Core.List.{List}
use Prim.Native.Nat.{ℕ, ◌+◌, ◌*◌, ◌≤◌, ◌<◌}
use native.Mathlib.Omega.{arith}
use native.Mathlib.Nat.{not-suc-le-zero}
use native.Mathlib.Numerals.{add-one}
use native.Mathlib.Decide.{ℕ_discrete}
use lib.ListN.{length, get_or, set, replicate, length-set, length-replicate, get_or-replicate}
use lib.Seq.{get_or-set_same, get_or-set_other}
use lib.Dec.{eqb}
use borrow.Author.Tests.{eq-eqb, ne_eqb, eqb-true, eqb-false}
use Rattle.trellis.specs.Bounds.{most_q, most_words}
use Rattle.trellis.specs.Lists.{one_if, all, any}
use Rattle.trellis.proofs.Bools.{clash}
use Rattle.edges.specs.declared.Edge.{Edge}
use Rattle.edges.proofs.Reading.{EdgeSmall}
use Rattle.edges.specs.Inner.Edges.{EdgesSmall, held_edge}
use Rattle.edges.proofs.Tests.{all_of, all_same, all_fails, Passed, passed_start, passed_by, passed_all}
use Rattle.twins.specs.Inner.Twins.{covered, apart, no_twins, turned_in, Marks}

-- ---- met or not

pub record Marking (f : ℕ → ℕ) (count : ℕ) (marks : List ℕ) (k : ℕ) : Type 0 where
  pub inside : k ≤ count
  pub so_far : Marks f k marks

pub marking_start : (f : ℕ → ℕ) (count : ℕ) {marks : List ℕ} → marks ≡ replicate most_words 0 → Marking f count marks 0
unfolding any
marking_start f count e = record {
  inside = omega arith;
  so_far = record {
    long = ap length e ∙ length-replicate {A = ℕ} most_words 0;
    marked = λ v h. ap (λ m. get_or m v 0) e ∙ get_or-replicate {A = ℕ} most_words v 0 0 h;
  };
}

pub marking_next : {f : ℕ → ℕ} {count : ℕ} {marks : List ℕ} {k v : ℕ} → Marking f count marks k → k < count → v ≡ f k → f k < most_words
    → Marking f count (set marks v 1) (k + 1)
unfolding any
marking_next {f} {count} {marks} {k} {v} m h v_is small = record {
  inside = omega arith;
  so_far = record { long = length-set marks v 1 ∙ m.so_far.long; marked = λ u l. rw (add-one k) (go u (ℕ_discrete (f k) u) l) };
}
  where
    met : (b : Bool) → 1 ≡ one_if (b || true)
    met true = refl
    met false = refl

    other : (b : Bool) → one_if b ≡ one_if (b || false)
    other true = refl
    other false = refl

    go : (u : ℕ) → Dec (f k ≡ u) → u < most_words → get_or (set marks v 1) u 0 ≡ one_if (any (λ j. eqb (f j) u) k || eqb (f k) u)
    go u (yes q) l =
        let d : v ≡ u = v_is ∙ q in
        let n : u < length marks = omega (arith, m.so_far.long) in
        ap (λ w. get_or (set marks w 1) u 0) d ∙ get_or-set_same marks u 1 0 n ∙ rw (eq-eqb (f k) u q) (met (any (λ j. eqb (f j) u) k))
    go u (no q) l =
        get_or-set_other marks v u 1 0 (λ d. q (sym v_is ∙ sym d)) ∙ m.so_far.marked u l
        ∙ rw (ne_eqb (f k) u q) (other (any (λ j. eqb (f j) u) k))

pub marking_all : {f : ℕ → ℕ} {count : ℕ} {marks : List ℕ} {k : ℕ} → Marking f count marks k → count ≤ k → Marks f count marks
marking_all {f} {count} {marks} {k} m h = let e : k ≡ count = omega (arith, m.inside) in subst (λ j. Marks f j marks) e m.so_far

-- a vertex is met if its mark is not 0
pub covered_by : {f : ℕ → ℕ} {count vertices : ℕ} {marks : List ℕ} {r : Bool} → Marks f count marks → vertices ≤ most_words
    → r ≡ all (λ v. not (eqb (get_or marks v 0) 0)) vertices → r ≡ covered f count vertices
unfolding covered
covered_by {f} {count} {vertices} {marks} m few e =
    e ∙ all_same _ _ vertices (λ v h. ap (λ x. not (eqb x 0)) (m.marked v (omega arith)) ∙ marked (any (λ k. eqb (f k) v) count))
  where
    marked : (b : Bool) → not (eqb (one_if b) 0) ≡ b
    marked true = refl
    marked false = refl

-- ---- twins

-- an edge below k with this slot, and what was seen there
pub record Last (slot other : ℕ → ℕ) (k x seen : ℕ) : Type 0 where
  pub at : ℕ
  pub below : at < k
  pub here : slot at ≡ x
  pub is : seen ≡ other at + 1

-- no two edges below k make twins, and seen has the other end for each slot that they have
pub record Apart (one symbol other : ℕ → ℕ) (count : ℕ) (seen : List ℕ) (k : ℕ) : Type 0 where
  pub so_far : Passed (λ k. all (λ j. apart one symbol other j k) k) count k
  pub long : length seen ≡ most_q * most_words
  pub known : (j : ℕ) → j < k → get_or seen (most_q * one j + symbol j) 0 ≡ other j + 1
  pub blank : (x : ℕ) → x < most_q * most_words → (get_or seen x 0 ≡ 0) ⊎ Last (λ j. most_q * one j + symbol j) other k x (get_or seen x 0)

pub record Small (one symbol other : ℕ → ℕ) (count : ℕ) : Type 0 where
  pub ones : (k : ℕ) → k < count → one k < most_words
  pub symbols : (k : ℕ) → k < count → symbol k < most_q
  pub others : (k : ℕ) → k < count → other k < most_words

pub small_of : {pairs symbols : List ℕ} {count : ℕ} (back : Bool) → EdgesSmall pairs symbols count
    → Small (λ k. (turned_in back pairs symbols k).from) (λ k. (turned_in back pairs symbols k).symbol) (λ k. (turned_in back pairs symbols k).to)
    count
small_of false s = record { ones = s.from_small; symbols = s.symbol_small; others = s.to_small }
small_of true s = record { ones = s.to_small; symbols = s.symbol_small; others = s.from_small }

pub slot_small : {one symbol other : ℕ → ℕ} {count k slot : ℕ} → Small one symbol other count → k < count → slot ≡ most_q * one k + symbol k
    → slot < most_q * most_words
slot_small {k = k} s h e = omega (arith, s.ones k h, s.symbols k h)

-- the same of an edge that is read
pub edge_small : {pairs symbols : List ℕ} {count k : ℕ} {e : Edge} (back : Bool) → EdgesSmall pairs symbols count → k < count
    → e ≡ held_edge (turned_in back pairs symbols k) → EdgeSmall e
edge_small {k = k} back s h d = let t = small_of back s in rw d (record { from_in = t.ones k h; symbol_in = t.symbols k h; to_in = t.others k h })

module _ (one symbol other : ℕ → ℕ) where
  pub apart_of : (j k : ℕ) → (one j ≡ one k → symbol j ≡ symbol k → other j ≡ other k) → apart one symbol other j k ≡ true
  unfolding apart
  apart_of j k f = go (ℕ_discrete (one j) (one k)) (ℕ_discrete (symbol j) (symbol k))
    where
      go : Dec (one j ≡ one k) → Dec (symbol j ≡ symbol k)
          → not (eqb (one j) (one k) && (eqb (symbol j) (symbol k) && not (eqb (other j) (other k)))) ≡ true
      go (yes p) (yes q) = rw (eq-eqb (one j) (one k) p, eq-eqb (symbol j) (symbol k) q, eq-eqb (other j) (other k) (f p q))
      go (yes p) (no q) = rw (eq-eqb (one j) (one k) p, ne_eqb (symbol j) (symbol k) q)
      go (no p) d = rw (ne_eqb (one j) (one k) p)

  apart_false : (j k : ℕ) → one j ≡ one k → symbol j ≡ symbol k → (other j ≡ other k → ⊥) → apart one symbol other j k ≡ false
  unfolding apart
  apart_false j k p q r = rw (eq-eqb (one j) (one k) p, eq-eqb (symbol j) (symbol k) q, ne_eqb (other j) (other k) r)

  -- what the test says
  pub apart_says : (j k : ℕ) → apart one symbol other j k ≡ true → one j ≡ one k → symbol j ≡ symbol k → other j ≡ other k
  unfolding apart
  apart_says j k e p q = go (ℕ_discrete (other j) (other k))
    where
      go : Dec (other j ≡ other k) → other j ≡ other k
      go (yes r) = r
      go (no r) = absurd (clash (sym e ∙ apart_false j k p q r))

module _ {one symbol other : ℕ → ℕ} {count : ℕ} where
  pub apart_start : {seen : List ℕ} → seen ≡ replicate (most_q * most_words) 0 → Apart one symbol other count seen 0
  apart_start e = record {
    so_far = passed_start;
    long = ap length e ∙ length-replicate {A = ℕ} (most_q * most_words) 0;
    known = λ j h. absurd (not-suc-le-zero h);
    blank = λ x h. inl (ap (λ s. get_or s x 0) e ∙ get_or-replicate {A = ℕ} (most_q * most_words) x 0 0 h);
  }

  module _ {seen : List ℕ} {k slot vertex : ℕ} (small : Small one symbol other count) (a : Apart one symbol other count seen k)
      (h : k < count) (slot_is : slot ≡ most_q * one k + symbol k) (vertex_is : vertex ≡ other k) where
    slot_low : slot < most_q * most_words
    slot_low = slot_small small h slot_is

    slot_inside : slot < length seen
    slot_inside = omega (arith, slot_low, a.long)

    -- the edges below k with the slot of k
    same_slot : (j : ℕ) → j < k → most_q * one j + symbol j ≡ slot → (one j ≡ one k) × (symbol j ≡ symbol k)
    same_slot j l e =
        let s : symbol j < most_q = small.symbols j (omega arith) in
        let r : symbol k < most_q = small.symbols k h in
        (omega (arith, slot_is), omega (arith, slot_is))

    pub twins_found : {b : Bool} → b ≡ (not (eqb (get_or seen slot 0) 0) && not (eqb (get_or seen slot 0) (vertex + 1))) → b ≡ true
        → false ≡ no_twins one symbol other count
    unfolding no_twins
    twins_found {b} d t = go (a.blank slot slot_low)
      where
        seen_some : (x y : Bool) → (not x && not y) ≡ true → (x ≡ false) × (y ≡ false)
        seen_some true y q = absurd (clash (sym q))
        seen_some false true q = absurd (clash (sym q))
        seen_some false false q = (refl, refl)

        facts : (eqb (get_or seen slot 0) 0 ≡ false) × (eqb (get_or seen slot 0) (vertex + 1) ≡ false)
        facts = seen_some _ _ (sym d ∙ t)

        go : (get_or seen slot 0 ≡ 0) ⊎ Last (λ j. most_q * one j + symbol j) other k slot (get_or seen slot 0)
            → false ≡ all (λ k. all (λ j. apart one symbol other j k) k) count
        go (inl e) = absurd (eqb-false (get_or seen slot 0) 0 facts.0 e)
        go (inr w) =
            let p = same_slot w.at w.below w.here in
            let r : other w.at ≡ other k → ⊥ =
            λ e. eqb-false (get_or seen slot 0) (vertex + 1) facts.1 (w.is ∙ ap (λ v. v + 1) (e ∙ sym vertex_is)) in
            sym (all_fails (λ k. all (λ j. apart one symbol other j k) k) count k h
            (all_fails (λ j. apart one symbol other j k) k w.at w.below (apart_false one symbol other w.at k p.0 p.1 r)))

    pub twins_not : {b : Bool} → b ≡ (not (eqb (get_or seen slot 0) 0) && not (eqb (get_or seen slot 0) (vertex + 1))) → b ≡ false
        → Apart one symbol other count (set seen slot (vertex + 1)) (k + 1)
    twins_not {b} d t = record {
      so_far = passed_by a.so_far h (all_of (λ j. apart one symbol other j k) k (λ j l. apart_of one symbol other j k (agree j l)));
      long = length-set seen slot (vertex + 1) ∙ a.long;
      known = λ j l. after j (ℕ_discrete (most_q * one j + symbol j) slot) l (ℕ_discrete j k);
      blank = λ x l. blanks x l (ℕ_discrete x slot);
    }
      where
        fine : (x y : Bool) → (not x && not y) ≡ false → (x ≡ true) ⊎ (y ≡ true)
        fine true y q = inl refl
        fine false true q = inr refl
        fine false false q = absurd (clash q)

        agree : (j : ℕ) → j < k → one j ≡ one k → symbol j ≡ symbol k → other j ≡ other k
        agree j l p q = go (fine _ _ (sym d ∙ t))
          where
            here : get_or seen slot 0 ≡ other j + 1
            here = ap (λ x. get_or seen x 0) (slot_is ∙ ap₂ (λ u v. most_q * u + v) (sym p) (sym q)) ∙ a.known j l

            go : (eqb (get_or seen slot 0) 0 ≡ true) ⊎ (eqb (get_or seen slot 0) (vertex + 1) ≡ true) → other j ≡ other k
            go (inl e) = let z = eqb-true (get_or seen slot 0) 0 e in absurd (omega (arith, here))
            go (inr e) = let z = eqb-true (get_or seen slot 0) (vertex + 1) e in omega (arith, here, vertex_is)

        put : get_or (set seen slot (vertex + 1)) slot 0 ≡ vertex + 1
        put = get_or-set_same seen slot (vertex + 1) 0 slot_inside

        after : (j : ℕ) → Dec (most_q * one j + symbol j ≡ slot) → j < k + 1 → Dec (j ≡ k)
            → get_or (set seen slot (vertex + 1)) (most_q * one j + symbol j) 0 ≡ other j + 1
        after j (yes e) l (yes q) = ap (λ x. get_or (set seen slot (vertex + 1)) x 0) e ∙ put ∙ ap (λ v. v + 1) (vertex_is ∙ ap other (sym q))
        after j (yes e) l (no q) =
            let m : j < k = omega arith in
            let p = same_slot j m e in
            ap (λ x. get_or (set seen slot (vertex + 1)) x 0) e ∙ put ∙ ap (λ v. v + 1) (vertex_is ∙ sym (agree j m p.0 p.1))
        after j (no e) l (yes q) = absurd (e (ap₂ (λ u v. most_q * u + v) (ap one q) (ap symbol q) ∙ sym slot_is))
        after j (no e) l (no q) = get_or-set_other seen slot (most_q * one j + symbol j) (vertex + 1) 0 e ∙ a.known j (omega arith)

        blanks : (x : ℕ) → x < most_q * most_words → Dec (x ≡ slot)
            → (get_or (set seen slot (vertex + 1)) x 0 ≡ 0)
            ⊎ Last (λ j. most_q * one j + symbol j) other (k + 1) x (get_or (set seen slot (vertex + 1)) x 0)
        blanks x l (yes e) = inr (record {
          at = k;
          below = omega arith;
          here = sym slot_is ∙ sym e;
          is = ap (λ y. get_or (set seen slot (vertex + 1)) y 0) e ∙ put ∙ ap (λ v. v + 1) vertex_is;
        })
        blanks x l (no e) = old (a.blank x l)
          where
            same : get_or (set seen slot (vertex + 1)) x 0 ≡ get_or seen x 0
            same = get_or-set_other seen slot x (vertex + 1) 0 e

            old : (get_or seen x 0 ≡ 0) ⊎ Last (λ j. most_q * one j + symbol j) other k x (get_or seen x 0)
                → (get_or (set seen slot (vertex + 1)) x 0 ≡ 0)
                ⊎ Last (λ j. most_q * one j + symbol j) other (k + 1) x (get_or (set seen slot (vertex + 1)) x 0)
            old (inl z) = inl (same ∙ z)
            old (inr w) = inr (record { at = w.at; below = omega (arith, w.below); here = w.here; is = same ∙ w.is })

  pub twins_none : {seen : List ℕ} {k : ℕ} → Apart one symbol other count seen k → count ≤ k → true ≡ no_twins one symbol other count
  unfolding no_twins
  twins_none a h = passed_all a.so_far h
