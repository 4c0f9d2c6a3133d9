-- Partners found edge by edge. Each vertex that an edge passed has reached has the partner that the edge gives it, and all others have none
-- yet; so if an edge would give its vertex another partner, some edge passed gave it the one that it has.
use mathlib.Core.Path.{◌≡◌, refl, sym, ap, ◌∙◌}
use mathlib.Core.Bool.{Bool, true, false, not, ◌&&◌, ◌||◌}
use mathlib.Core.Logic.{◌⊎◌, inl, inr}
use mathlib.Core.List.{List}
use Prim.Native.Nat.{ℕ, ◌+◌, ◌-◌, ◌*◌, ◌≤◌, ◌<◌}
use native.Mathlib.Omega.{arith}
use native.Mathlib.Nat.{not-suc-le-zero}
use native.Mathlib.Decide.{ℕ_discrete}
use lib.ListN.{length, get_or, set, replicate, length-set, length-replicate, get_or-replicate}
use lib.Seq.{get_or-set_same, get_or-set_other}
use lib.Dec.{eqb}
use borrow.Author.Tests.{eqb-true, eqb-false}
use Rattle.trellis.specs.Bounds.{most_words, most_q}
use Rattle.trellis.specs.Own.{Edge}
use Rattle.trellis.proofs.Bools.{clash}
use Rattle.edges.specs.declared.Edge as held
use Rattle.edges.specs.Inner.Edges.{edge_in, held_edge, EdgesSmall}
use Rattle.partners.specs.Inner.Following.{slot, partner, end_for, Stuck, missing, clashing, Partners, StepCarried}

pub end_read : (ends matched : List ℕ) (v a : ℕ) {y place : ℕ} → y ≡ get_or matched v 0 → place ≡ most_q * (y - 1) + a
    → get_or ends place 0 ≡ get_or ends (slot (partner matched v) a) 0
end_read ends matched v a p q = ap (λ i. get_or ends i 0) (q ∙ ap (λ y. most_q * (y - 1) + a) p)

-- the edge that is read, and its vertex's partner, are in bounds
pub end_asked : (ends : List ℕ) {pairs symbols matched : List ℕ} {count k : ℕ} {e : held.Edge} → EdgesSmall pairs symbols count
    → Partners (edge_in pairs symbols) count matched → length ends ≡ most_q * most_words → k < count → e ≡ held_edge (edge_in pairs symbols k)
    → (e.from < most_words) × (e.symbol < most_q) × (length ends ≡ most_q * most_words) × (length matched ≡ most_words)
    × (0 < get_or matched e.from 0) × (get_or matched e.from 0 ≤ most_words)
end_asked ends {matched = matched} {k = k} S P long h q =
    let f = ap (λ (e : held.Edge). e.from) q in
    let g = ap (λ (e : held.Edge). get_or matched e.from 0) q in (
      omega (arith, f, S.from_small k h),
      omega (arith, ap (λ (e : held.Edge). e.symbol) q, S.symbol_small k h),
      long,
      P.long,
      omega (arith, g, P.some k h),
      omega (arith, g, P.small k h),
    )

-- ---- the answer of can_join

module _ {known end : ℕ} where
  pub joins_not : (not (eqb end 0) && (eqb known 0 || eqb known end)) ≡ false → (end ≡ 0) ⊎ ((known ≡ 0 → ⊥) × (known ≡ end → ⊥))
  joins_not e = go (eqb end 0) (eqb known 0) (eqb known end) refl refl refl e
    where
      go : (x y z : Bool) → eqb end 0 ≡ x → eqb known 0 ≡ y → eqb known end ≡ z → (not x && (y || z)) ≡ false
          → (end ≡ 0) ⊎ ((known ≡ 0 → ⊥) × (known ≡ end → ⊥))
      go true y z p q r e = inl (eqb-true end 0 p)
      go false true z p q r e = absurd (clash e)
      go false false true p q r e = absurd (clash e)
      go false false false p q r e = inr (eqb-false known 0 q, eqb-false known end r)

  pub joins_so : (not (eqb end 0) && (eqb known 0 || eqb known end)) ≡ true → (end ≡ 0 → ⊥) × ((known ≡ 0) ⊎ (known ≡ end))
  joins_so e = go (eqb end 0) (eqb known 0) (eqb known end) refl refl refl e
    where
      go : (x y z : Bool) → eqb end 0 ≡ x → eqb known 0 ≡ y → eqb known end ≡ z → (not x && (y || z)) ≡ true
          → (end ≡ 0 → ⊥) × ((known ≡ 0) ⊎ (known ≡ end))
      go true y z p q r e = absurd (clash (sym e))
      go false true z p q r e = (eqb-false end 0 p, inl (eqb-true known 0 q))
      go false false true p q r e = (eqb-false end 0 p, inr (eqb-true known end r))
      go false false false p q r e = absurd (clash (sym e))

-- ---- the loop

-- an edge below k that reaches v, and v's partner by it
pub record Reached (e : ℕ → Edge) (ends old : List ℕ) (k v known : ℕ) : Type 0 where
  pub at : ℕ
  pub below : at < k
  pub here : (e at).to ≡ v
  pub is : known ≡ end_for ends old (e at)

pub record Carried (e : ℕ → Edge) (count : ℕ) (ends old new : List ℕ) (k : ℕ) : Type 0 where
  pub inside : k ≤ count
  pub long : length new ≡ most_words
  pub done : (j : ℕ) → j < k → (0 < end_for ends old (e j)) × (get_or new (e j).to 0 ≡ end_for ends old (e j))
  pub blank : (v : ℕ) → v < most_words → (get_or new v 0 ≡ 0) ⊎ Reached e ends old k v (get_or new v 0)

pub carried_start : {e : ℕ → Edge} {count : ℕ} {ends old new : List ℕ} → new ≡ replicate most_words 0 → Carried e count ends old new 0
carried_start q = record {
  inside = omega arith;
  long = ap length q ∙ length-replicate {A = ℕ} most_words 0;
  done = λ j h. absurd (not-suc-le-zero h);
  blank = λ v h. inl (ap (λ l. get_or l v 0) q ∙ get_or-replicate {A = ℕ} most_words v 0 0 h);
}

module _ {e : ℕ → Edge} {count : ℕ} {ends old new : List ℕ} {k to end : ℕ} (C : Carried e count ends old new k) (h : k < count)
    (small : (e k).to < most_words) (to_is : to ≡ (e k).to) (end_is : end ≡ end_for ends old (e k)) where
  in_new : to < length new
  in_new = omega (arith, C.long)

  pub carried_stuck : {b : Bool} → b ≡ (not (eqb end 0) && (eqb (get_or new to 0) 0 || eqb (get_or new to 0) end)) → b ≡ false
      → StepCarried e count ends old new false
  carried_stuck {b} d t = record {
    long = C.long;
    yes = λ z. absurd (clash (sym z));
    no = λ z. stuck (joins_not (sym d ∙ t))
        (C.blank to (omega arith));
  }
    where
      stuck : (end ≡ 0) ⊎ ((get_or new to 0 ≡ 0 → ⊥) × (get_or new to 0 ≡ end → ⊥))
          → (get_or new to 0 ≡ 0) ⊎ Reached e ends old k to (get_or new to 0)
          → Stuck e count ends old
      stuck (inl z) w = missing k h (sym end_is ∙ z)
      stuck (inr z) (inl w) = absurd (z.0 w)
      stuck (inr z) (inr w) = clashing w.at k (omega (arith, w.below)) h (w.here ∙ to_is) (λ q. z.1 (w.is ∙ q ∙ sym end_is))

  pub carried_next : {b : Bool} → b ≡ (not (eqb end 0) && (eqb (get_or new to 0) 0 || eqb (get_or new to 0) end)) → b ≡ true
      → Carried e count ends old (set new to end) (k + 1)
  carried_next {b} d t = go (joins_so (sym d ∙ t))
    where
      go : (end ≡ 0 → ⊥) × ((get_or new to 0 ≡ 0) ⊎ (get_or new to 0 ≡ end)) → Carried e count ends old (set new to end) (k + 1)
      go J = record {
        inside = omega arith;
        long = length-set new to end ∙ C.long;
        done = λ j l. after j l (ℕ_discrete j k) (ℕ_discrete (e j).to to);
        blank = λ v l. blanks v l (ℕ_discrete v to);
      }
        where
          here : get_or (set new to end) to 0 ≡ end
          here = get_or-set_same new to end 0 in_new

          -- what an edge passed gave this vertex is the same
          kept : (j : ℕ) → j < k → (e j).to ≡ to → end_for ends old (e j) ≡ end
          kept j l q = by J.1
            where
              held : get_or new to 0 ≡ end_for ends old (e j)
              held = ap (λ v. get_or new v 0) (sym q) ∙ (C.done j l).1

              by : (get_or new to 0 ≡ 0) ⊎ (get_or new to 0 ≡ end) → end_for ends old (e j) ≡ end
              by (inl z) = absurd (omega (arith, held, (C.done j l).0))
              by (inr z) = sym held ∙ z

          after : (j : ℕ) → j < k + 1 → Dec (j ≡ k) → Dec ((e j).to ≡ to)
              → (0 < end_for ends old (e j)) × (get_or (set new to end) (e j).to 0 ≡ end_for ends old (e j))
          after j l (yes p) q =
              let r : end_for ends old (e j) ≡ end = ap (λ i. end_for ends old (e i)) p ∙ sym end_is in
              let s : (e j).to ≡ to = ap (λ i. (e i).to) p ∙ sym to_is in
              (omega (arith, r, J.0), ap (λ v. get_or (set new to end) v 0) s ∙ here ∙ sym r)
          after j l (no p) (yes q) =
              let m : j < k = omega arith in
              ((C.done j m).0, ap (λ v. get_or (set new to end) v 0) q ∙ here ∙ sym (kept j m q))
          after j l (no p) (no q) =
              let m : j < k = omega arith in
              ((C.done j m).0, get_or-set_other new to (e j).to end 0 q ∙ (C.done j m).1)

          blanks : (v : ℕ) → v < most_words → Dec (v ≡ to)
              → (get_or (set new to end) v 0 ≡ 0) ⊎ Reached e ends old (k + 1) v (get_or (set new to end) v 0)
          blanks v l (yes p) = inr (record {
            at = k;
            below = omega arith;
            here = sym to_is ∙ sym p;
            is = ap (λ u. get_or (set new to end) u 0) p ∙ here ∙ end_is;
          })
          blanks v l (no p) = old_one (C.blank v l)
            where
              same : get_or (set new to end) v 0 ≡ get_or new v 0
              same = get_or-set_other new to v end 0 p

              old_one : (get_or new v 0 ≡ 0) ⊎ Reached e ends old k v (get_or new v 0)
                  → (get_or (set new to end) v 0 ≡ 0) ⊎ Reached e ends old (k + 1) v (get_or (set new to end) v 0)
              old_one (inl z) = inl (same ∙ z)
              old_one (inr w) = inr (record { at = w.at; below = omega (arith, w.below); here = w.here; is = same ∙ w.is })

pub carried_all : {e : ℕ → Edge} {count : ℕ} {ends old new : List ℕ} {k : ℕ} → Carried e count ends old new k → count ≤ k
    → StepCarried e count ends old new true
carried_all C h = record { long = C.long; yes = λ z k l. C.done k (omega arith); no = λ z. absurd (clash z) }
