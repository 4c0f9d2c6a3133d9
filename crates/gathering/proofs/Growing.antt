-- One step further, as the code makes it. Edges ascend by the vertex where they start, so those of a vertex stand together: noted downward,
-- the last note of a vertex is where its edges begin, and the first edge of another vertex ends them. What is put into the array is, at
-- every moment, what has been passed of the list that is to be put there.
use mathlib.Core.Path.{◌≡◌, refl, sym, ap, ap₂, subst, ◌∙◌}
use mathlib.Core.List.{List, [], ◌∷◌, ◌++◌, append-nil, append_assoc, map, flat_map}
use Prim.Native.Nat.{ℕ, zero, suc, ◌+◌, ◌-◌, ◌*◌, ◌≤◌, ◌<◌}
use native.Mathlib.Omega.{arith}
use native.Mathlib.Nat.{zero-add, le_of_eq}
use native.Mathlib.Numerals.{add-one}
use native.Mathlib.Decide.{ℕ_discrete}
use lib.ListN.{length, get_or, set, take, replicate, length-append, length-set, length-replicate, get_or-replicate, length-map}
use lib.Seq.{get_or-set_same, get_or-set_other, take-suc, take-suc-set}
use borrow.Author.Tests.{eq-eqb, ne_eqb}
use Rattle.std.specs.Prelude.{Some, None}
use Rattle.trellis.specs.Bounds.{most_words}
use Rattle.trellis.specs.Lists.{run, each}
use Rattle.trellis.specs.Own.{Edge}
use Rattle.trellis.specs.Section.{leaving}
use Rattle.trellis.proofs.Lists.{run_snoc, flat_map_append}
use Rattle.whole_section.proofs.Lists.{run_cons, run_none, leaving_yes, leaving_no, leaving_none}
use Rattle.codes.specs.Inner.Codes.{code, code_vertex}
use Rattle.gathering.specs.Inner.Growing.{PutBehind, BeginsAt, Starts, FirstLevel, RootCodes}

-- ---- where the edges of a vertex begin

-- the edges from k on are noted
pub record Noted (e : ℕ → Edge) (count : ℕ) (starts : List ℕ) (k : ℕ) : Type 0 where
  pub inside : k ≤ count
  pub long : length starts ≡ most_words
  pub from : (v : ℕ) → v < most_words → k ≤ get_or starts v 0
  pub to : (v : ℕ) → v < most_words → get_or starts v 0 ≤ count
  pub same : (v : ℕ) → v < most_words → leaving v (run e k (count - k)) ≡ leaving v (run e (get_or starts v 0) (count - get_or starts v 0))
  pub hit : (v : ℕ) → v < most_words → get_or starts v 0 < count → (e (get_or starts v 0)).from ≡ v

pub noted_start : (e : ℕ → Edge) (count : ℕ) {starts : List ℕ} → starts ≡ replicate most_words count → Noted e count starts count
noted_start e count {starts} q = record {
  inside = omega arith;
  long = ap length q ∙ length-replicate {A = ℕ} most_words count;
  from = λ v h. le_of_eq (sym (is v h));
  to = λ v h. le_of_eq (is v h);
  same = λ v h. ap (λ a. leaving v (run e a (count - a))) (sym (is v h));
  hit = λ v h b. absurd (omega (arith, is v h));
}
  where
    is : (v : ℕ) → v < most_words → get_or starts v 0 ≡ count
    is v h = ap (λ s. get_or s v 0) q ∙ get_or-replicate {A = ℕ} most_words v count 0 h

pub noted_next : {e : ℕ → Edge} {count : ℕ} {starts : List ℕ} {k v : ℕ} → Noted e count starts k → 0 < k → v ≡ (e (k - 1)).from
    → (e (k - 1)).from < most_words → Noted e count (set starts v (k - 1)) (k - 1)
noted_next {e} {count} {starts} {k} {v} n pos v_is small = record {
  inside = omega (arith, n.inside);
  long = length-set starts v (k - 1) ∙ n.long;
  from = λ u h. go_from u h (ℕ_discrete u v);
  to = λ u h. go_to u h (ℕ_discrete u v);
  same = λ u h. go_same u h (ℕ_discrete u v);
  hit = λ u h. go_hit u h (ℕ_discrete u v);
}
  where
    put : (u : ℕ) → u ≡ v → get_or (set starts v (k - 1)) u 0 ≡ k - 1
    put u q = ap (λ w. get_or (set starts v (k - 1)) w 0) q ∙ get_or-set_same starts v (k - 1) 0 (omega (arith, n.long))

    old : (u : ℕ) → (u ≡ v → ⊥) → get_or (set starts v (k - 1)) u 0 ≡ get_or starts u 0
    old u q = get_or-set_other starts v u (k - 1) 0 q

    go_from : (u : ℕ) → u < most_words → Dec (u ≡ v) → k - 1 ≤ get_or (set starts v (k - 1)) u 0
    go_from u h (yes q) = le_of_eq (sym (put u q))
    go_from u h (no q) = omega (arith, old u q, n.from u h)

    go_to : (u : ℕ) → u < most_words → Dec (u ≡ v) → get_or (set starts v (k - 1)) u 0 ≤ count
    go_to u h (yes q) = omega (arith, put u q, n.inside)
    go_to u h (no q) = omega (arith, old u q, n.to u h)

    go_same : (u : ℕ) → u < most_words → Dec (u ≡ v)
        → leaving u (run e (k - 1) (count - (k - 1))) ≡ leaving u
        (run e (get_or (set starts v (k - 1)) u 0) (count - get_or (set starts v (k - 1)) u 0))
    go_same u h (yes q) = ap (λ a. leaving u (run e a (count - a))) (sym (put u q))
    go_same u h (no q) =
        let c : run e (k - 1) (count - (k - 1)) ≡ e (k - 1) ∷ run e (suc (k - 1)) (count - suc (k - 1)) =
        run_cons e (k - 1) count (omega (arith, n.inside)) in
        let d : suc (k - 1) ≡ k = omega arith in
        ap (leaving u) c ∙ leaving_no u (e (k - 1)) (run e (suc (k - 1)) (count - suc (k - 1)))
        (ne_eqb (e (k - 1)).from u (λ r. q (sym r ∙ sym v_is)))
        ∙ ap (λ a. leaving u (run e a (count - a))) d ∙ n.same u h ∙ ap (λ a. leaving u (run e a (count - a))) (sym (old u q))

    go_hit : (u : ℕ) → u < most_words → Dec (u ≡ v) → get_or (set starts v (k - 1)) u 0 < count → (e (get_or (set starts v (k - 1)) u 0)).from ≡ u
    go_hit u h (yes q) b = ap (λ a. (e a).from) (put u q) ∙ sym v_is ∙ sym q
    go_hit u h (no q) b = ap (λ a. (e a).from) (old u q) ∙ n.hit u h (omega (arith, old u q))

pub noted_all : {e : ℕ → Edge} {count : ℕ} {starts : List ℕ} {k : ℕ} → Noted e count starts k → k ≤ 0 → Starts e count starts
noted_all {e} {count} {starts} {k} n h = record {
  long = n.long;
  at = λ v b. record {
    inside = n.to v b;
    same = let q : 0 ≡ k = omega arith in let z : count ≡ count - 0 = omega arith in ap (λ m. leaving v (run e 0 m)) z
        ∙ ap (λ a. leaving v (run e a (count - a))) q ∙ n.same v b;
    hit = n.hit v b;
  };
}

pub begins_of : {e : ℕ → Edge} {count : ℕ} {starts : List ℕ} (c : ℕ) {v r : ℕ} → Starts e count starts → v ≡ code_vertex c
    → r ≡ get_or starts v 0 → BeginsAt e count (code_vertex c) r
begins_of {e} {count} {starts} c {v} {r} s q w =
    subst (BeginsAt e count (code_vertex c)) (sym (w ∙ ap (λ u. get_or starts u 0) q)) (s.at (code_vertex c) (omega arith))

-- ---- one beginning

-- what is left of the edges that leave v still has to be put behind what is filled
pub record Putting (f : Edge → ℕ) (e : ℕ → Edge) (count v : ℕ) (old : List ℕ) (made : ℕ) (new : List ℕ) (filled k : ℕ) : Type 0 where
  pub inside : k ≤ count
  pub room : filled ≤ most_words
  pub long : length new ≡ most_words
  pub left : take filled new ++ map f (leaving v (run e k (count - k))) ≡ take made old ++ map f (leaving v (run e 0 count))
  pub size : filled + length (leaving v (run e k (count - k))) ≡ made + length (leaving v (run e 0 count))
  pub above : k < count → v ≤ (e k).from

module _ (e : ℕ → Edge) (v : ℕ) where
  pub none_later : (k m : ℕ) → ((j : ℕ) → k ≤ j → j < k + m → (e j).from ≡ v → ⊥) → leaving v (run e k m) ≡ []
  unfolding run
  none_later k zero g = leaving_none v
  none_later k (suc m) g = leaving_no v (e k) (run e (suc k) m) (ne_eqb (e k).from v (g k (omega arith) (omega arith)))
      ∙ none_later (suc k) m (λ j a b. g j (omega arith) (omega arith))

module _ {f : Edge → ℕ} {e : ℕ → Edge} {count v : ℕ} {old : List ℕ} {made : ℕ} where
  pub putting_start : {start : ℕ} → BeginsAt e count v start → made ≤ most_words → length old ≡ most_words
      → Putting f e count v old made old made start
  putting_start {start} b h l = record {
    inside = b.inside;
    room = h;
    long = l;
    left = ap (λ es. take made old ++ map f es) (sym b.same);
    size = ap (λ es. made + length es) (sym b.same);
    above = λ g. le_of_eq (sym (b.hit g));
  }

  module _ {new : List ℕ} {filled k : ℕ} (p : Putting f e count v old made new filled k) (h : k < count) where
    leaving_here : (e k).from ≡ v → leaving v (run e k (count - k)) ≡ e k ∷ leaving v (run e (suc k) (count - suc k))
    leaving_here q = ap (leaving v) (run_cons e k count h) ∙ leaving_yes v (e k) (run e (suc k) (count - suc k)) (eq-eqb (e k).from v q)

    pub putting_next : {r : ℕ} → (e k).from ≡ v → filled < most_words → r ≡ f (e k) → ((j k : ℕ) → j ≤ k → k < count → (e j).from ≤ (e k).from)
        → Putting f e count v old made (set new filled r) (filled + 1) (k + 1)
    putting_next {r} q low is rise = subst (λ x. Putting f e count v old made (set new filled x) (filled + 1) (k + 1)) (sym is) (record {
      inside = omega arith;
      room = omega arith;
      long = length-set new filled (f (e k)) ∙ p.long;
      left =
          let t : take (filled + 1) (set new filled (f (e k))) ≡ take filled new ++ (f (e k) ∷ []) =
          rw (add-one filled) (take-suc-set new filled (f (e k)) (omega (arith, p.long))) in
          let u : leaving v (run e k (count - k)) ≡ e k ∷ leaving v (run e (k + 1) (count - (k + 1))) = rw (add-one k) (leaving_here q) in
          ap (λ a. a ++ map f (leaving v (run e (k + 1) (count - (k + 1))))) t
          ∙ append_assoc (take filled new) (f (e k) ∷ []) (map f (leaving v (run e (k + 1) (count - (k + 1)))))
          ∙ ap (λ es. take filled new ++ map f es) (sym u) ∙ p.left;
      size = let u : leaving v (run e k (count - k)) ≡ e k ∷ leaving v (run e (k + 1) (count - (k + 1))) =
          rw (add-one k) (leaving_here q) in omega (arith, p.size, ap length u);
      above = λ g. omega (arith, rise k (k + 1) (omega arith) g);
    })

    pub putting_over : (e k).from ≡ v → most_words ≤ filled → PutBehind (map f (leaving v (run e 0 count))) old made new None
    putting_over q r = record {
      long = p.long;
      put = rw (length-map (leaving v (run e 0 count)) f) (omega (arith, p.size, ap length (leaving_here q)));
    }

  module _ {new : List ℕ} {filled k : ℕ} (p : Putting f e count v old made new filled k) where
    done_by : leaving v (run e k (count - k)) ≡ [] → PutBehind (map f (leaving v (run e 0 count))) old made new (Some filled)
    done_by q = record {
      long = p.long;
      put = record {
        room = p.room;
        filled_is = sym (append-nil (take filled new)) ∙ ap (λ es. take filled new ++ map f es) (sym q) ∙ p.left;
        count = rw (length-map (leaving v (run e 0 count)) f) (omega (arith, p.size, ap length q));
      };
    }

    pub putting_done : count ≤ k → PutBehind (map f (leaving v (run e 0 count))) old made new (Some filled)
    putting_done h = done_by (ap (leaving v) (run_none e k count h) ∙ leaving_none v)

    pub putting_stops : k < count → ((e k).from ≡ v → ⊥) → ((j k : ℕ) → j ≤ k → k < count → (e j).from ≤ (e k).from)
        → PutBehind (map f (leaving v (run e 0 count))) old made new (Some filled)
    putting_stops h q rise = done_by (none_later e v k (count - k) (λ j a b r. later j a (omega arith) r))
      where
        later : (j : ℕ) → k ≤ j → j < count → (e j).from ≡ v → ⊥
        later j a b r = q (omega (arith, p.above h, rise k j a b))

-- ---- all beginnings

-- the beginnings before i are put, and none was too many
pub record Growing (f : ℕ → List ℕ) (old : List ℕ) (have : ℕ) (new : List ℕ) (made i : ℕ) : Type 0 where
  pub inside : i ≤ have
  pub room : made ≤ most_words
  pub long : length new ≡ most_words
  pub filled : take made new ≡ flat_map f (take i old)
  pub count : made ≡ length (flat_map f (take i old))

module _ {f : ℕ → List ℕ} {old : List ℕ} {have : ℕ} where
  pub growing_start : {new : List ℕ} → length new ≡ most_words → Growing f old have new 0 0
  unfolding flat_map
  growing_start l = record { inside = omega arith; room = omega arith; long = l; filled = refl; count = refl }

  module _ {new : List ℕ} {made i : ℕ} (g : Growing f old have new made i) (h : i < have) (l : have ≤ length old) where
    one_more : flat_map f (take (i + 1) old) ≡ flat_map f (take i old) ++ f (get_or old i 0)
    unfolding flat_map
    one_more =
        let t : take (i + 1) old ≡ take i old ++ (get_or old i 0 ∷ []) = rw (add-one i) (take-suc old i 0 (omega arith)) in
        ap (flat_map f) t ∙ flat_map_append f (take i old) (get_or old i 0 ∷ [])
        ∙ ap (λ ys. flat_map f (take i old) ++ ys) (append-nil (f (get_or old i 0)))

    more_count : length (flat_map f (take (i + 1) old)) ≡ length (flat_map f (take i old)) + length (f (get_or old i 0))
    more_count = ap length one_more ∙ length-append (flat_map f (take i old)) (f (get_or old i 0))

    pub growing_next : {newer : List ℕ} {r : ℕ} → PutBehind (f (get_or old i 0)) new made newer (Some r) → Growing f old have newer r (i + 1)
    growing_next m = record {
      inside = omega arith;
      room = m.put.room;
      long = m.long;
      filled = m.put.filled_is ∙ ap (λ xs. xs ++ f (get_or old i 0)) g.filled ∙ sym one_more;
      count = m.put.count ∙ ap (λ k. k + length (f (get_or old i 0))) g.count ∙ sym more_count;
    }

    pub growing_over : {start newer : List ℕ} → PutBehind (f (get_or old i 0)) new made newer None
        → PutBehind (flat_map f (take have old)) start 0 newer None
    growing_over m = record {
      long = m.long;
      put = omega (arith, m.put, g.count, more_count, part (have - (i + 1)) (i + 1) (omega arith));
    }
      where
        part : (k j : ℕ) → j + k ≡ have → length (flat_map f (take j old)) ≤ length (flat_map f (take have old))
        part zero j q = let e : j ≡ have = omega arith in rw e (omega arith)
        part (suc k) j q =
            let t : take (suc j) old ≡ take j old ++ (get_or old j 0 ∷ []) = take-suc old j 0 (omega arith) in
            let u = ap length (ap (flat_map f) t ∙ flat_map_append f (take j old) (get_or old j 0 ∷ []))
            ∙ length-append (flat_map f (take j old)) (flat_map f (get_or old j 0 ∷ [])) in
            omega (arith, part k (suc j) (omega arith))

  pub growing_all : {start new : List ℕ} {made i : ℕ} → Growing f old have new made i → have ≤ i
      → PutBehind (flat_map f (take have old)) start 0 new (Some made)
  growing_all {start} {new} {made} {i} g h =
      let e : i ≡ have = omega (arith, g.inside) in
      record {
        long = g.long;
        put = record {
          room = g.room;
          filled_is = g.filled ∙ ap (λ k. flat_map f (take k old)) e;
          count = g.count ∙ ap (λ k. length (flat_map f (take k old))) e ∙ sym (zero-add _);
        };
      }

-- ---- the first depth

pub record Rooted (s : List ℕ) (at count : ℕ) (codes : List ℕ) (v : ℕ) : Type 0 where
  pub inside : v ≤ count
  pub long : length codes ≡ most_words
  pub filled : take v codes ≡ each (λ u. code (get_or s (at + u) 0) u 0) v

pub rooted_start : (s : List ℕ) (at count : ℕ) {codes : List ℕ} → length codes ≡ most_words → Rooted s at count codes 0
unfolding run
rooted_start s at count l = record { inside = omega arith; long = l; filled = refl }

pub rooted_next : {s : List ℕ} {at count : ℕ} {codes : List ℕ} {v r : ℕ} → Rooted s at count codes v → FirstLevel s at count
    → v < count → r ≡ get_or s (at + v) 0 → Rooted s at count (set codes v ((r * 1024 + v) * 65536)) (v + 1)
rooted_next {s} {at} {count} {codes} {v} {r} g F h w = record {
  inside = omega arith;
  long = length-set codes v ((r * 1024 + v) * 65536) ∙ g.long;
  filled =
      let q : (r * 1024 + v) * 65536 ≡ code (get_or s (at + v) 0) v 0 = omega (arith, w) in
      let t : take (v + 1) (set codes v ((r * 1024 + v) * 65536)) ≡ take v codes ++ ((r * 1024 + v) * 65536 ∷ []) =
      rw (add-one v) (take-suc-set codes v _ (omega (arith, F.few, g.long))) in
      let u : each (λ u. code (get_or s (at + u) 0) u 0) (v + 1)
      ≡ each (λ u. code (get_or s (at + u) 0) u 0) v ++ (code (get_or s (at + v) 0) v 0 ∷ []) =
      rw (add-one v) (run_snoc (λ u. code (get_or s (at + u) 0) u 0) 0 v ∙ rw (zero-add v)) in
      t ∙ ap₂ (λ xs y. xs ++ (y ∷ [])) g.filled q ∙ sym u;
}

pub rooted_all : {s : List ℕ} {at count : ℕ} {codes : List ℕ} {v : ℕ} → Rooted s at count codes v → count ≤ v → RootCodes s at count codes
rooted_all {s} {at} {count} {codes} {v} g h =
    let e : v ≡ count = omega (arith, g.inside) in
    record { long = g.long; filled = subst (λ k. take k codes ≡ each (λ u. code (get_or s (at + u) 0) u 0) k) e g.filled }
