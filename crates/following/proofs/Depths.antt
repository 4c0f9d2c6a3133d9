-- The matching followed step by step. At each depth the partners found so far keep the root states and carry the edges passed, and whatever
-- does so agrees with them: an inner vertex has an edge inward, and its partner is where the edge that this one is carried to ends. At the
-- last step the goals are their own partners.
use mathlib.Core.Path.{◌≡◌, refl, sym, ap, subst, ◌∙◌}
use mathlib.Core.Bool.{Bool, true, false, cond}
use mathlib.Core.List.Memᴰ
use mathlib.Core.List.{List}
use Prim.Native.Nat.{ℕ, suc, ◌+◌, ◌-◌, ◌*◌, ◌≤◌, ◌<◌}
use native.Mathlib.Omega.{arith}
use native.Mathlib.Numerals.{add-one}
use native.Mathlib.Decide.{dec_lt}
use lib.ListN.{length, get_or}
use lib.Dec.{ltb}
use borrow.Author.Tests.{lt-ltb, le-ltb}
use Rattle.trellis.specs.Bounds.{most_words}
use Rattle.trellis.specs.Lists.{◌∈◌, run}
use Rattle.trellis.specs.Own.{edge}
use Rattle.trellis.specs.Layout.{n_of, vertex_count_of, root_state, goal_state, step_edges}
use Rattle.trellis.proofs.Bools.{clash}
use Rattle.trellis.proofs.Lists.{in_each}
use Rattle.edges.specs.Inner.Edges.{edge_in}
use Rattle.twins.specs.Inner.Twins.{turned_in}
use Rattle.section_file.specs.declared.View.{View}
use Rattle.section_file.proofs.Seen.{viewed, parts, near_of, laid_of}
use Rattle.whole_section.specs.Inner.StepAt.{part_from, StepAt}
use Rattle.whole_section.proofs.Places.{StepPlaces, places_start, step_at, edges_are, places_next}
use Rattle.matching.proofs.Routes.{Neat, Entering}
use Rattle.matching.proofs.Sections.{shape_of, neat}
use Rattle.partners.specs.Inner.Following.{partner, Single, Partners, StepMatched, LastMatched, BothSeen, Followed, FollowedBy}
use Rattle.following.proofs.Front.{front_n, front_vertices, front_roots, front_goals}

-- ---- one depth more

-- f up to depth t, and h behind it
abbrev further : ℕ → (ℕ → ℕ → ℕ) → (ℕ → ℕ) → ℕ → ℕ → ℕ
further t f h u v = cond (ltb t u) (h v) (f u v)

further_old : (t : ℕ) (f : ℕ → ℕ → ℕ) (h : ℕ → ℕ) (u v : ℕ) → u ≤ t → further t f h u v ≡ f u v
further_old t f h u v l = let e = le-ltb t u l in rw e

further_new : (t : ℕ) (f : ℕ → ℕ → ℕ) (h : ℕ → ℕ) (u v : ℕ) → t < u → further t f h u v ≡ h v
further_new t f h u v l = let e = lt-ltb t u l in rw e

-- f keeps depths and carries edges up to depth t
record CarriedTo (a b : List ℕ) (f : ℕ → ℕ → ℕ) (t : ℕ) : Type 0 where
  low : (u v : ℕ) → u ≤ t → v < vertex_count_of a u → f u v < vertex_count_of b u
  edges : (u x s y : ℕ) → u < t → edge x s y ∈ step_edges a u → edge (f u x) s (f (suc u) y) ∈ step_edges b u

carried_further : {a b : List ℕ} {f : ℕ → ℕ → ℕ} {t : ℕ} {h : ℕ → ℕ} → CarriedTo a b f t
    → ((v : ℕ) → v < vertex_count_of a (suc t) → h v < vertex_count_of b (suc t))
    → ((x s y : ℕ) → edge x s y ∈ step_edges a t → edge (f t x) s (h y) ∈ step_edges b t) → CarriedTo a b (further t f h) (suc t)
carried_further {a} {b} {f} {t} {h} C l e = record {
  low = λ u v k c. lows u v k c (dec_lt t u);
  edges = λ u x s y k m. steps u x s y k m (dec_lt u t);
}
  where
    lows : (u v : ℕ) → u ≤ suc t → v < vertex_count_of a u → Dec (t < u) → further t f h u v < vertex_count_of b u
    lows u v k c (yes d) =
        let q : suc t ≡ u = omega arith in
        subst (λ x. x < vertex_count_of b u) (sym (further_new t f h u v d))
        (subst (λ w. h v < vertex_count_of b w) q (l v (subst (λ w. v < vertex_count_of a w) (sym q) c)))
    lows u v k c (no d) = subst (λ x. x < vertex_count_of b u) (sym (further_old t f h u v (omega arith))) (C.low u v (omega arith) c)

    steps : (u x s y : ℕ) → u < suc t → edge x s y ∈ step_edges a u → Dec (u < t)
        → edge (further t f h u x) s (further t f h (suc u) y) ∈ step_edges b u
    steps u x s y k m (yes d) =
        Memᴰ.cast (λ i. edge (further_old t f h u x (omega arith) i) s (further_old t f h (suc u) y d i)) (C.edges u x s y d m)
    steps u x s y k m (no d) =
        let q : t ≡ u = omega arith in
        Memᴰ.cast (λ i. edge (further_old t f h u x (omega arith) i) s (further_new t f h (suc u) y (omega arith) i))
        (subst (λ w. edge (f w x) s (h y) ∈ step_edges b w) q (e x s y (subst (λ w. edge x s y ∈ step_edges a w) (sym q) m)))

-- ---- the loop

-- partners up to depth t; the edges of the step behind it begin at the same places of both sections
pub record Depth (a b matched : List ℕ) (pairs symbols t : ℕ) : Type 0 where
  pub inside : t < n_of a
  pub long : length matched ≡ most_words
  pub here : StepPlaces a pairs symbols t
  pub there : StepPlaces b pairs symbols t
  pub f : ℕ → ℕ → ℕ
  pub held : (v : ℕ) → v < vertex_count_of a t → get_or matched v 0 ≡ f t v + 1
  pub roots : (v : ℕ) → v < vertex_count_of a 0 → f 0 v ≡ v
  pub low : (u v : ℕ) → u ≤ t → v < vertex_count_of a u → f u v < vertex_count_of b u
  pub edges : (u x s y : ℕ) → u < t → edge x s y ∈ step_edges a u → edge (f u x) s (f (suc u) y) ∈ step_edges b u
  pub only : (g : ℕ → ℕ → ℕ) → Followed a b g → (v : ℕ) → v < vertex_count_of a t → g t v ≡ f t v

module _ {a b : List ℕ} {at : View} (B : BothSeen a b at) where
  N : Neat (n_of a) (shape_of a)
  N = neat B.here.sound

  M : Neat (n_of a) (shape_of b)
  M = subst (λ k. Neat k (shape_of b)) (front_n B.front) (neat B.there.sound)

  n_is : at.n ≡ n_of a
  n_is = (viewed B.here.is).n_is

  pub roots_order : at.roots ≤ at.goals
  roots_order = omega (arith, (near_of (laid_of B.here)).roots_to)

  pub roots_few : at.goals - at.roots ≤ most_words
  roots_few = omega (arith, (near_of (laid_of B.here)).roots_to, B.here.sound.vertices_to 0 (omega arith))

  pub depth_start : {matched : List ℕ} → (length matched ≡ most_words) × ((v : ℕ) → v < at.goals - at.roots → get_or matched v 0 ≡ v + 1)
      → Depth a b matched at.pairs at.symbols 0
  depth_start O = record {
    inside = B.here.sound.n_from;
    long = O.0;
    here = places_start B.here;
    there = places_start B.there;
    f = λ u v. v;
    held = λ v h. O.1 v (omega (arith, (near_of (laid_of B.here)).roots_to));
    roots = λ v h. refl;
    low = λ u v k h. let e : u ≡ 0 = omega arith in
        subst (λ w. v < vertex_count_of b w) (sym e)
        (omega (arith, front_vertices B.front 0 (omega arith), subst (λ w. v < vertex_count_of a w) e h));
    edges = λ u x s y k m. absurd (omega arith);
    only = λ g G v h. G.roots v h;
  }

  module _ {matched : List ℕ} {pairs symbols t : ℕ} (d : Depth a b matched pairs symbols t) {y count : ℕ}
      (y_is : y ≡ get_or a (4 + at.n + t) 0) (count_is_lem : (count ≡ y) × (count < 65536)) where
    deep : t < at.n
    deep = omega (arith, n_is, d.inside)

    -- the other section has the same count there
    y_there : y ≡ get_or b (4 + at.n + t) 0
    y_there = let p = parts a in y_is ∙ sym (B.front.same (4 + at.n + t) (omega (arith, n_is, d.inside)))

    pub step_here : StepAt a pairs symbols count
    step_here = step_at B.here d.here deep y_is count_is_lem

    pub step_there : StepAt b pairs symbols count
    step_there = step_at B.there d.there deep y_there count_is_lem

    es_are : run (edge_in (part_from pairs a) (part_from symbols a)) 0 count ≡ step_edges a t
    es_are = edges_are B.here d.here deep y_is count_is_lem

    ds_are : run (edge_in (part_from pairs b) (part_from symbols b)) 0 count ≡ step_edges b t
    ds_are = edges_are B.there d.there deep y_there count_is_lem

    module _ (k : ℕ) (h : k < count) where
      listed_here : edge_in (part_from pairs a) (part_from symbols a) k ∈ step_edges a t
      listed_here = subst (λ l. edge_in (part_from pairs a) (part_from symbols a) k ∈ l) es_are
          (in_each (edge_in (part_from pairs a) (part_from symbols a)) count k _ h refl)

      listed_there : edge_in (part_from pairs b) (part_from symbols b) k ∈ step_edges b t
      listed_there = subst (λ l. edge_in (part_from pairs b) (part_from symbols b) k ∈ l) ds_are
          (in_each (edge_in (part_from pairs b) (part_from symbols b)) count k _ h refl)

    -- no two inner vertices are twins
    pub single : suc t < n_of a → Single (edge_in (part_from pairs b) (part_from symbols b)) count
    single h = record {
      one = λ j k l m p q. M.forward t _ _ _ _ h (listed_there j l)
          (Memᴰ.cast (λ i. edge (p i) (q i) (edge_in (part_from pairs b) (part_from symbols b) k).to) (listed_there k m));
    }

    pub single_back : 0 < t → Single (turned_in true (part_from pairs b) (part_from symbols b)) count
    single_back h = record {
      one = λ j k l m p q. M.backward t _ _ _ _ h d.inside (listed_there j l)
          (Memᴰ.cast (λ i. edge (edge_in (part_from pairs b) (part_from symbols b) k).from (q i) (p i)) (listed_there k m));
    }

    pub partners : Partners (edge_in (part_from pairs a) (part_from symbols a)) count matched
    partners = record {
      long = d.long;
      some = λ k h. omega (arith, d.held _ (from_low_lem k h));
      small = λ k h. omega (arith, d.held _ (from_low_lem k h), d.low t _ (omega arith) (from_low_lem k h), few);
    }
      where
        from_low_lem : (k : ℕ) → k < count → (edge_in (part_from pairs a) (part_from symbols a) k).from < vertex_count_of a t
        from_low_lem k h = N.from_low t d.inside _ (listed_here k h)

        few : vertex_count_of b t ≤ most_words
        few = B.there.sound.vertices_to t (omega (arith, d.inside, front_n B.front))

    -- the partners are those that were found
    partner_is : (v : ℕ) → v < vertex_count_of a t → partner matched v ≡ d.f t v
    partner_is v h = omega (arith, d.held v h)

    carried : CarriedTo a b d.f t
    carried = record { low = d.low; edges = d.edges }

    -- whatever follows the matching carries the edges of this step from those partners
    by_other : (g : ℕ → ℕ → ℕ) → Followed a b g → (x s y : ℕ) → edge x s y ∈ step_edges a t
        → edge (partner matched x) s (g (suc t) y) ∈ step_edges b t
    by_other g G x s y m =
        let l = N.from_low t d.inside (edge x s y) m in
        Memᴰ.cast (λ i. edge ((partner_is x l ∙ sym (d.only g G x l)) i) s (g (suc t) y)) (G.carrying.edges t x s y d.inside m)

    module _ {new : List ℕ} {r : Bool} (m : StepMatched (run (edge_in (part_from pairs a) (part_from symbols a)) 0 count)
        (run (edge_in (part_from pairs b) (part_from symbols b)) 0 count) matched new r) where
      S : StepMatched (step_edges a t) (step_edges b t) matched new r
      S = subst (λ es. StepMatched es (step_edges b t) matched new r) es_are
          (subst (λ ds. StepMatched (run (edge_in (part_from pairs a) (part_from symbols a)) 0 count) ds matched new r) ds_are m)

      pub depth_stuck : r ≡ false → FollowedBy a b false
      depth_stuck e = record {
        found = λ z. absurd (clash (sym z));
        always = λ g G. sym e ∙ S.always (g (suc t)) (by_other g G);
      }

      module _ (e : r ≡ true) (h : suc t < n_of a) where
        -- an edge inward tells a vertex's partner
        reached : (v : ℕ) → v < vertex_count_of a (suc t) → Entering (shape_of a) t v
        reached v l = N.inward t v d.inside l

        new_edge : (x s y : ℕ) → edge x s y ∈ step_edges a t → edge (d.f t x) s (partner new y) ∈ step_edges b t
        new_edge x s y k =
            Memᴰ.cast (λ i. edge (sym (partner_is x (N.from_low t d.inside (edge x s y) k)) i) s (partner new y)) (S.edges e x s y k)

        new_low : (v : ℕ) → v < vertex_count_of a (suc t) → partner new v < vertex_count_of b (suc t)
        new_low v l = let E = reached v l in M.to_low t d.inside _ (S.edges e E.from E.by v E.listed)

        K : CarriedTo a b (further t d.f (partner new)) (suc t)
        K = carried_further carried new_low new_edge

        pub depth_next : Depth a b new (pairs + 2 * count) (symbols + count) (t + 1)
        depth_next = rw (add-one t) (record {
          inside = h;
          long = S.long;
          here = subst (StepPlaces a (pairs + 2 * count) (symbols + count)) (add-one t)
              (places_next B.here d.here deep y_is count_is_lem);
          there = subst (StepPlaces b (pairs + 2 * count) (symbols + count)) (add-one t)
              (places_next B.there d.there deep y_there count_is_lem);
          f = further t d.f (partner new);
          held = λ v l. let E = reached v l in
              omega (arith, S.some e E.from E.by v E.listed, further_new t d.f (partner new) (suc t) v (omega arith));
          roots = λ v l. further_old t d.f (partner new) 0 v (omega arith) ∙ d.roots v l;
          low = K.low;
          edges = K.edges;
          only = λ g G v l. let E = reached v l in
              M.forward t _ _ _ _ h (by_other g G E.from E.by v E.listed) (S.edges e E.from E.by v E.listed)
              ∙ sym (further_new t d.f (partner new) (suc t) v (omega arith));
        })

    pub depth_last : {r : Bool} → suc t ≡ n_of a → LastMatched (run (edge_in (part_from pairs a) (part_from symbols a)) 0 count)
        (run (edge_in (part_from pairs b) (part_from symbols b)) 0 count) matched r → FollowedBy a b r
    depth_last {r} n m = record { found = λ e. record { f = further t d.f (λ v. v); is = all_kept e }; always = all_close }
      where
        L : LastMatched (step_edges a t) (step_edges b t) matched r
        L = subst (λ es. LastMatched es (step_edges b t) matched r) es_are
            (subst (λ ds. LastMatched (run (edge_in (part_from pairs a) (part_from symbols a)) 0 count) ds matched r) ds_are m)

        K : r ≡ true → CarriedTo a b (further t d.f (λ v. v)) (suc t)
        K e = carried_further carried
            (λ v l. omega (arith, front_vertices B.front (suc t) (omega arith)))
            (λ x s y k. Memᴰ.cast (λ i. edge (sym (partner_is x (N.from_low t d.inside (edge x s y) k)) i) s y) (L.edges e x s y k))

        root : (v : ℕ) → v < vertex_count_of a 0 → further t d.f (λ v. v) 0 v ≡ v
        root v l = further_old t d.f (λ v. v) 0 v (omega arith) ∙ d.roots v l

        goal : (v : ℕ) → further t d.f (λ v. v) (n_of a) v ≡ v
        goal v = further_new t d.f (λ v. v) (n_of a) v (omega arith)

        all_kept : r ≡ true → Followed a b (further t d.f (λ v. v))
        all_kept e = record {
          carrying = record {
            vertices = λ u v k l. (K e).low u v (omega arith) l;
            roots = λ v l. ap (root_state b) (root v l) ∙ front_roots B.front v l;
            goals = λ v l. ap (goal_state b) (goal v) ∙ front_goals B.front v l;
            edges = λ u x s y k m. (K e).edges u x s y (omega arith) m;
          };
          roots = root;
          goals = λ v l. goal v;
        }

        all_close : (g : ℕ → ℕ → ℕ) → Followed a b g → r ≡ true
        all_close g G = L.always (λ x s y k.
            let l = N.to_low t d.inside (edge x s y) k in
            let q : g (suc t) y ≡ y = ap (λ u. g u y) n ∙ G.goals y (subst (λ u. y < vertex_count_of a u) n l) in
            Memᴰ.cast (λ i. edge (partner matched x) s (sym q i)) (by_other g G x s y k))

-- ---- which step is the last

pub before_last : {n t : ℕ} → t < n - 1 → t < n
before_last h = omega arith

pub last_step : {n : ℕ} → 1 < n → n - 1 < n
last_step h = omega arith

pub last_inner : {n t : ℕ} → 1 < n → n - 1 ≤ t → 0 < t
last_inner h k = omega arith

module _ {a b : List ℕ} {at : View} (B : BothSeen a b at) where
  pub next_inner : {t : ℕ} → t < at.n - 1 → suc t < n_of a
  next_inner h = omega (arith, (viewed B.here.is).n_is)

  module _ {matched : List ℕ} {pairs symbols t : ℕ} (d : Depth a b matched pairs symbols t) (h : at.n - 1 ≤ t) where
    pub at_last : suc t ≡ n_of a
    at_last = omega (arith, (viewed B.here.is).n_is, d.inside)

    pub last_count : {y : ℕ} → y ≡ get_or a (4 + at.n + (at.n - 1)) 0 → y ≡ get_or a (4 + at.n + t) 0
    last_count e =
        let q : at.n - 1 ≡ t = omega (arith, (viewed B.here.is).n_is, d.inside) in
        e ∙ ap (λ u. get_or a (4 + at.n + u) 0) q
