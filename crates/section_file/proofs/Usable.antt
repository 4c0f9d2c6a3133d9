-- A section is usable exactly if it is sound: each condition says the statement of the same name, and each statement passes its test. The
-- conditions are taken apart and put together once, in the record Conditions; the code, which checks them step by step and in another
-- order, cites it too.
use mathlib.Core.Path.{◌≡◌, refl, sym, ap, subst, ◌∙◌}
use mathlib.Core.Bool.{true, not, ◌&&◌, ◌||◌}
use mathlib.Core.List.{List}
use Prim.Native.Nat.{ℕ, suc, ◌+◌, ◌-◌, ◌≤◌, ◌<◌}
use native.Mathlib.Omega.{arith}
use native.Mathlib.Numerals.{add-one}
use native.Mathlib.Decide.{dec_lt}
use lib.ListN.{length}
use lib.Dec.{ltb, eqb}
use borrow.Author.Tests.{ltb-true, lt-ltb, leb-true, le-leb, eqb-true, eq-eqb}
use Rattle.trellis.specs.Bounds.{most_states, most_words, most_symbols, least_q, most_q}
use Rattle.trellis.specs.Lists.{all, any, within}
use Rattle.trellis.specs.Own.{Edge, edge_less}
use Rattle.trellis.specs.Layout.{q_of, n_of, states_of, vertex_count_of, edge_count_of, section_length, root_state, goal_state}
use Rattle.trellis.proofs.Bools.{holds, is_true, left_true, right_true, both_true}
use Rattle.trellis.proofs.ThreeNumbers.{lower_yes, lower_of}
use Rattle.edges.specs.Inner.Edges.{inside}
use Rattle.edges.proofs.Tests.{given, given_of, from_low_lem, to_high, within_of, all_at, all_of, any_at, any_of}
use Rattle.twins.specs.Inner.Twins.{covered, apart, no_twins}
use Rattle.twins.proofs.Marking.{apart_of, apart_says}
use Rattle.section_file.specs.Inner.Steps.{step_right}
use Rattle.section_file.specs.Usable.{step_edge, whole, sizes_right, edges_inside, counts_right, rising, states_right, edges_ascend, onward}
use Rattle.section_file.specs.Usable.{inward, no_twins_reached, no_twins_leading, usable}
use Rattle.section_file.specs.Inner.Sound.{EdgeBefore, Hit, Sound}

-- ---- the conditions one by one

pub record Step (l : List ℕ) (t : ℕ) : Type 0 where
  pub inside : edges_inside l t ≡ true
  pub ascend : edges_ascend l t ≡ true
  pub outward : onward l t ≡ true
  pub entered : inward l t ≡ true
  pub reached : t + 1 < n_of l → no_twins_reached l t ≡ true
  pub leading : 0 < t → no_twins_leading l t ≡ true

pub record Conditions (l : List ℕ) : Type 0 where
  pub is_whole : whole l ≡ true
  pub sizes : sizes_right l ≡ true
  pub counts : counts_right l ≡ true
  pub states : states_right l ≡ true
  pub steps : (t : ℕ) → t < n_of l → Step l t

module _ (l : List ℕ) where
  pub usable_says : usable l ≡ true → Conditions l
  unfolding usable
  usable_says u =
      let u1 = right_true (whole l) _ u in
      let u2 = right_true (sizes_right l) _ u1 in
      let u3 = right_true (all (edges_inside l) (n_of l)) _ u2 in
      let u4 = right_true (counts_right l) _ u3 in
      let u5 = right_true (states_right l) _ u4 in
      let u6 = right_true (all (edges_ascend l) (n_of l)) _ u5 in
      let u7 = right_true (all (onward l) (n_of l)) _ u6 in
      let u8 = right_true (all (inward l) (n_of l)) _ u7 in
      let u9 = right_true (all (no_twins_reached l) (n_of l - 1)) _ u8 in
      record {
        is_whole = left_true _ _ u;
        sizes = left_true _ _ u1;
        counts = left_true _ _ u3;
        states = left_true _ _ u4;
        steps = λ t h. record {
          inside = all_at (edges_inside l) (n_of l) t (left_true _ _ u2) h;
          ascend = all_at (edges_ascend l) (n_of l) t (left_true _ _ u5) h;
          outward = all_at (onward l) (n_of l) t (left_true _ _ u6) h;
          entered = all_at (inward l) (n_of l) t (left_true _ _ u7) h;
          reached = λ i. all_at (no_twins_reached l) (n_of l - 1) t (left_true _ _ u8) (omega arith);
          leading = λ i.
              let e : t - 1 + 1 ≡ t = omega arith in
              subst (λ k. no_twins_leading l k ≡ true) e (all_at (λ k. no_twins_leading l (k + 1)) (n_of l - 1) (t - 1) u9 (omega arith));
        };
      }

  pub usable_by : Conditions l → usable l ≡ true
  unfolding usable
  usable_by c =
      both_true c.is_whole
      (both_true c.sizes
      (both_true (all_of (edges_inside l) (n_of l) (λ t h. (c.steps t h).inside))
      (both_true c.counts
      (both_true c.states
      (both_true (all_of (edges_ascend l) (n_of l) (λ t h. (c.steps t h).ascend))
      (both_true (all_of (onward l) (n_of l) (λ t h. (c.steps t h).outward))
      (both_true (all_of (inward l) (n_of l) (λ t h. (c.steps t h).entered))
      (both_true (all_of (no_twins_reached l) (n_of l - 1) (λ t h. (c.steps t (omega arith)).reached (omega arith)))
      (all_of (λ t. no_twins_leading l (t + 1)) (n_of l - 1) (λ t h. (c.steps (t + 1) (omega arith)).leading (omega arith)))))))))))

  -- all of one step together, as the code checks them
  pub step_says : (t : ℕ) → step_right l t ≡ true → Step l t
  unfolding step_right
  step_says t e =
      let e1 = right_true (edges_inside l t) _ e in
      let e2 = right_true (edges_ascend l t) _ e1 in
      let e3 = right_true (onward l t) _ e2 in
      let e4 = right_true (inward l t) _ e3 in
      let e5 = right_true (not (ltb (t + 1) (n_of l)) || no_twins_reached l t) _ e4 in
      record {
        inside = left_true _ _ e;
        ascend = left_true _ _ e1;
        outward = left_true _ _ e2;
        entered = left_true _ _ e3;
        reached = λ i. given (ltb (t + 1) (n_of l)) _ (left_true _ _ e4) (lt-ltb (t + 1) (n_of l) i);
        leading = λ i. given (ltb 0 t) _ e5 (lt-ltb 0 t i);
      }

  pub step_by : (t : ℕ) → Step l t → step_right l t ≡ true
  unfolding step_right
  step_by t s =
      both_true s.inside
      (both_true s.ascend
      (both_true s.outward
      (both_true s.entered
      (both_true (given_of (ltb (t + 1) (n_of l)) _ (λ i. s.reached (ltb-true (t + 1) (n_of l) i)))
      (given_of (ltb 0 t) _ (λ i. s.leading (ltb-true 0 t i)))))))

-- ---- end states

record Rises (f : ℕ → ℕ) (count bound : ℕ) : Type 0 where
  below : (v : ℕ) → v < count → f v < bound
  ascend : (u v : ℕ) → u < v → v < count → f u < f v

module _ (l : List ℕ) (f : ℕ → ℕ) (count : ℕ) where
  rising_says : rising l f count ≡ true → Rises f count (states_of l)
  unfolding rising
  rising_says e = record {
    below = λ v h. ltb-true (f v) (states_of l) (right_true (all (λ u. ltb (f u) (f v)) v) _ (at v h));
    ascend = λ u v a b. ltb-true (f u) (f v) (all_at (λ u. ltb (f u) (f v)) v u (left_true _ _ (at v b)) a);
  }
    where
      at : (v : ℕ) → v < count → (all (λ u. ltb (f u) (f v)) v && ltb (f v) (states_of l)) ≡ true
      at v h = all_at (λ v. all (λ u. ltb (f u) (f v)) v && ltb (f v) (states_of l)) count v e h

  rising_of : Rises f count (states_of l) → rising l f count ≡ true
  unfolding rising
  rising_of r = all_of (λ v. all (λ u. ltb (f u) (f v)) v && ltb (f v) (states_of l)) count (λ v h.
      both_true (all_of (λ u. ltb (f u) (f v)) v (λ u a. lt-ltb (f u) (f v) (r.ascend u v a h)))
      (lt-ltb (f v) (states_of l) (r.below v h)))

-- ---- vertices and edges

module _ (f : ℕ → ℕ) (count vertices : ℕ) where
  covered_says : covered f count vertices ≡ true → (v : ℕ) → v < vertices → Hit f count v
  unfolding covered
  covered_says e v h =
      let s = any_at (λ k. eqb (f k) v) count (all_at (λ v. any (λ k. eqb (f k) v) count) vertices v e h) in
      record { at = s.at; below = s.below; is = eqb-true (f s.at) v s.passes }

  covered_of : ((v : ℕ) → v < vertices → Hit f count v) → covered f count vertices ≡ true
  unfolding covered
  covered_of g = all_of (λ v. any (λ k. eqb (f k) v) count) vertices
      (λ v h. let w = g v h in any_of (λ k. eqb (f k) v) count w.at w.below (eq-eqb (f w.at) v w.is))

module _ (one symbol other : ℕ → ℕ) (count : ℕ) where
  no_twins_says : no_twins one symbol other count ≡ true → (j k : ℕ) → j < count → k < count → one j ≡ one k → symbol j ≡ symbol k
      → other j ≡ other k
  unfolding no_twins
  no_twins_says e j k a b p q = go (dec_lt j k) (dec_lt k j)
    where
      at : (i m : ℕ) → i < m → m < count → apart one symbol other i m ≡ true
      at i m h l = all_at (λ i. apart one symbol other i m) m i (all_at (λ m. all (λ i. apart one symbol other i m) m) count m e l) h

      go : Dec (j < k) → Dec (k < j) → other j ≡ other k
      go (yes h) d = apart_says one symbol other j k (at j k h b) p q
      go (no h) (yes d) = sym (apart_says one symbol other k j (at k j d a) (sym p) (sym q))
      go (no h) (no d) = let z : j ≡ k = omega arith in ap other z

  no_twins_of : ((j k : ℕ) → j < count → k < count → one j ≡ one k → symbol j ≡ symbol k → other j ≡ other k)
      → no_twins one symbol other count ≡ true
  unfolding no_twins
  no_twins_of f = all_of (λ m. all (λ i. apart one symbol other i m) m) count
      (λ m h. all_of (λ i. apart one symbol other i m) m (λ i l. apart_of one symbol other i m (f i m (omega arith) h)))

pub record Inside (e : Edge) (q froms tos : ℕ) : Type 0 where
  pub from_below : e.from < froms
  pub to_below : e.to < tos
  pub symbol_below : e.symbol < q

module _ (e : ℕ → Edge) (q froms tos k : ℕ) where
  pub inside_says : inside e q froms tos k ≡ true → Inside (e k) q froms tos
  unfolding inside
  inside_says i =
      let j = right_true (ltb (e k).from froms) _ i in
      record {
        from_below = ltb-true (e k).from froms (left_true _ _ i);
        to_below = ltb-true (e k).to tos (left_true _ _ j);
        symbol_below = ltb-true (e k).symbol q (right_true (ltb (e k).to tos) _ j);
      }

  inside_of : Inside (e k) q froms tos → inside e q froms tos k ≡ true
  unfolding inside
  inside_of i =
      both_true (lt-ltb (e k).from froms i.from_below)
      (both_true (lt-ltb (e k).to tos i.to_below) (lt-ltb (e k).symbol q i.symbol_below))

module _ (l : List ℕ) (t : ℕ) where
  abbrev edges : ℕ → Edge
  edges = step_edge l t

  abbrev count : ℕ
  count = edge_count_of l t

  -- the conditions over functions
  pub inside_is : edges_inside l t ≡ all (inside edges (q_of l) (vertex_count_of l t) (vertex_count_of l (t + 1))) count
  unfolding edges_inside inside
  inside_is = refl

  pub onward_is : onward l t ≡ covered (λ k. (edges k).from) count (vertex_count_of l t)
  unfolding onward covered
  onward_is = refl

  pub inward_is : inward l t ≡ covered (λ k. (edges k).to) count (vertex_count_of l (t + 1))
  unfolding inward covered
  inward_is = refl

  pub reached_is : no_twins_reached l t ≡ no_twins (λ k. (edges k).from) (λ k. (edges k).symbol) (λ k. (edges k).to) count
  unfolding no_twins_reached no_twins apart
  reached_is = refl

  pub leading_is : no_twins_leading l t ≡ no_twins (λ k. (edges k).to) (λ k. (edges k).symbol) (λ k. (edges k).from) count
  unfolding no_twins_leading no_twins apart
  leading_is = refl

  edge_inside : edges_inside l t ≡ true → (k : ℕ) → k < count → Inside (edges k) (q_of l) (vertex_count_of l t) (vertex_count_of l (t + 1))
  edge_inside e k h = inside_says edges _ _ _ k (all_at _ count k (sym inside_is ∙ e) h)

  edges_inside_lem : ((k : ℕ) → k < count → Inside (edges k) (q_of l) (vertex_count_of l t) (vertex_count_of l (t + 1))) → edges_inside l t ≡ true
  edges_inside_lem f = inside_is ∙ all_of _ count (λ k h. inside_of edges _ _ _ k (f k h))

  ascend_says : edges_ascend l t ≡ true → (j k : ℕ) → j < k → k < count → EdgeBefore (edges j) (edges k)
  unfolding edges_ascend
  ascend_says e j k a b = lower_yes _ _ _ _ _ _ (holds (all_at (λ j. edge_less (edges j) (edges k)) k j
      (all_at (λ k. all (λ j. edge_less (edges j) (edges k)) k) count k e b) a))

  ascend_of : ((j k : ℕ) → j < k → k < count → EdgeBefore (edges j) (edges k)) → edges_ascend l t ≡ true
  unfolding edges_ascend
  ascend_of f = all_of (λ k. all (λ j. edge_less (edges j) (edges k)) k) count
      (λ k h. all_of (λ j. edge_less (edges j) (edges k)) k
      (λ j i. is_true (edge_less (edges j) (edges k)) (lower_of _ _ _ _ _ _ (f j k i h))))

-- ---- the section

module _ (l : List ℕ) where
  next : (t : ℕ) {x : ℕ} → x < vertex_count_of l (t + 1) → x < vertex_count_of l (suc t)
  next t {x} h = subst (λ u. x < vertex_count_of l u) (add-one t) h

  back : (t : ℕ) {x : ℕ} → x < vertex_count_of l (suc t) → x < vertex_count_of l (t + 1)
  back t {x} h = subst (λ u. x < vertex_count_of l u) (sym (add-one t)) h

  conditions_sound : Conditions l → Sound l
  unfolding sizes_right counts_right whole states_right
  conditions_sound c = record {
    q_from = from_low_lem least_q most_q (q_of l) (left_true _ _ c.sizes);
    q_to = to_high least_q most_q (q_of l) (left_true _ _ c.sizes);
    n_from = from_low_lem 1 most_symbols (n_of l) (left_true _ _ sizes);
    n_to = to_high 1 most_symbols (n_of l) (left_true _ _ sizes);
    states_from = from_low_lem 1 most_states (states_of l) (right_true (within 1 most_symbols (n_of l)) _ sizes);
    states_to = to_high 1 most_states (states_of l) (right_true (within 1 most_symbols (n_of l)) _ sizes);
    vertices_from = λ t h. from_low_lem 1 most_words (vertex_count_of l t) (vertices t h);
    vertices_to = λ t h. to_high 1 most_words (vertex_count_of l t) (vertices t h);
    edges_from = λ t h. from_low_lem 1 most_words (edge_count_of l t) (edges t h);
    edges_to = λ t h. to_high 1 most_words (edge_count_of l t) (edges t h);
    whole = leb-true (section_length l) (length l) c.is_whole;
    roots_below = roots.below;
    roots_ascend = roots.ascend;
    goals_below = goals.below;
    goals_ascend = goals.ascend;
    from_below = λ t k h b. (edge_inside l t (c.steps t h).inside k b).from_below;
    symbol_below = λ t k h b. (edge_inside l t (c.steps t h).inside k b).symbol_below;
    to_below = λ t k h b. next t (edge_inside l t (c.steps t h).inside k b).to_below;
    edges_ascend = λ t j k h. ascend_says l t (c.steps t h).ascend j k;
    onward = λ t v h. covered_says _ _ _ (sym (onward_is l t) ∙ (c.steps t h).outward) v;
    inward = λ t v h b. covered_says _ _ _ (sym (inward_is l t) ∙ (c.steps t h).entered) v (back t b);
    forward = λ t j k h. no_twins_says _ _ _ _ (sym (reached_is l t) ∙ (c.steps t (omega arith)).reached (omega arith)) j k;
    backward = λ t j k p h. no_twins_says _ _ _ _ (sym (leading_is l t) ∙ (c.steps t h).leading p) j k;
  }
    where
      sizes : (within 1 most_symbols (n_of l) && within 1 most_states (states_of l)) ≡ true
      sizes = right_true (within least_q most_q (q_of l)) _ c.sizes

      vertices : (t : ℕ) → t ≤ n_of l → within 1 most_words (vertex_count_of l t) ≡ true
      vertices t h = all_at (λ t. within 1 most_words (vertex_count_of l t)) (n_of l + 1) t (left_true _ _ c.counts) (omega arith)

      edges : (t : ℕ) → t < n_of l → within 1 most_words (edge_count_of l t) ≡ true
      edges t h = all_at (λ t. within 1 most_words (edge_count_of l t)) (n_of l) t
          (right_true (all (λ t. within 1 most_words (vertex_count_of l t)) (n_of l + 1)) _ c.counts) h

      roots : Rises (root_state l) (vertex_count_of l 0) (states_of l)
      roots = rising_says l (root_state l) (vertex_count_of l 0) (left_true _ _ c.states)

      goals : Rises (goal_state l) (vertex_count_of l (n_of l)) (states_of l)
      goals = rising_says l (goal_state l) (vertex_count_of l (n_of l)) (right_true (rising l (root_state l) (vertex_count_of l 0)) _ c.states)

  sound_conditions : Sound l → Conditions l
  unfolding sizes_right counts_right whole states_right
  sound_conditions s = record {
    is_whole = le-leb (section_length l) (length l) s.whole;
    sizes = both_true (within_of s.q_from s.q_to) (both_true (within_of s.n_from s.n_to) (within_of s.states_from s.states_to));
    counts = both_true
        (all_of (λ t. within 1 most_words (vertex_count_of l t)) (n_of l + 1)
        (λ t h. within_of (s.vertices_from t (omega arith)) (s.vertices_to t (omega arith))))
        (all_of (λ t. within 1 most_words (edge_count_of l t)) (n_of l) (λ t h. within_of (s.edges_from t h) (s.edges_to t h)));
    states = both_true
        (rising_of l (root_state l) (vertex_count_of l 0) (record { below = s.roots_below; ascend = s.roots_ascend }))
        (rising_of l (goal_state l) (vertex_count_of l (n_of l)) (record { below = s.goals_below; ascend = s.goals_ascend }));
    steps = λ t h. record {
      inside = edges_inside_lem l t (λ k b.
          record { from_below = s.from_below t k h b; to_below = back t (s.to_below t k h b); symbol_below = s.symbol_below t k h b });
      ascend = ascend_of l t (λ j k. s.edges_ascend t j k h);
      outward = onward_is l t ∙ covered_of _ _ _ (λ v. s.onward t v h);
      entered = inward_is l t ∙ covered_of _ _ _ (λ v b. s.inward t v h (next t b));
      reached = λ i. reached_is l t ∙ no_twins_of _ _ _ _ (λ j k. s.forward t j k (omega arith));
      leading = λ i. leading_is l t ∙ no_twins_of _ _ _ _ (λ j k. s.backward t j k i h);
    };
  }

  pub usable_sound : usable l ≡ true → Sound l
  usable_sound u = conditions_sound (usable_says l u)

  pub sound_usable : Sound l → usable l ≡ true
  sound_usable s = usable_by l (sound_conditions s)
