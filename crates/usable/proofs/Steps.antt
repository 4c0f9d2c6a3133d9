-- One step, all steps, the whole section, as the code checks them: the first condition that fails decides, and where none fails all hold.
-- Each law takes what the calls on the way ensure, over plain variables. That edges are within bounds is checked first, since the arrays
-- of marks rest on it.
use mathlib.Core.Path.{◌≡◌, refl, sym, ap, ◌∙◌}
use mathlib.Core.Bool.{Bool, true, false, not}
use mathlib.Core.List.{List, []}
use Prim.Native.Nat.{ℕ, suc, ◌+◌, ◌-◌, ◌*◌, ◌≤◌, ◌<◌}
use native.Mathlib.Omega.{arith}
use native.Mathlib.Nat.{le_of_lt}
use native.Mathlib.Numerals.{add-one}
use lib.ListN.{length, get_or, take, drop, drop_of_length-le}
use lib.Dec.{ltb}
use borrow.Author.Tests.{leb-true, le-leb}
use Rattle.trellis.specs.Bounds.{most_words, most_symbols, least_q, most_q}
use Rattle.trellis.specs.Lists.{all, within}
use Rattle.trellis.specs.Layout.{q_of, n_of, vertex_count_of, edge_count_of, edges_before, pairs_place, symbols_place, section_length}
use Rattle.trellis.proofs.Bools.{is_true, is_false, clash, left_true, right_true}
use Rattle.trellis.proofs.Laid.{before_none, before_more, before_le}
use Rattle.edges.specs.Inner.Edges.{inside, EdgesSmall, edge_in}
use Rattle.edges.proofs.Tests.{holds_by, fails_by, to_high, all_at, all_of, Passed, passed_start, passed_next}
use Rattle.section_file.specs.Usable.{step_edge, whole, sizes_right, counts_right, states_right, usable}
use Rattle.section_file.specs.Inner.View.{view_of, Laid}
use Rattle.section_file.specs.declared.View.{View}
use Rattle.section_file.proofs.Reading.{ascend_is}
use Rattle.section_file.proofs.Seen.{Near, near_of, before_in, viewed, edges_from, run_there}
use Rattle.section_file.proofs.Usable.{Conditions, Inside, usable_says, usable_by, step_says, step_by, inside_says, inside_is, onward_is}
use Rattle.section_file.proofs.Usable.{inward_is, reached_is, leading_is}
use Rattle.section_file.specs.Inner.Steps.{step_right}
use Rattle.usable.specs.Inner.Steps.{edges_right, StepThere}
use Rattle.usable.specs.Inner.Part.{part_of}
use Rattle.std.specs.Prelude.{Some, None}

-- ---- one step

-- where a step's edges begin
pub record StepPlaces (l : List ℕ) (at : View) (t before : ℕ) : Type 0 where
  pub near : Near l at
  pub inside : t < at.n
  pub before_in : before ≤ at.edges

-- what is read of a step
pub record StepRead (l : List ℕ) (at : View) (t before count q froms tos : ℕ) : Type 0 where
  pub laid : Laid l at
  pub inside : t < n_of l
  pub before_is : before ≡ edges_before l t
  pub count_is : count ≡ edge_count_of l t
  pub q_is : q ≡ q_of l
  pub froms_is : froms ≡ vertex_count_of l t
  pub tos_is : tos ≡ vertex_count_of l (t + 1)

count_read : {l : List ℕ} {at : View} (t : ℕ) {x v : ℕ} → Laid l at → x ≡ get_or l (4 + at.n + t) 0 → v ≡ x
    → v ≡ edge_count_of l t
unfolding edge_count_of
count_read {l} t L e g = g ∙ e ∙ ap (λ m. get_or l (4 + m + t) 0) (viewed L.is).n_is

pub step_read : {l : List ℕ} {at : View} {t before x count y froms z tos q : ℕ} → Laid l at × (t < at.n) × (before ≡ edges_before l t)
    → x ≡ get_or l (4 + at.n + t) 0 → count ≡ x → y ≡ get_or l (3 + t) 0 → froms ≡ y
    → z ≡ get_or l (3 + (t + 1)) 0 → tos ≡ z → q ≡ at.q → StepRead l at t before count q froms tos
unfolding vertex_count_of
step_read {t = t} p x_is count_is_lem y_is froms-is z-is tos-is q_is_lem = let at_is = viewed p.0.is in record {
  laid = p.0;
  inside = omega (arith, p.1);
  before_is = p.2;
  count_is = count_read t p.0 x_is count_is_lem;
  q_is = q_is_lem ∙ at_is.q_is_lem;
  froms_is = froms-is ∙ y_is;
  tos_is = tos-is ∙ z-is;
}

-- its places are small enough
pub step_places : {l : List ℕ} {at : View} {t before : ℕ} → Laid l at × (t < at.n) × (before ≡ edges_before l t) → StepPlaces l at t before
step_places p = record { near = near_of p.0; inside = p.1; before_in = before_in p.0 (le_of_lt p.1) p.2 }

-- the code's tests of a step's edges are what usable asks of the step
edges_right_lem : (l : List ℕ) (t : ℕ)
    → edges_right (step_edge l t) (edge_count_of l t) (q_of l) (vertex_count_of l t) (vertex_count_of l (t + 1)) (ltb (t + 1) (n_of l)) (ltb 0 t)
    ≡ step_right l t
unfolding edges_right step_right
edges_right_lem l t = rw (inside_is l t, ascend_is l t, onward_is l t, inward_is l t, reached_is l t, leading_is l t)

module _ {l : List ℕ} {at : View} {t before count q froms tos : ℕ} (r : StepRead l at t before count q froms tos) where
  pairs_are : at.pairs + 2 * before ≡ pairs_place l + 2 * edges_before l t
  pairs_are = let at_is = viewed r.laid.is in omega (arith, r.before_is)

  symbols_are : at.symbols + before ≡ symbols_place l + edges_before l t
  symbols_are = let at_is = viewed r.laid.is in omega (arith, r.before_is)

  pub step_there : StepThere (take (length l - (at.pairs + 2 * before)) (drop (at.pairs + 2 * before) l))
      (take (length l - (at.symbols + before)) (drop (at.symbols + before) l)) count q froms tos
  step_there =
      let C = r.laid in
      let i = r.inside in
      let m = before_more l t in
      let b = before_le l (suc t) (n_of l) i in
      record {
        there = run_there l (edges_before l t) pairs_are symbols_are r.laid.whole (omega (arith, r.count_is, C.edges_to t i))
            (omega (arith, r.count_is));
        q_to = omega (arith, r.q_is, C.q_to);
        froms_to = omega (arith, r.froms_is, C.vertices_to t (omega arith));
        tos_to = omega (arith, r.tos_is, C.vertices_to (t + 1) (omega arith));
      }

  pub step_is : {b : Bool}
      → b ≡ edges_right (edge_in (take (length l - (at.pairs + 2 * before)) (drop (at.pairs + 2 * before) l))
      (take (length l - (at.symbols + before)) (drop (at.symbols + before) l))) count q froms tos (ltb (t + 1) at.n) (ltb 0 t)
      → b ≡ step_right l t
  unfolding step_edge
  step_is {b} e =
      let n_is = (viewed r.laid.is).n_is in
      let d = e ∙ ap (λ f. edges_right f count q froms tos (ltb (t + 1) at.n) (ltb 0 t))
      (edges_from l (edges_before l t) pairs_are symbols_are) in
      d ∙ rw (r.count_is, r.q_is, r.froms_is, r.tos_is, n_is) (edges_right_lem l t)

-- edges within bounds are what the arrays of marks rest on
pub small_edges : {pairs symbols : List ℕ} {count q froms tos : ℕ} {a : Bool} → StepThere pairs symbols count q froms tos
    → a ≡ all (inside (edge_in pairs symbols) q froms tos) count → a ≡ true → EdgesSmall pairs symbols count
small_edges {pairs} {symbols} {count} {q} {froms} {tos} s a_is a_yes = record {
  there = s.there;
  from_small = λ k h. omega (arith, s.froms_to, (at k h).from_below);
  symbol_small = λ k h. omega (arith, s.q_to, (at k h).symbol_below);
  to_small = λ k h. omega (arith, s.tos_to, (at k h).to_below);
}
  where
    at : (k : ℕ) → k < count → Inside (edge_in pairs symbols k) q froms tos
    at k h = inside_says (edge_in pairs symbols) q froms tos k (all_at _ count k (sym a_is ∙ a_yes) h)

-- ---- all steps

pub record InSteps (l : List ℕ) (n before t : ℕ) : Type 0 where
  pub passed : Passed (step_right l) n t
  pub before_is : before ≡ edges_before l t

pub steps_start : (l : List ℕ) (n : ℕ) → InSteps l n 0 0
steps_start l n = record { passed = passed_start; before_is = sym (before_none l) }

pub steps_next : {l : List ℕ} {at : View} {before t x v : ℕ} {b : Bool} → Laid l at → InSteps l at.n before t → t < at.n
    → b ≡ step_right l t → not b ≡ false → x ≡ get_or l (4 + at.n + t) 0 → v ≡ x → InSteps l at.n (before + v) (t + 1)
steps_next {l} {t = t} L s h e f g k = record {
  passed = passed_next s.passed h e f;
  before_is = rw (add-one t) (omega (arith, s.before_is, before_more l t, count_read t L g k));
}

-- ---- the whole section

pub n_few : (l : List ℕ) {n : ℕ} {a : Bool} → a ≡ sizes_right l → not a ≡ false → n ≡ n_of l → n ≤ most_symbols
unfolding sizes_right
n_few l e f g =
    omega (arith, to_high 1 most_symbols (n_of l) (left_true _ _ (right_true (within least_q most_q (q_of l)) _ (holds_by e f))))

module _ (l : List ℕ) where
  -- a condition that fails
  unusable : (Conditions l → ⊥) → None ≡ part_of l
  unfolding part_of
  unusable f = let e : usable l ≡ false = is_false (usable l) (λ t. f (usable_says l (is_true (usable l) t))) in rw e

  pub part_sizes : {a : Bool} → a ≡ sizes_right l → not a ≡ true → None ≡ part_of l
  part_sizes e t = unusable (λ c. fails_by e t c.sizes)

  pub part_counts : {a : Bool} → a ≡ counts_right l → not a ≡ true → None ≡ part_of l
  part_counts e t = unusable (λ c. fails_by e t c.counts)

  pub part_states : {a : Bool} → a ≡ states_right l → not a ≡ true → None ≡ part_of l
  part_states e t = unusable (λ c. fails_by e t c.states)

  module _ {at : View} (at_is : at ≡ view_of l) where
    pub part_cut : length l < at.end → None ≡ part_of l
    unfolding whole
    part_cut h = unusable (λ c. let e = leb-true (section_length l) (length l) c.is_whole in omega (arith, (viewed at_is).end_is))

    -- what the sizes and the counts say, once both are right and the section is there whole
    pub laid : {a b : Bool} → a ≡ sizes_right l → not a ≡ false → b ≡ counts_right l → not b ≡ false → at.end ≤ length l → Laid l at
    unfolding sizes_right counts_right
    laid a_is a_yes b_is b-yes h = record {
      n_to = n_few l a_is a_yes refl;
      q_to = to_high least_q most_q (q_of l) (left_true _ _ (holds_by a_is a_yes));
      vertices_to = λ t h. to_high 1 most_words (vertex_count_of l t) (all_at _ (n_of l + 1) t (left_true _ _ counts) (omega arith));
      edges_to = λ t h. to_high 1 most_words (edge_count_of l t)
          (all_at _ (n_of l) t (right_true (all (λ t. within 1 most_words (vertex_count_of l t)) (n_of l + 1)) _ counts) h);
      whole = omega (arith, (viewed at_is).end_is);
      is = at_is;
    }
      where
        counts : counts_right l ≡ true
        counts = holds_by b_is b-yes

    all_steps : {a : Bool} → a ≡ all (step_right l) at.n → a ≡ all (step_right l) (n_of l)
    all_steps e = e ∙ ap (all (step_right l)) (viewed at_is).n_is

    pub part_steps : {a : Bool} → a ≡ all (step_right l) at.n → not a ≡ true → None ≡ part_of l
    part_steps e t =
        unusable (λ c. fails_by (all_steps e) t (all_of (step_right l) (n_of l) (λ t h. step_by l t (c.steps t h))))

    -- none fails
    pub part_usable : {a b d m : Bool} → at.end ≤ length l → a ≡ sizes_right l → not a ≡ false → b ≡ counts_right l → not b ≡ false
        → d ≡ states_right l → not d ≡ false → m ≡ all (step_right l) at.n → not m ≡ false → Some at ≡ part_of l
    unfolding part_of whole
    part_usable h e a_yes f b-yes g d-yes i m-yes =
        let steps : all (step_right l) (n_of l) ≡ true = holds_by (all_steps i) m-yes in
        let u : usable l ≡ true = usable_by l (record {
          is_whole = le-leb (section_length l) (length l) (omega (arith, (viewed at_is).end_is));
          sizes = holds_by e a_yes;
          counts = holds_by f b-yes;
          states = holds_by g d-yes;
          steps = λ t h. step_says l t (all_at (step_right l) (n_of l) t steps h);
        }) in
        rw u (ap Some at_is)

pub part_past : (s : List ℕ) (at : ℕ) → length s < at → None ≡ part_of (drop at s)
unfolding sizes_right within
part_past s at h = let e : drop at s ≡ [] = drop_of_length-le s {i = at} (omega arith) in rw e (unusable [] (λ c. clash (sym c.sizes)))
