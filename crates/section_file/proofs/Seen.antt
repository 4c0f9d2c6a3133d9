-- What the numbers of a section give whoever reads it. Its parts stand one behind another by its own counts, and counts in bounds bring its
-- end near. End states that ascend strictly below a bound are no more than the bound. Edges are counted over all steps, and each belongs to
-- one step, whose bounds it keeps.
use mathlib.Core.Path.{◌≡◌, refl, ap, subst, ◌∙◌}
use mathlib.Core.List.{List}
use Prim.Native.Nat.{ℕ, zero, suc, ◌+◌, ◌-◌, ◌*◌, ◌≤◌, ◌<◌}
use native.Mathlib.Decide.{dec_lt}
use native.Mathlib.Omega.{arith}
use lib.ListN.{length, get_or, take, drop, length-drop}
use lib.Seq.{get_or-drop}
use Rattle.trellis.specs.Bounds.{most_states, most_words, most_symbols, most_q}
use Rattle.trellis.specs.Own as own
use Rattle.trellis.specs.Layout.{q_of, n_of, vertex_count_of, edge_count_of, edges_before, all_edges, section_length, edge_number, roots_place}
use Rattle.trellis.specs.Layout.{goals_place, pairs_place, symbols_place, root_state, goal_state}
use Rattle.trellis.proofs.Lists.{rest_of}
use Rattle.trellis.proofs.Laid.{before_none, before_more, before_le, before_few}
use Rattle.edges.specs.Inner.Edges.{EdgesThere, EdgesSmall, edge_in}
use Rattle.section_file.specs.Usable.{step_edge}
use Rattle.section_file.specs.Inner.Sound.{Sound}
use Rattle.section_file.specs.Inner.View.{view_of, Seen, Laid}
use Rattle.section_file.specs.declared.View.{View}

-- ---- places

-- the parts one behind another
pub record Parts (l : List ℕ) : Type 0 where
  pub roots_at : roots_place l ≡ 4 + 2 * n_of l
  pub goals_at : roots_place l + vertex_count_of l 0 ≡ goals_place l
  pub pairs_at : goals_place l + vertex_count_of l (n_of l) ≡ pairs_place l
  pub symbols_at : pairs_place l + 2 * all_edges l ≡ symbols_place l
  pub end_at : symbols_place l + all_edges l ≡ section_length l

pub parts : (l : List ℕ) → Parts l
unfolding roots_place goals_place pairs_place symbols_place section_length
parts l = record { roots_at = refl; goals_at = refl; pairs_at = refl; symbols_at = refl; end_at = refl }

-- a view number by number
pub record Viewed (l : List ℕ) (at : View) : Type 0 where
  pub q_is_lem : at.q ≡ q_of l
  pub n_is : at.n ≡ n_of l
  pub roots_is : at.roots ≡ roots_place l
  pub goals_is : at.goals ≡ goals_place l
  pub pairs_is : at.pairs ≡ pairs_place l
  pub symbols_is : at.symbols ≡ symbols_place l
  pub edges_is : at.edges ≡ all_edges l
  pub end_is : at.end ≡ section_length l

pub viewed : {l : List ℕ} {at : View} → at ≡ view_of l → Viewed l at
unfolding view_of
viewed e = record {
  q_is_lem = ap (λ (v : View). v.q) e;
  n_is = ap (λ (v : View). v.n) e;
  roots_is = ap (λ (v : View). v.roots) e;
  goals_is = ap (λ (v : View). v.goals) e;
  pairs_is = ap (λ (v : View). v.pairs) e;
  symbols_is = ap (λ (v : View). v.symbols) e;
  edges_is = ap (λ (v : View). v.edges) e;
  end_is = ap (λ (v : View). v.end) e;
}

-- the places of a section that is there whole by counts in bounds: in their order, near, and within the list
pub record Near (l : List ℕ) (at : View) : Type 0 where
  pub steps_few : at.n ≤ most_symbols
  pub roots_to : at.roots + vertex_count_of l 0 ≡ at.goals
  pub goals_to : at.goals + vertex_count_of l (n_of l) ≡ at.pairs
  pub pairs_to : at.pairs + 2 * at.edges ≡ at.symbols
  pub symbols_to : at.symbols + at.edges ≡ at.end
  pub end_near : at.end ≤ 30000
  pub end_in : at.end ≤ length l

pub near_of : {l : List ℕ} {at : View} → Laid l at → Near l at
near_of {l} L =
    let p = parts l in
    let e = viewed L.is in
    let w = L.whole in
    let few = before_few l {n = n_of l} {most = most_words} L.edges_to (n_of l) (omega arith) in
    record {
      steps_few = omega (arith, L.n_to);
      roots_to = omega arith;
      goals_to = omega arith;
      pairs_to = omega arith;
      symbols_to = omega arith;
      end_near = omega (arith, L.n_to, L.vertices_to 0 (omega arith), L.vertices_to (n_of l) (omega arith));
      end_in = omega arith;
    }

-- those of a usable section
pub laid_of : {l : List ℕ} {at : View} → Seen l at → Laid l at
laid_of S = let s = S.sound in record {
  n_to = s.n_to;
  q_to = s.q_to;
  vertices_to = s.vertices_to;
  edges_to = s.edges_to;
  whole = s.whole;
  is = S.is;
}

-- the edges of the steps before one are among all edges
pub before_in : {l : List ℕ} {at : View} {t before : ℕ} → Laid l at → t ≤ at.n → before ≡ edges_before l t → before ≤ at.edges
before_in {l} {at} {t} L h e = let v = viewed L.is in omega (arith, before_le l t (n_of l) (omega arith))

-- ---- a slice from a place on

module _ (l : List ℕ) (a : ℕ) where
  from_at : (i : ℕ) → get_or (take (length l - a) (drop a l)) i 0 ≡ get_or l (a + i) 0
  from_at i = ap (λ m. get_or m i 0) (rest_of l a) ∙ get_or-drop a l i 0

  pub from_length : length (take (length l - a) (drop a l)) ≡ length l - a
  from_length = ap length (rest_of l a) ∙ length-drop a l

pub numbers_from : (l : List ℕ) {a b : ℕ} → a ≡ b
    → ◌≡◌ {A = ℕ → ℕ} (λ i. get_or (take (length l - a) (drop a l)) i 0) (λ i. get_or l (b + i) 0)
numbers_from l {a} {b} e = λ j i. (from_at l a i ∙ ap (λ x. get_or l (x + i) 0) e) j

-- the edges from edge i on, read from where their pairs and their symbols begin
module _ (l : List ℕ) (i : ℕ) {pairs symbols : ℕ} (p : pairs ≡ pairs_place l + 2 * i) (s : symbols ≡ symbols_place l + i) where
  pub edges_from : edge_in (take (length l - pairs) (drop pairs l)) (take (length l - symbols) (drop symbols l))
      ≡ (λ k. edge_number l (i + k))
  unfolding edge_number
  edges_from = λ j k. own.edge (first k j) (second k j) (third k j)
    where
      first : (k : ℕ) → get_or (take (length l - pairs) (drop pairs l)) (2 * k) 0 ≡ get_or l (pairs_place l + 2 * (i + k)) 0
      first k = let e : pairs + 2 * k ≡ pairs_place l + 2 * (i + k) = omega arith in from_at l pairs (2 * k) ∙ ap (λ x. get_or l x 0) e

      second : (k : ℕ) → get_or (take (length l - symbols) (drop symbols l)) k 0 ≡ get_or l (symbols_place l + (i + k)) 0
      second k = let e : symbols + k ≡ symbols_place l + (i + k) = omega arith in from_at l symbols k ∙ ap (λ x. get_or l x 0) e

      third : (k : ℕ) → get_or (take (length l - pairs) (drop pairs l)) (2 * k + 1) 0 ≡ get_or l (pairs_place l + 2 * (i + k) + 1) 0
      third k =
          let e : pairs + (2 * k + 1) ≡ pairs_place l + 2 * (i + k) + 1 = omega arith in
          from_at l pairs (2 * k + 1) ∙ ap (λ x. get_or l x 0) e

  pub run_there : {count : ℕ} → section_length l ≤ length l → count ≤ most_words → i + count ≤ all_edges l
      → EdgesThere (take (length l - pairs) (drop pairs l)) (take (length l - symbols) (drop symbols l)) count
  run_there w few h =
      let P = parts l in
      record { few = few; pairs_in = omega (arith, from_length l pairs); symbols_in = omega (arith, from_length l symbols) }

-- ---- end states

-- numbers that ascend strictly are no smaller than their places
pub rising_from : (f : ℕ → ℕ) (count : ℕ) → ((u v : ℕ) → u < v → v < count → f u < f v) → (v : ℕ) → v < count → v ≤ f v
rising_from f count a zero h = omega arith
rising_from f count a (suc v) h = omega (arith, rising_from f count a v (omega arith), a v (suc v) (omega arith) h)

rising_few : (f : ℕ → ℕ) (count bound : ℕ) → ((u v : ℕ) → u < v → v < count → f u < f v) → ((v : ℕ) → v < count → f v < bound)
    → count ≤ bound
rising_few f zero bound a b = omega arith
rising_few f (suc v) bound a b = omega (arith, rising_from f (suc v) a v (omega arith), b v (omega arith))

-- ---- edges over all steps

-- the step of an edge
record StepOf (l : List ℕ) (n i : ℕ) : Type 0 where
  at : ℕ
  below : at < n
  from : edges_before l at ≤ i
  to : i < edges_before l (suc at)

step_of : (l : List ℕ) (n i : ℕ) → i < edges_before l n → StepOf l n i
step_of l zero i h = let e = before_none l in absurd (omega arith)
step_of l (suc n) i h = go (dec_lt i (edges_before l n)) (step_of l n i)
  where
    go : Dec (i < edges_before l n) → (i < edges_before l n → StepOf l n i) → StepOf l (suc n) i
    go (yes k) r = let S = r k in record { at = S.at; below = omega (arith, S.below); from = S.from; to = S.to }
    go (no k) r = record { at = n; below = omega arith; from = omega arith; to = h }

-- an edge of a step, by its number in the section
number_of : (l : List ℕ) (t i : ℕ) → edges_before l t ≤ i → step_edge l t (i - edges_before l t) ≡ edge_number l i
unfolding step_edge
number_of l t i h = let e : edges_before l t + (i - edges_before l t) ≡ i = omega arith in ap (edge_number l) e

module _ {l : List ℕ} (s : Sound l) where
  pub section_near : section_length l ≤ 30000
  section_near =
      let S : Seen l (view_of l) = record { sound = s; is = refl } in
      omega (arith, (viewed S.is).end_is, (near_of (laid_of S)).end_near)

  pub symbols_in_lem : symbols_place l + all_edges l ≤ length l
  symbols_in_lem = let p = parts l in omega (arith, s.whole)

  pub roots_few : vertex_count_of l 0 ≤ most_states
  roots_few = omega (arith, rising_few _ (vertex_count_of l 0) _ s.roots_ascend s.roots_below, s.states_to)

  pub goals_few : vertex_count_of l (n_of l) ≤ most_states
  goals_few = omega (arith, rising_few _ (vertex_count_of l (n_of l)) _ s.goals_ascend s.goals_below, s.states_to)

  -- the edges of step t, read from where they stand
  module _ (t : ℕ) (h : t < n_of l) {pairs symbols count : ℕ} (p : pairs ≡ pairs_place l + 2 * edges_before l t)
      (q : symbols ≡ symbols_place l + edges_before l t) (c : count ≡ edge_count_of l t) where
    pub step_edge_lem : (k : ℕ) → edge_in (take (length l - pairs) (drop pairs l)) (take (length l - symbols) (drop symbols l)) k
        ≡ step_edge l t k
    unfolding step_edge
    step_edge_lem k = λ i. edges_from l (edges_before l t) p q i k

    pub step_small : EdgesSmall (take (length l - pairs) (drop pairs l)) (take (length l - symbols) (drop symbols l)) count
    step_small =
        let m = before_more l t in
        let b = before_le l (suc t) (n_of l) h in
        record {
          there = run_there l (edges_before l t) p q s.whole (omega (arith, s.edges_to t h)) (omega arith);
          from_small = λ k i. omega (
            arith,
            ap (λ (e : own.Edge). e.from) (step_edge_lem k),
            s.from_below t k h (omega arith),
            s.vertices_to t (omega arith),
          );
          symbol_small = λ k i. omega (arith, ap (λ (e : own.Edge). e.symbol) (step_edge_lem k), s.symbol_below t k h (omega arith), s.q_to);
          to_small = λ k i. omega (
            arith,
            ap (λ (e : own.Edge). e.to) (step_edge_lem k),
            s.to_below t k h (omega arith),
            s.vertices_to (suc t) h,
          );
        }

  -- edge i, of step t
  module _ (t i : ℕ) (h : t < n_of l) (a : edges_before l t ≤ i) (b : i < edges_before l (suc t)) where
    in_step : i - edges_before l t < edge_count_of l t
    in_step = let m = before_more l t in omega arith

    pub from_below_lem : (edge_number l i).from < vertex_count_of l t
    from_below_lem = subst (λ e. e.from < vertex_count_of l t) (number_of l t i a) (s.from_below t (i - edges_before l t) h in_step)

    pub symbol_below_lem : (edge_number l i).symbol < q_of l
    symbol_below_lem = subst (λ e. e.symbol < q_of l) (number_of l t i a) (s.symbol_below t (i - edges_before l t) h in_step)

    pub to_below_lem : (edge_number l i).to < vertex_count_of l (suc t)
    to_below_lem = subst (λ e. e.to < vertex_count_of l (suc t)) (number_of l t i a) (s.to_below t (i - edges_before l t) h in_step)

  -- edge i, of whatever step
  module _ (i : ℕ) (h : i < all_edges l) where
    T : StepOf l (n_of l) i
    T = step_of l (n_of l) i h

    pub symbol_small_lem : (edge_number l i).symbol < most_q
    symbol_small_lem = omega (arith, symbol_below_lem T.at i T.below T.from T.to, s.q_to)

-- ---- a section and its view

-- the sizes and the counts are there
pub record Header (l : List ℕ) (at : View) : Type 0 where
  pub n_is : at.n ≡ n_of l
  pub n_le : n_of l ≤ 8
  pub inside : 4 + 2 * n_of l ≤ length l

pub header : {l : List ℕ} {at : View} → Seen l at → Header l at
header {l} S =
    let p = parts l in
    let i = symbols_in_lem S.sound in
    record { n_is = (viewed S.is).n_is; n_le = S.sound.n_to; inside = omega arith }

-- the states of an outer depth: they stand from one place to the next, and each is small
pub record States (l : List ℕ) (first next count : ℕ) (state : ℕ → ℕ) : Type 0 where
  pub le : first ≤ next
  pub count_is_lem : next - first ≡ count
  pub inside : first + count ≤ length l
  pub near : first + count ≤ 30000
  pub few : count ≤ most_states
  pub at : (v : ℕ) → get_or l (first + v) 0 ≡ state v
  pub small : (v : ℕ) → v < count → state v < most_states

module _ {l : List ℕ} {at : View} (S : Seen l at) where
  pub roots_at : States l at.roots at.goals (vertex_count_of l 0) (root_state l)
  unfolding root_state
  roots_at =
      let p = parts l in
      let w = viewed S.is in
      let i = symbols_in_lem S.sound in
      let n = section_near S.sound in
      record {
        le = omega (arith, w.roots_is, w.goals_is);
        count_is_lem = omega (arith, w.roots_is, w.goals_is);
        inside = omega (arith, w.roots_is);
        near = omega (arith, w.roots_is);
        few = roots_few S.sound;
        at = λ v. ap (λ k. get_or l (k + v) 0) w.roots_is;
        small = λ v h. omega (arith, S.sound.roots_below v h, S.sound.states_to);
      }

  pub goals_at : States l at.goals at.pairs (vertex_count_of l (n_of l)) (goal_state l)
  unfolding goal_state
  goals_at =
      let p = parts l in
      let w = viewed S.is in
      let i = symbols_in_lem S.sound in
      let n = section_near S.sound in
      record {
        le = omega (arith, w.goals_is, w.pairs_is);
        count_is_lem = omega (arith, w.goals_is, w.pairs_is);
        inside = omega (arith, w.goals_is);
        near = omega (arith, w.goals_is);
        few = goals_few S.sound;
        at = λ v. ap (λ k. get_or l (k + v) 0) w.goals_is;
        small = λ v h. omega (arith, S.sound.goals_below v h, S.sound.states_to);
      }
