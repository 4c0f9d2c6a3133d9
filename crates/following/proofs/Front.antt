-- Two sections with the same numbers in front of their edges. Sizes, counts and end states all stand there, at places that n and the counts
-- give, and the places of what stands behind follow from them: so all these are the same, and so is the view.
use mathlib.Core.Path.{◌≡◌, sym, ap, subst, ◌∙◌}
use mathlib.Core.Bool.{Bool, true}
use mathlib.Core.List.{List}
use Prim.Native.Nat.{ℕ, zero, suc, ◌+◌, ◌-◌, ◌*◌, ◌≤◌, ◌<◌}
use native.Mathlib.Omega.{arith}
use native.Mathlib.Nat.{zero-add, le_refl}
use native.Mathlib.Decide.{dec_lt}
use lib.ListN.{get_or}
use lib.Dec.{eqb}
use borrow.Author.Tests.{eqb-true, eq-eqb}
use Rattle.trellis.specs.Lists.{all}
use Rattle.trellis.specs.Layout.{q_of, n_of, states_of, vertex_count_of, edge_count_of, edges_before, all_edges, section_length, root_state, goal_state}
use Rattle.trellis.specs.Layout.{roots_place, goals_place, pairs_place, symbols_place}
use Rattle.trellis.proofs.Lists.{sum_eq}
use Rattle.edges.proofs.Tests.{all_at, all_of}
use Rattle.section_file.specs.Inner.Sound.{Sound}
use Rattle.section_file.specs.Inner.View.{view_of, Seen}
use Rattle.section_file.specs.declared.View.{View}
use Rattle.section_file.proofs.Seen.{parts}
use Rattle.partners.specs.Inner.Following.{SameFront, BothSeen}

module _ {a b : List ℕ} (F : SameFront a b) where
  -- a place in front of the root states
  early : (i : ℕ) → i < 4 + 2 * n_of a → get_or b i 0 ≡ get_or a i 0
  early i h = let p = parts a in F.same i (omega arith)

  -- ---- sizes and counts

  pub front_q : q_of b ≡ q_of a
  front_q = early 0 (omega arith)

  pub front_n : n_of b ≡ n_of a
  front_n = early 1 (omega arith)

  pub front_states : states_of b ≡ states_of a
  front_states = early 2 (omega arith)

  pub front_vertices : (t : ℕ) → t ≤ n_of a → vertex_count_of b t ≡ vertex_count_of a t
  unfolding vertex_count_of
  front_vertices t h = early (3 + t) (omega arith)

  pub front_edges : (t : ℕ) → t < n_of a → edge_count_of b t ≡ edge_count_of a t
  unfolding edge_count_of
  front_edges t h = ap (λ n. get_or b (4 + n + t) 0) front_n ∙ early (4 + n_of a + t) (omega arith)

  pub front_before : (t : ℕ) → t ≤ n_of a → edges_before b t ≡ edges_before a t
  unfolding edges_before
  front_before t h = sum_eq (edge_count_of b) (edge_count_of a) 0 t (λ u c d. front_edges u (omega (arith, zero-add t)))

  front_last : vertex_count_of b (n_of b) ≡ vertex_count_of a (n_of a)
  front_last = ap (vertex_count_of b) front_n ∙ front_vertices (n_of a) (le_refl (n_of a))

  front_all : all_edges b ≡ all_edges a
  front_all = ap (edges_before b) front_n ∙ front_before (n_of a) (le_refl (n_of a))

  -- ---- places

  roots_place_lem : roots_place b ≡ roots_place a
  roots_place_lem = let p = parts a in let q = parts b in omega (arith, front_n)

  goals_place_lem : goals_place b ≡ goals_place a
  goals_place_lem = let p = parts a in let q = parts b in omega (arith, roots_place_lem, front_vertices 0 (omega arith))

  pairs_place_lem : pairs_place b ≡ pairs_place a
  pairs_place_lem = let p = parts a in let q = parts b in omega (arith, goals_place_lem, front_last)

  symbols_place_lem : symbols_place b ≡ symbols_place a
  symbols_place_lem = let p = parts a in let q = parts b in omega (arith, pairs_place_lem, front_all)

  pub front_length : section_length b ≡ section_length a
  front_length = let p = parts a in let q = parts b in omega (arith, symbols_place_lem, front_all)

  pub front_view : view_of b ≡ view_of a
  unfolding view_of
  front_view = λ i. record {
    q = front_q i;
    n = front_n i;
    roots = roots_place_lem i;
    goals = goals_place_lem i;
    pairs = pairs_place_lem i;
    symbols = symbols_place_lem i;
    edges = front_all i;
    end = front_length i;
  }

  -- ---- end states

  pub front_roots : (v : ℕ) → v < vertex_count_of a 0 → root_state b v ≡ root_state a v
  unfolding root_state
  front_roots v h = ap (λ i. get_or b (i + v) 0) roots_place_lem ∙ (let p = parts a in F.same (roots_place a + v) (omega arith))

  pub front_goals : (v : ℕ) → v < vertex_count_of a (n_of a) → goal_state b v ≡ goal_state a v
  unfolding goal_state
  front_goals v h = ap (λ i. get_or b (i + v) 0) goals_place_lem ∙ (let p = parts a in F.same (goals_place a + v) (omega arith))

-- ---- both with one view

module _ {a b : List ℕ} {at : View} where
  pub both_seen : Seen a at → Sound b → SameFront a b → BothSeen a b at
  both_seen S r F = record { here = S; there = record { sound = r; is = S.is ∙ sym (front_view F) }; front = F }

-- ---- as the code tests it

-- the two lists have the same number at a place
abbrev pub alike_to : List ℕ → List ℕ → ℕ → Bool
alike_to a b = λ i. eqb (get_or a i 0) (get_or b i 0)

module _ {a b : List ℕ} where
  pub front_of : true ≡ all (alike_to a b) (pairs_place a) → SameFront a b
  front_of e = record { same = λ i h. sym (eqb-true (get_or a i 0) (get_or b i 0) (all_at (alike_to a b) (pairs_place a) i (sym e) h)) }

  pub front_alike : SameFront a b → all (alike_to a b) (pairs_place a) ≡ true
  front_alike F = all_of (alike_to a b) (pairs_place a) (λ i h. eq-eqb (get_or a i 0) (get_or b i 0) (sym (F.same i h)))

-- ---- nothing else stands in front

pub record SameParts (a b : List ℕ) : Type 0 where
  pub q : q_of b ≡ q_of a
  pub n : n_of b ≡ n_of a
  pub states : states_of b ≡ states_of a
  pub vertices : (t : ℕ) → t ≤ n_of a → vertex_count_of b t ≡ vertex_count_of a t
  pub edges : (t : ℕ) → t < n_of a → edge_count_of b t ≡ edge_count_of a t
  pub roots : (v : ℕ) → v < vertex_count_of a 0 → root_state b v ≡ root_state a v
  pub goals : (v : ℕ) → v < vertex_count_of a (n_of a) → goal_state b v ≡ goal_state a v

-- the numbers at a place are the same
abbrev Agree : List ℕ → List ℕ → ℕ → Type 0
Agree a b i = get_or b i 0 ≡ get_or a i 0

module _ {a b : List ℕ} (P : SameParts a b) where
  -- part by part, each k places behind where it begins
  at_size : (k : ℕ) → k < 3 → Agree a b k
  at_size zero h = P.q
  at_size (suc zero) h = P.n
  at_size (suc (suc zero)) h = P.states
  at_size (suc (suc (suc k))) h = absurd (omega arith)

  at_vertices : (k : ℕ) → k ≤ n_of a → Agree a b (3 + k)
  unfolding vertex_count_of
  at_vertices k h = P.vertices k h

  at_edges : (k : ℕ) → k < n_of a → Agree a b (4 + n_of a + k)
  unfolding edge_count_of
  at_edges k h = sym (ap (λ m. get_or b (4 + m + k) 0) P.n) ∙ P.edges k h

  at_roots : (k : ℕ) → k < vertex_count_of a 0 → Agree a b (roots_place a + k)
  unfolding root_state
  at_roots k h =
      let e : roots_place b ≡ roots_place a = omega (arith, P.n, (parts a).roots_at, (parts b).roots_at) in
      sym (ap (λ i. get_or b (i + k) 0) e) ∙ P.roots k h

  at_goals : (k : ℕ) → k < vertex_count_of a (n_of a) → Agree a b (goals_place a + k)
  unfolding goal_state
  at_goals k h =
      let p = parts a in
      let r = parts b in
      let e : goals_place b ≡ goals_place a = omega (arith, P.vertices 0 (omega arith), P.n) in
      sym (ap (λ i. get_or b (i + k) 0) e) ∙ P.goals k h

  pub front_by : SameFront a b
  front_by = record { same = λ i h. go i h (dec_lt i 3) (dec_lt i (4 + n_of a)) (dec_lt i (roots_place a)) (dec_lt i (goals_place a)) }
    where
      from : (place i : ℕ) → place ≤ i → Agree a b (place + (i - place)) → Agree a b i
      from place i h = let e : place + (i - place) ≡ i = omega arith in subst (Agree a b) e

      go : (i : ℕ) → i < pairs_place a → Dec (i < 3) → Dec (i < 4 + n_of a) → Dec (i < roots_place a) → Dec (i < goals_place a) → Agree a b i
      go i h (yes c) d e f = at_size i c
      go i h (no c) (yes d) e f = from 3 i (omega arith) (at_vertices (i - 3) (omega arith))
      go i h (no c) (no d) (yes e) f =
          from (4 + n_of a) i (omega arith) (at_edges (i - (4 + n_of a)) (omega (arith, (parts a).roots_at)))
      go i h (no c) (no d) (no e) (yes f) =
          from (roots_place a) i (omega arith) (at_roots (i - roots_place a) (omega (arith, (parts a).goals_at)))
      go i h (no c) (no d) (no e) (no f) =
          from (goals_place a) i (omega arith) (at_goals (i - goals_place a) (omega (arith, (parts a).pairs_at)))
