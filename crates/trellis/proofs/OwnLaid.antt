-- The numbers of our section, read again by the layout, give our section: its counts, states and edges. The parts stand one behind another,
-- each as long as its counts say, so the place of each part is the length of what stands before it.
use mathlib.Core.Path.{◌≡◌, refl, sym, ap, subst, ◌∙◌}
use mathlib.Core.List.{List, [], ◌∷◌, ◌++◌, map, flat_map}
use Prim.Native.Nat.{ℕ, zero, suc, ◌+◌, ◌-◌, ◌*◌, ◌≤◌, ◌<◌}
use native.Mathlib.Omega.{arith}
use native.Mathlib.Nat.{zero-add, not-suc-le-zero}
use lib.ListN.{length, get_or, length-append, length-map, get_or-append}
use lib.Seq.{get_or-append-add, ext_get_or}
use Rattle.trellis.specs.Lists.{run, each, sum}
use Rattle.trellis.specs.Word.{Word}
use Rattle.trellis.specs.Own.{Edge, edge, keys, vertex_count, edges_at, edge_count}
use Rattle.trellis.specs.Layout.{q_of, n_of, states_of, vertex_count_of, edge_count_of, edges_before, roots_place, goals_place, pairs_place}
use Rattle.trellis.specs.Layout.{symbols_place, section_length, root_state, goal_state, edge_number, step_edges, joined_up, pair_of, symbol_of}
use Rattle.trellis.specs.Layout.{section_of}
use Rattle.trellis.proofs.Lists.{length_run, run_at, each_at, sum_eq, length_two}
use Rattle.trellis.proofs.Joined.{lengths_suc, joined_length, lengths_le, joined_at}
use Rattle.trellis.proofs.Paths.{edge_eq}

pair_from : (es : List Edge) (k : ℕ) (d : Edge) → k < length es → get_or (flat_map pair_of es) (2 * k) 0 ≡ (get_or es k d).from
unfolding flat_map
pair_from [] k d h = absurd (not-suc-le-zero h)
pair_from (e ∷ es) zero d h = refl
pair_from (e ∷ es) (suc k) d h = let q : 2 * suc k ≡ suc (suc (2 * k)) = omega arith in rw q (pair_from es k d (omega arith))

pair_to : (es : List Edge) (k : ℕ) (d : Edge) → k < length es → get_or (flat_map pair_of es) (2 * k + 1) 0 ≡ (get_or es k d).to
unfolding flat_map
pair_to [] k d h = absurd (not-suc-le-zero h)
pair_to (e ∷ es) zero d h = refl
pair_to (e ∷ es) (suc k) d h = let q : 2 * suc k + 1 ≡ suc (suc (2 * k + 1)) = omega arith in rw q (pair_to es k d (omega arith))

symbol_at : (es : List Edge) (k : ℕ) (d : Edge) → k < length es → get_or (map symbol_of es) k 0 ≡ (get_or es k d).symbol
symbol_at [] k d h = absurd (not-suc-le-zero h)
symbol_at (e ∷ es) zero d h = refl
symbol_at (e ∷ es) (suc k) d h = symbol_at es k d (omega arith)

-- ---- six parts behind three numbers: what stands at a place

module _ (x y z : ℕ) (a b c d e f : List ℕ) where
  abbrev parts : List ℕ
  parts = x ∷ y ∷ z ∷ (a ++ (b ++ (c ++ (d ++ (e ++ f)))))

  behind : (i k : ℕ) → i ≡ suc (suc (suc k)) → get_or parts i 0 ≡ get_or (a ++ (b ++ (c ++ (d ++ (e ++ f))))) k 0
  behind i k q = ap (λ j. get_or parts j 0) q

  in_first : (i k : ℕ) → i ≡ 3 + k → k < length a → get_or parts i 0 ≡ get_or a k 0
  in_first i k q h = behind i k (omega arith) ∙ get_or-append a (b ++ (c ++ (d ++ (e ++ f)))) 0 k h

  behind_first : (i k : ℕ) → i ≡ 3 + length a + k → get_or parts i 0 ≡ get_or (b ++ (c ++ (d ++ (e ++ f)))) k 0
  behind_first i k q = behind i (length a + k) (omega arith) ∙ get_or-append-add a (b ++ (c ++ (d ++ (e ++ f)))) k 0

  in_second : (i k : ℕ) → i ≡ 3 + length a + k → k < length b → get_or parts i 0 ≡ get_or b k 0
  in_second i k q h = behind_first i k q ∙ get_or-append b (c ++ (d ++ (e ++ f))) 0 k h

  behind_second : (i k : ℕ) → i ≡ 3 + length a + length b + k → get_or parts i 0 ≡ get_or (c ++ (d ++ (e ++ f))) k 0
  behind_second i k q = behind_first i (length b + k) (omega arith) ∙ get_or-append-add b (c ++ (d ++ (e ++ f))) k 0

  in_third : (i k : ℕ) → i ≡ 3 + length a + length b + k → k < length c → get_or parts i 0 ≡ get_or c k 0
  in_third i k q h = behind_second i k q ∙ get_or-append c (d ++ (e ++ f)) 0 k h

  behind_third : (i k : ℕ) → i ≡ 3 + length a + length b + length c + k → get_or parts i 0 ≡ get_or (d ++ (e ++ f)) k 0
  behind_third i k q = behind_second i (length c + k) (omega arith) ∙ get_or-append-add c (d ++ (e ++ f)) k 0

  in_fourth : (i k : ℕ) → i ≡ 3 + length a + length b + length c + k → k < length d → get_or parts i 0 ≡ get_or d k 0
  in_fourth i k q h = behind_third i k q ∙ get_or-append d (e ++ f) 0 k h

  behind_fourth : (i k : ℕ) → i ≡ 3 + length a + length b + length c + length d + k → get_or parts i 0 ≡ get_or (e ++ f) k 0
  behind_fourth i k q = behind_third i (length d + k) (omega arith) ∙ get_or-append-add d (e ++ f) k 0

  in_fifth : (i k : ℕ) → i ≡ 3 + length a + length b + length c + length d + k → k < length e → get_or parts i 0 ≡ get_or e k 0
  in_fifth i k q h = behind_fourth i k q ∙ get_or-append e f 0 k h

  in_sixth : (i k : ℕ) → i ≡ 3 + length a + length b + length c + length d + length e + k → get_or parts i 0 ≡ get_or f k 0
  in_sixth i k q = behind_fourth i (length e + k) (omega arith) ∙ get_or-append-add e f k 0

  parts_length : length parts ≡ 3 + length a + length b + length c + length d + length e + length f
  parts_length =
      let k : length (a ++ (b ++ (c ++ (d ++ (e ++ f))))) ≡ length a + (length b + (length c + (length d + (length e + length f)))) =
      simp length-append in
      omega arith

-- ---- our section

module _ (q n S : ℕ) (table : List Word) where
  abbrev l : List ℕ
  l = section_of q n S table

  abbrev counts : List ℕ
  counts = each (vertex_count n table) (suc n)

  abbrev edge_counts : List ℕ
  edge_counts = each (edge_count n table) n

  abbrev all : List Edge
  all = joined_up (edges_at n table) n

  abbrev roots : List ℕ
  roots = keys n table 0

  abbrev goals : List ℕ
  goals = keys n table n

  counts_long : length counts ≡ suc n
  counts_long = length_run (vertex_count n table) 0 (suc n)

  edge_counts_long : length edge_counts ≡ n
  edge_counts_long = length_run (edge_count n table) 0 n

  pub own_q : q_of l ≡ q
  unfolding section_of
  own_q = refl

  pub own_n : n_of l ≡ n
  unfolding section_of
  own_n = refl

  pub own_states : states_of l ≡ S
  unfolding section_of
  own_states = refl

  pub own_vertex_count : (t : ℕ) → t ≤ n → vertex_count_of l t ≡ vertex_count n table t
  unfolding vertex_count_of section_of
  own_vertex_count t h =
      in_first q n S counts edge_counts roots goals (flat_map pair_of all) (map symbol_of all) (3 + t) t refl (omega (arith, counts_long))
      ∙ each_at (vertex_count n table) (suc n) t 0 (omega arith)

  pub own_edge_count : (t : ℕ) → t < n → edge_count_of l t ≡ edge_count n table t
  unfolding edge_count_of section_of
  own_edge_count t h =
      in_second q n S counts edge_counts roots goals (flat_map pair_of all) (map symbol_of all) (4 + n + t) t (omega (arith, counts_long))
      (omega (arith, edge_counts_long))
      ∙ each_at (edge_count n table) n t 0 h

  pub own_edges_before : (t : ℕ) → t ≤ n → edges_before l t ≡ sum (edge_count n table) 0 t
  unfolding edges_before
  own_edges_before t h = sum_eq (edge_count_of l) (edge_count n table) 0 t (λ u a b. own_edge_count u (omega (arith, zero-add t)))

  all_long : length all ≡ sum (edge_count n table) 0 n
  unfolding edge_count
  all_long = joined_length (edges_at n table) n

  roots_long : length roots ≡ vertex_count n table 0
  unfolding vertex_count
  roots_long = refl

  goals_long : length goals ≡ vertex_count n table n
  unfolding vertex_count
  goals_long = refl

  goals_place_lem : goals_place l ≡ 4 + 2 * n + length roots
  unfolding goals_place roots_place
  goals_place_lem = omega (arith, own_n, own_vertex_count 0 (omega arith), roots_long)

  pairs_place_lem : pairs_place l ≡ 4 + 2 * n + length roots + length goals
  unfolding pairs_place
  pairs_place_lem = let e : vertex_count_of l (n_of l) ≡ vertex_count n table n = ap (vertex_count_of l) own_n ∙ own_vertex_count n (omega arith) in
      omega (arith, goals_place_lem, goals_long)

  all_edges : edges_before l (n_of l) ≡ length all
  all_edges = ap (edges_before l) own_n ∙ own_edges_before n (omega arith) ∙ sym all_long

  symbols_place_lem : symbols_place l ≡ 4 + 2 * n + length roots + length goals + 2 * length all
  unfolding symbols_place
  symbols_place_lem = omega (arith, pairs_place_lem, all_edges)

  pub own_length : section_length l ≡ length l
  unfolding section_length section_of
  own_length = omega (
    arith,
    symbols_place_lem,
    all_edges,
    parts_length q n S counts edge_counts roots goals (flat_map pair_of all) (map symbol_of all),
    counts_long,
    edge_counts_long,
    length_two pair_of all (λ e. refl),
    length-map all symbol_of,
  )

  pub own_root : (v : ℕ) → v < vertex_count n table 0 → root_state l v ≡ get_or (keys n table 0) v 0
  unfolding root_state roots_place section_of
  own_root v h = in_third q n S counts edge_counts roots goals (flat_map pair_of all) (map symbol_of all) (4 + 2 * n + v) v
      (omega (arith, counts_long, edge_counts_long)) (omega (arith, roots_long))

  goal_at : (i v : ℕ) → i ≡ 4 + 2 * n + length roots + v → v < length goals → get_or l i 0 ≡ get_or goals v 0
  unfolding section_of
  goal_at i v e h = in_fourth q n S counts edge_counts roots goals (flat_map pair_of all) (map symbol_of all) i v
      (omega (arith, counts_long, edge_counts_long)) h

  pub own_goal : (v : ℕ) → v < vertex_count n table n → goal_state l v ≡ get_or (keys n table n) v 0
  unfolding goal_state
  own_goal v h = goal_at (goals_place l + v) v (omega (arith, goals_place_lem)) (omega (arith, goals_long))

  pair_place : (i k : ℕ) → i ≡ 4 + 2 * n + length roots + length goals + k → k < 2 * length all → get_or l i 0 ≡ get_or (flat_map pair_of all) k 0
  unfolding section_of
  pair_place i k e h =
      in_fifth q n S counts edge_counts roots goals (flat_map pair_of all) (map symbol_of all) i k
      (omega (arith, counts_long, edge_counts_long)) (omega (arith, length_two pair_of all (λ e. refl)))

  symbol_place : (i k : ℕ) → i ≡ 4 + 2 * n + length roots + length goals + 2 * length all + k → get_or l i 0 ≡ get_or (map symbol_of all) k 0
  unfolding section_of
  symbol_place i k e =
      in_sixth q n S counts edge_counts roots goals (flat_map pair_of all) (map symbol_of all) i k
      (omega (arith, counts_long, edge_counts_long, length_two pair_of all (λ e. refl)))

  from_at : (k : ℕ) → k < length all → get_or l (pairs_place l + 2 * k) 0 ≡ (get_or all k (edge 0 0 0)).from
  from_at k h = pair_place (pairs_place l + 2 * k) (2 * k) (omega (arith, pairs_place_lem)) (omega arith) ∙ pair_from all k (edge 0 0 0) h

  to_at : (k : ℕ) → k < length all → get_or l (pairs_place l + 2 * k + 1) 0 ≡ (get_or all k (edge 0 0 0)).to
  to_at k h = pair_place (pairs_place l + 2 * k + 1) (2 * k + 1) (omega (arith, pairs_place_lem)) (omega arith) ∙ pair_to all k (edge 0 0 0) h

  mark_at : (k : ℕ) → k < length all → get_or l (symbols_place l + k) 0 ≡ (get_or all k (edge 0 0 0)).symbol
  mark_at k h = symbol_place (symbols_place l + k) k (omega (arith, symbols_place_lem)) ∙ symbol_at all k (edge 0 0 0) h

  pub own_edge_number : (k : ℕ) → k < length all → edge_number l k ≡ get_or all k (edge 0 0 0)
  unfolding edge_number
  own_edge_number k h = edge_eq (from_at k h) (mark_at k h) (to_at k h)

  -- edge k of step t
  pub own_step_edge : (t k : ℕ) → t < n → k < edge_count n table t
      → edge_number l (edges_before l t + k) ≡ get_or (edges_at n table t) k (edge 0 0 0)
  unfolding edge_count
  own_step_edge t k h b =
      let e : edges_before l t ≡ sum (λ u. length (edges_at n table u)) 0 t = own_edges_before t (omega arith) in
      let r = lengths_le (edges_at n table) (n - suc t) (suc t) in
      let m : suc t + (n - suc t) ≡ n = omega arith in
      let w : sum (λ u. length (edges_at n table u)) 0 (suc t) ≤ sum (λ u. length (edges_at n table u)) 0 n =
      subst (λ u. sum (λ u. length (edges_at n table u)) 0 (suc t) ≤ sum (λ u. length (edges_at n table u)) 0 u) m r in
      own_edge_number (edges_before l t + k) (omega (arith, w, lengths_suc (edges_at n table) t, joined_length (edges_at n table) n))
      ∙ ap (λ i. get_or all (i + k) (edge 0 0 0)) e ∙ joined_at (edges_at n table) n t k (edge 0 0 0) h b

  pub own_step_edges : (t : ℕ) → t < n → step_edges l t ≡ edges_at n table t
  unfolding step_edges edge_count
  own_step_edges t h =
      ext_get_or (edge 0 0 0) (run (edge_number l) (edges_before l t) (edge_count_of l t)) (edges_at n table t)
      (length_run (edge_number l) (edges_before l t) (edge_count_of l t) ∙ own_edge_count t h)
      (λ k b.
      let m : k < edge_count_of l t = subst (λ j. k < j) (length_run (edge_number l) (edges_before l t) (edge_count_of l t)) b in
      let r : k < length (edges_at n table t) = subst (λ j. k < j) (own_edge_count t h) m in
      run_at (edge_number l) (edges_before l t) (edge_count_of l t) k (edge 0 0 0) m ∙ own_step_edge t k h r)
