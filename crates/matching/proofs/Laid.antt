-- A section that fills its list is known by what the layout reads in it: its parts stand one behind another, so writing out what is read
-- gives the list again.
use mathlib.Core.Path.{◌≡◌, refl, sym, ap, ap₂, ◌∙◌}
use mathlib.Core.List.{List, ◌∷◌, ◌++◌, map, flat_map}
use Prim.Native.Nat.{ℕ, zero, suc, ◌+◌, ◌*◌}
use native.Mathlib.Omega.{arith}
use native.Mathlib.Nat.{add-zero, zero-add}
use lib.ListN.{length, get_or}
use Rattle.trellis.specs.Lists.{run, each, sum}
use Rattle.trellis.specs.Own.{Edge}
use Rattle.trellis.specs.Layout.{q_of, n_of, states_of, vertex_count_of, edge_count_of, edges_before, roots_place, goals_place, pairs_place}
use Rattle.trellis.specs.Layout.{symbols_place, section_length, root_state, goal_state, edge_number, step_edges, joined_up, pair_of, symbol_of}
use Rattle.trellis.proofs.Lists.{run_whole, run_shift, run_append, sum_last}

-- ---- runs

-- a run cut at a place
run_cut : {A : Type 0} (f : ℕ → A) (at a b next : ℕ) → at + a ≡ next → run f at (a + b) ≡ run f at a ++ run f next b
run_cut f at a b next e = sym (run_append f at a b) ∙ ap (λ k. run f at a ++ run f k b) e

-- f from a place on
each_shift : {A : Type 0} (f : ℕ → A) (at count : ℕ) → each (λ k. f (at + k)) count ≡ run f at count
each_shift f at count = run_shift (λ k. f (at + k)) f 0 at count (λ k h. ap (λ j. f (at + j)) (zero-add k))

-- ---- a list by its parts

-- sizes, counts, states and edges written one behind another
abbrev pub laid_out : ℕ → ℕ → ℕ → List ℕ → List ℕ → List ℕ → List ℕ → List Edge → List ℕ
laid_out q n S vertices edges roots goals all = q ∷ n ∷ S ∷ (vertices ++
    (edges ++ (roots ++ (goals ++ (flat_map pair_of all ++ map symbol_of all)))))

module _ (l : List ℕ) where
  abbrev at : ℕ → ℕ
  at i = get_or l i 0

  pairs_run : (k count : ℕ) → flat_map pair_of (run (edge_number l) k count) ≡ run at (pairs_place l + 2 * k) (2 * count)
  unfolding flat_map run edge_number
  pairs_run k zero = refl
  pairs_run k (suc count) =
      let c : 2 * suc count ≡ suc (suc (2 * count)) = omega arith in
      let p : pairs_place l + 2 * k + 1 ≡ suc (pairs_place l + 2 * k) = omega arith in
      let r : pairs_place l + 2 * suc k ≡ suc (suc (pairs_place l + 2 * k)) = omega arith in
      ap₂ (λ x y. at (pairs_place l + 2 * k) ∷ at x ∷ y) p (pairs_run (suc k) count ∙ ap (λ i. run at i (2 * count)) r)
      ∙ sym (ap (run at (pairs_place l + 2 * k)) c)

  symbols_run : (k count : ℕ) → map symbol_of (run (edge_number l) k count) ≡ run at (symbols_place l + k) count
  unfolding run edge_number
  symbols_run k zero = refl
  symbols_run k (suc count) =
      let r : symbols_place l + suc k ≡ suc (symbols_place l + k) = omega arith in
      ap (λ y. at (symbols_place l + k) ∷ y) (symbols_run (suc k) count ∙ ap (λ i. run at i count) r)

  edges_run : (t : ℕ) → joined_up (step_edges l) t ≡ run (edge_number l) 0 (edges_before l t)
  unfolding joined_up step_edges edges_before run sum
  edges_run zero = refl
  edges_run (suc t) =
      let e : sum (edge_count_of l) 0 (suc t) ≡ sum (edge_count_of l) 0 t + edge_count_of l t = sum_last (edge_count_of l) 0 t ∙ rw (zero-add t) in
      ap (λ k. k ++ run (edge_number l) (sum (edge_count_of l) 0 t) (edge_count_of l t)) (edges_run t)
      ∙ ap (λ i. run (edge_number l) 0 (sum (edge_count_of l) 0 t) ++ run (edge_number l) i (edge_count_of l t))
      (sym (zero-add (sum (edge_count_of l) 0 t)))
      ∙ run_append (edge_number l) 0 (sum (edge_count_of l) 0 t) (edge_count_of l t)
      ∙ ap (run (edge_number l) 0) (sym e)

  -- ---- the parts, each where the layout has it

  abbrev n : ℕ
  n = n_of l

  abbrev E : ℕ
  E = edges_before l (n_of l)

  long : section_length l ≡ length l → length l ≡ 3 + (suc n + (n + (vertex_count_of l 0 + (vertex_count_of l n + (2 * E + E)))))
  unfolding section_length symbols_place pairs_place goals_place roots_place
  long e = omega arith

  counts_are : run at 3 (suc n) ≡ each (vertex_count_of l) (suc n)
  unfolding vertex_count_of
  counts_are = sym (each_shift at 3 (suc n))

  edge_counts_are : run at (4 + n) n ≡ each (edge_count_of l) n
  unfolding edge_count_of
  edge_counts_are = sym (each_shift at (4 + n) n)

  roots_are : run at (roots_place l) (vertex_count_of l 0) ≡ each (root_state l) (vertex_count_of l 0)
  unfolding root_state
  roots_are = sym (each_shift at (roots_place l) (vertex_count_of l 0))

  goals_are : run at (goals_place l) (vertex_count_of l n) ≡ each (goal_state l) (vertex_count_of l n)
  unfolding goal_state
  goals_are = sym (each_shift at (goals_place l) (vertex_count_of l n))

  pairs_are : run at (pairs_place l) (2 * E) ≡ flat_map pair_of (joined_up (step_edges l) n)
  pairs_are =
      let e : pairs_place l ≡ pairs_place l + 2 * 0 = omega arith in
      ap (λ i. run at i (2 * E)) e ∙ sym (pairs_run 0 E) ∙ ap (flat_map pair_of) (sym (edges_run n))

  symbols_are : run at (symbols_place l) E ≡ map symbol_of (joined_up (step_edges l) n)
  symbols_are = ap (λ i. run at i E) (sym (add-zero (symbols_place l))) ∙ sym (symbols_run 0 E) ∙ ap (map symbol_of) (sym (edges_run n))

  roots_next : 4 + n + n ≡ roots_place l
  unfolding roots_place
  roots_next = omega arith

  goals_next : roots_place l + vertex_count_of l 0 ≡ goals_place l
  unfolding goals_place
  goals_next = refl

  pairs_next : goals_place l + vertex_count_of l n ≡ pairs_place l
  unfolding pairs_place
  pairs_next = refl

  symbols_next : pairs_place l + 2 * E ≡ symbols_place l
  unfolding symbols_place
  symbols_next = refl

  behind : run at 3 (suc n + (n + (vertex_count_of l 0 + (vertex_count_of l n + (2 * E + E)))))
      ≡ each (vertex_count_of l) (suc n) ++ (each (edge_count_of l) n ++
      (each (root_state l) (vertex_count_of l 0) ++ (each (goal_state l) (vertex_count_of l n)
      ++ (flat_map pair_of (joined_up (step_edges l) n) ++ map symbol_of (joined_up (step_edges l) n)))))
  behind =
      run_cut at 3 (suc n) (n + (vertex_count_of l 0 + (vertex_count_of l n + (2 * E + E)))) (4 + n) (omega arith)
      ∙ ap₂ (λ x y. x ++ y) counts_are
      (run_cut at (4 + n) n (vertex_count_of l 0 + (vertex_count_of l n + (2 * E + E))) (roots_place l) roots_next
      ∙ ap₂ (λ x y. x ++ y) edge_counts_are
      (run_cut at (roots_place l) (vertex_count_of l 0) (vertex_count_of l n + (2 * E + E)) (goals_place l) goals_next
      ∙ ap₂ (λ x y. x ++ y) roots_are
      (run_cut at (goals_place l) (vertex_count_of l n) (2 * E + E) (pairs_place l) pairs_next ∙ ap₂ (λ x y. x ++ y) goals_are
      (run_cut at (pairs_place l) (2 * E) E (symbols_place l) symbols_next ∙ ap₂ (λ x y. x ++ y) pairs_are symbols_are))))

  three : (k : ℕ) → each at (3 + k) ≡ q_of l ∷ n_of l ∷ states_of l ∷ run at 3 k
  unfolding run
  three k = let e : 3 + k ≡ suc (suc (suc k)) = omega arith in ap (each at) e

  -- a section that fills its list, written out
  pub laid : section_length l ≡ length l
      → l ≡ laid_out (q_of l) (n_of l) (states_of l) (each (vertex_count_of l) (suc (n_of l))) (each (edge_count_of l) (n_of l))
      (each (root_state l) (vertex_count_of l 0))
      (each (goal_state l) (vertex_count_of l (n_of l))) (joined_up (step_edges l) (n_of l))
  laid e = sym (run_whole l) ∙ ap (each at) (long e) ∙ three (suc n + (n + (vertex_count_of l 0 + (vertex_count_of l n + (2 * E + E)))))
      ∙ ap (λ r. q_of l ∷ n_of l ∷ states_of l ∷ r) behind
