-- How the code reads a section's numbers and compares them: each law takes what the calls on the way ensure, over plain variables, and
-- gives the definition that is promised. They hold because the code goes to the places that the definitions name, in the same order.
use mathlib.Core.Path.{◌≡◌, refl, sym, ap, ◌∙◌}
use mathlib.Core.Bool.{Bool, true, false, ◌&&◌}
use mathlib.Core.List.{List}
use Prim.Native.Nat.{ℕ, ◌+◌, ◌-◌, ◌*◌, ◌≤◌}
use native.Mathlib.Omega.{arith}
use lib.ListN.{length, get_or, take, drop}
use lib.Dec.{ltb}
use borrow.Author.Tests.{ltb-true, lt-ltb}
use Rattle.trellis.specs.Bounds.{most_words}
use Rattle.trellis.specs.Lists.{sum, all, within}
use Rattle.trellis.specs.Own as own
use Rattle.trellis.specs.Layout.{n_of, states_of, vertex_count_of, edge_count_of, edges_before, section_length, root_state, goal_state}
use Rattle.trellis.specs.Layout.{roots_place, goals_place, pairs_place, symbols_place}
use Rattle.trellis.proofs.Bools.{holds, is_true}
use Rattle.trellis.proofs.ThreeNumbers.{lower_yes, lower_of, lower_chain}
use Rattle.edges.specs.Inner.Edges.{above}
use Rattle.edges.proofs.Tests.{all_both, all_next}
use Rattle.section_file.specs.Usable.{step_edge, counts_right, rising, states_right, edges_ascend}
use Rattle.section_file.specs.Inner.Steps.{higher, state_right}
use Rattle.section_file.specs.Inner.View.{view_of, Laid}
use Rattle.section_file.specs.declared.View.{View}
use Rattle.section_file.proofs.Seen.{Viewed, viewed, near_of, from_length, numbers_from}

-- ---- counts

module _ (l : List ℕ) {n : ℕ} {a : Bool} (n_is : n ≡ n_of l) (a_is : a ≡ all (λ t. within 1 most_words (get_or l (3 + t) 0)) (n + 1)) where
  pub vertices_wrong : a ≡ false → a ≡ counts_right l
  unfolding counts_right vertex_count_of
  vertices_wrong t =
      let e : all (λ t. within 1 most_words (get_or l (3 + t) 0)) (n_of l + 1) ≡ false = rw (← n_is) (sym a_is ∙ t) in
      t ∙ rw e

  pub counts_by_edges : {b : Bool} → a ≡ true → b ≡ all (λ t. within 1 most_words (get_or l (4 + n + t) 0)) n → b ≡ counts_right l
  unfolding counts_right vertex_count_of edge_count_of
  counts_by_edges {b} t b_is =
      let e : all (λ t. within 1 most_words (get_or l (3 + t) 0)) (n_of l + 1) ≡ true = rw (← n_is) (sym a_is ∙ t) in
      b_is ∙ rw (e, ← n_is)

-- ---- places

pub view_is : (l : List ℕ) {n q edges x v y w : ℕ} → n ≡ n_of l → q ≡ get_or l 0 0
    → (edges ≡ sum (λ t. get_or l (4 + n + t) 0) 0 n) × (edges ≤ 65535 * n)
    → x ≡ get_or l 3 0 → v ≡ x → y ≡ get_or l (3 + n) 0 → w ≡ y
    → record {
      q = q;
      n = n;
      roots = 4 + 2 * n;
      goals = 4 + 2 * n + v;
      pairs = 4 + 2 * n + v + w;
      symbols = 4 + 2 * n + v + w + 2 * edges;
      edges = edges;
      end = 4 + 2 * n + v + w + 2 * edges + edges;
    } ≡ view_of l
unfolding view_of roots_place goals_place pairs_place symbols_place section_length edges_before vertex_count_of edge_count_of
view_is l {n} {q} {edges} {x} {v} {y} {w} r q_is_lem e x_is v_is y_is w_is =
    let f : v ≡ get_or l 3 0 = v_is ∙ x_is in
    let g : w ≡ get_or l (3 + n_of l) 0 = w_is ∙ y_is ∙ rw r in
    let k : edges ≡ sum (λ t. get_or l (4 + n_of l + t) 0) 0 (n_of l) = e.0 ∙ rw r in
    λ i. record {
      q = q_is_lem i;
      n = r i;
      roots = 4 + 2 * r i;
      goals = 4 + 2 * r i + f i;
      pairs = 4 + 2 * r i + f i + g i;
      symbols = 4 + 2 * r i + f i + g i + 2 * k i;
      edges = k i;
      end = 4 + 2 * r i + f i + g i + 2 * k i + k i;
    }

-- ---- end states

-- each state above the one before it, so above all before it
rising_is : (l : List ℕ) (f : ℕ → ℕ) (count : ℕ) → all (state_right f (states_of l)) count ≡ rising l f count
unfolding state_right rising higher
rising_is l f count =
    all_both (higher f) (λ v. ltb (f v) (states_of l)) count
    ∙ ap (λ b. b && all (λ v. ltb (f v) (states_of l)) count) (all_next (higher f) (λ u v. ltb (f u) (f v)) refl (λ v. refl) chain count)
    ∙ sym (all_both (λ v. all (λ u. ltb (f u) (f v)) v) (λ v. ltb (f v) (states_of l)) count)
  where
    chain : (i j k : ℕ) → ltb (f i) (f j) ≡ true → ltb (f j) (f k) ≡ true → ltb (f i) (f k) ≡ true
    chain i j k p q = lt-ltb (f i) (f k) (omega (arith, ltb-true (f i) (f j) p, ltb-true (f j) (f k) q))

module _ (l : List ℕ) {at : View} (L : Laid l at) {s : ℕ} (s_is : s ≡ states_of l) where
  places : Viewed l at
  places = viewed L.is

  module _ {x v : ℕ} (x_is : x ≡ get_or l 3 0) (v_is : v ≡ x) where
    pub roots_there : v ≤ length (take (length l - at.roots) (drop at.roots l))
    unfolding vertex_count_of
    roots_there = let N = near_of L in omega (arith, from_length l at.roots, v_is)

    module _ {a : Bool} (a_is : a ≡ all (state_right (λ u. get_or (take (length l - at.roots) (drop at.roots l)) u 0) s) v) where
      roots_are : a ≡ rising l (root_state l) (vertex_count_of l 0)
      unfolding root_state vertex_count_of
      roots_are =
          let f = numbers_from l places.roots_is in
          let e : a ≡ all (state_right (root_state l) (states_of l)) (vertex_count_of l 0) = a_is ∙ rw (v_is ∙ x_is, f, s_is) in
          e ∙ rising_is l (root_state l) (vertex_count_of l 0)

      pub roots_wrong : a ≡ false → a ≡ states_right l
      unfolding states_right
      roots_wrong t = let e = sym roots_are ∙ t in t ∙ rw e

      pub states_by_goals : {y w : ℕ} {b : Bool} → a ≡ true → y ≡ get_or l (3 + at.n) 0 → w ≡ y
          → b ≡ all (state_right (λ u. get_or (take (length l - at.goals) (drop at.goals l)) u 0) s) w → b ≡ states_right l
      unfolding states_right goal_state vertex_count_of
      states_by_goals {y} {w} {b} t y_is w_is b_is =
          let e : rising l (root_state l) (get_or l 3 0) ≡ true = sym roots_are ∙ t in
          let f : w ≡ get_or l (3 + n_of l) 0 = w_is ∙ y_is ∙ ap (λ m. get_or l (3 + m) 0) places.n_is in
          let k = numbers_from l places.goals_is in
          let g : b ≡ all (state_right (goal_state l) (states_of l)) (vertex_count_of l (n_of l)) = b_is ∙ rw (f, k, s_is) in
          let h : b ≡ rising l (goal_state l) (vertex_count_of l (n_of l)) = g ∙ rising_is l (goal_state l) (vertex_count_of l (n_of l)) in
          h ∙ rw e

  pub goals_there : {y w : ℕ} → y ≡ get_or l (3 + at.n) 0 → w ≡ y
      → w ≤ length (take (length l - at.goals) (drop at.goals l))
  unfolding vertex_count_of
  goals_there {y} {w} y_is w_is =
      let N = near_of L in
      let f : w ≡ get_or l (3 + n_of l) 0 = w_is ∙ y_is ∙ ap (λ m. get_or l (3 + m) 0) places.n_is in
      omega (arith, from_length l at.goals)

-- each edge above the one before it, so above all before it
pub ascend_is : (l : List ℕ) (t : ℕ) → all (above (step_edge l t)) (edge_count_of l t) ≡ edges_ascend l t
unfolding above edges_ascend
ascend_is l t = all_next (above (step_edge l t)) less refl (λ k. refl) chain (edge_count_of l t)
  where
    less : ℕ → ℕ → Bool
    less j k = own.edge_less (step_edge l t j) (step_edge l t k)

    chain : (i j k : ℕ) → less i j ≡ true → less j k ≡ true → less i k ≡ true
    chain i j k p q =
        is_true (less i k) (lower_of _ _ _ _ _ _ (lower_chain (lower_yes _ _ _ _ _ _ (holds p)) (lower_yes _ _ _ _ _ _ (holds q))))
