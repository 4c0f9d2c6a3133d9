-- Of two usable sections with the same words and sizes, the one is the other with inner vertices renumbered. Each follows the other's
-- routes, so their vertices are matched. What is matched both ways is as many; outer vertices ascend by state on both sides, so they keep
-- their numbers; and the edges of a step, carried, are the other's, which ascend: so they are the carried ones in order.
use mathlib.Core.Path.{◌≡◌, refl, sym, ap, ap₂, subst, ◌∙◌}
use mathlib.Core.List.Memᴰ
use mathlib.Core.List.{List, [], ◌∷◌, map}
use Prim.Native.Nat.{ℕ, suc, ◌≤◌, ◌<◌}
use native.Mathlib.Omega.{arith}
use native.Mathlib.Nat.{le_antisymm}
use native.Mathlib.Decide.{ℕ_discrete}
use lib.ListN.{length}
use Rattle.trellis.specs.Lists.{◌∈◌, Once, each, ascending}
use Rattle.trellis.specs.Word.{Word}
use Rattle.trellis.specs.Own.{Edge, edge, edge_less}
use Rattle.trellis.specs.Layout.{q_of, n_of, states_of, vertex_count_of, edge_count_of, section_length, root_state, goal_state}
use Rattle.trellis.specs.Layout.{step_edges, section_words, joined_up}
use Rattle.trellis.proofs.Lists.{each_same}
use Rattle.trellis.proofs.Joined.{joined_same}
use Rattle.trellis.proofs.Ascending.{once_of, ascends, in_ascending, of_ascending, ascends_same}
use Rattle.trellis.proofs.Paths.{edge_eq, edges_order}
use Rattle.section_file.specs.Inner.Sound.{Hit, Sound}
use Rattle.section_file.proofs.Words.{steps_ascend}
use Rattle.matching.specs.Matching.{Carrying, Matching, carried, renumbered_edges, renumbered, Renumbered}
use Rattle.matching.proofs.Routes.{Shape, Neat}
use Rattle.matching.proofs.Matches.{Follows, match_of, match_low, match_root, match_goal, match_edge, match_only}
use Rattle.matching.proofs.Matches.{match_back, match_edge_back}
use Rattle.matching.proofs.Sections.{shape_of, edges_long, neat, follows}
use Rattle.matching.proofs.Counting.{met_by_fewer, edges_by_fewer, Rises, stays}
use Rattle.matching.proofs.Laid.{laid_out, laid}

-- ---- shapes that follow each other

module _ {n : ℕ} {D E : Shape} (N : Neat n D) (M : Neat n E) (F : Follows n D E) (G : Follows n E D) where
  -- every vertex there is met
  met : (t w : ℕ) → t ≤ n → w < E.count t → Hit (match_of N F t) (D.count t) w
  met t w h b = record { at = match_of M G t w; below = match_low M N G t w h b; is = match_back M N G F t w h b }

  vertices_fewer : (t : ℕ) → t ≤ n → E.count t ≤ D.count t
  vertices_fewer t h = met_by_fewer (match_of N F t) (D.count t) (E.count t) (λ w b. met t w h b)

  -- every edge there is a carried one, and every carried one is an edge there
  edge_met : (t : ℕ) → t < n → (e : Edge) → e ∈ E.edges t → e ∈ map (carried (match_of N F) t) (D.edges t)
  edge_met t h e k =
      let p = match_back M N G F t e.from (omega arith) (M.from_low t h e k) in
      let q = match_back M N G F (suc t) e.to h (M.to_low t h e k) in
      Memᴰ.cast (λ i. edge (sym p i) e.symbol (sym q i))
      (Memᴰ.map (carried (match_of N F) t) (match_edge M N G t e.from e.symbol e.to h k))

  edge_carried : (t : ℕ) → t < n → (e : Edge) → e ∈ map (carried (match_of N F) t) (D.edges t) → e ∈ E.edges t
  edge_carried t h e k =
      let z = Memᴰ.of_map (carried (match_of N F) t) (D.edges t) k in
      Memᴰ.cast (sym z.2) (match_edge N M F t z.0.from z.0.symbol z.0.to h z.1)

  edges_fewer : (t : ℕ) → t < n → Once (E.edges t) → length (E.edges t) ≤ length (D.edges t)
  edges_fewer t h o = edges_by_fewer (carried (match_of N F) t) (D.edges t) (E.edges t) o (edge_met t h)

map_keeps : (f : Edge → Edge) (l : List Edge) → ((e : Edge) → e ∈ l → f e ≡ e) → map f l ≡ l
map_keeps f [] h = refl
map_keeps f (e ∷ l) h = ap₂ (λ x k. x ∷ k) (h e (Memᴰ.head refl)) (map_keeps f l (λ x k. h x (Memᴰ.tail k)))

-- ---- two usable sections

module _ {l m : List ℕ} (s : Sound l) (r : Sound m) (e : n_of m ≡ n_of l)
    (into : (w : Word) → w ∈ section_words l → w ∈ section_words m)
    (out : (w : Word) → w ∈ section_words m → w ∈ section_words l) where
  N : Neat (n_of l) (shape_of l)
  N = neat s

  M : Neat (n_of l) (shape_of m)
  M = subst (λ k. Neat k (shape_of m)) e (neat r)

  F : Follows (n_of l) (shape_of l) (shape_of m)
  F = follows s r refl e into

  G : Follows (n_of l) (shape_of m) (shape_of l)
  G = follows r s e refl out

  abbrev f : ℕ → ℕ → ℕ
  f = match_of N F

  carrying : Carrying l m f
  carrying = record {
    vertices = match_low N M F;
    roots = match_root N M F;
    goals = match_goal N M F;
    edges = match_edge N M F;
  }

  matching : Matching l m f
  matching = record {
    carrying = carrying;
    apart = λ t u v h a b d. sym (match_back N M F G t u h a) ∙ ap (match_of M G t) d ∙ match_back N M F G t v h b;
    onto = λ t w h b. let H = met N M F G t w h b in record { vertex = H.at; below = H.below; is = H.is };
    no_more = match_edge_back N M F G;
  }

  just_one_lem : (g : ℕ → ℕ → ℕ) → Carrying l m g → (t v : ℕ) → t ≤ n_of l → v < vertex_count_of l t → g t v ≡ f t v
  just_one_lem g K = match_only N M F g (record { roots = K.roots; goals = K.goals; edges = K.edges })

  -- ---- what stays

  vertices_same : (t : ℕ) → t ≤ n_of l → vertex_count_of m t ≡ vertex_count_of l t
  vertices_same t h = le_antisymm (vertices_fewer N M F G t h) (vertices_fewer M N G F t h)

  edges_same : (t : ℕ) → t < n_of l → edge_count_of m t ≡ edge_count_of l t
  edges_same t h =
      sym (edges_long m t)
      ∙ le_antisymm (edges_fewer N M F G t h (once_of edge_less edges_order (step_edges m t) (steps_ascend r t (omega arith))))
      (edges_fewer M N G F t h (once_of edge_less edges_order (step_edges l t) (steps_ascend s t h)))
      ∙ edges_long l t

  roots_stay : (v : ℕ) → v < vertex_count_of l 0 → f 0 v ≡ v
  roots_stay = stays {p = root_state l} {q = root_state m} (record { ascend = s.roots_ascend }) (record { ascend = r.roots_ascend })
      (f 0) (match_of M G 0)
      (record { low = λ v h. match_low N M F 0 v (omega arith) h; keep = match_root N M F })
      (record { low = λ v h. match_low M N G 0 v (omega arith) h; keep = match_root M N G })
      (λ v h. match_back N M F G 0 v (omega arith) h)

  goals_rise : Rises (goal_state m) (vertex_count_of m (n_of l))
  goals_rise = subst (λ k. Rises (goal_state m) (vertex_count_of m k)) e (record { ascend = r.goals_ascend })

  goals_stay : (v : ℕ) → v < vertex_count_of l (n_of l) → f (n_of l) v ≡ v
  goals_stay = stays {p = goal_state l} {q = goal_state m} (record { ascend = s.goals_ascend }) goals_rise (f (n_of l)) (match_of M G (n_of l))
      (record { low = λ v h. match_low N M F (n_of l) v (omega arith) h; keep = match_goal N M F })
      (record { low = λ v h. match_low M N G (n_of l) v (omega arith) h; keep = match_goal M N G })
      (λ v h. match_back N M F G (n_of l) v (omega arith) h)

  edges_are : (t : ℕ) → t < n_of l → step_edges m t ≡ renumbered_edges f l t
  unfolding renumbered_edges
  edges_are t h = ascends_same edge_less edges_order (step_edges m t) (ascending edge_less (map (carried f t) (step_edges l t)))
      (steps_ascend r t (omega arith)) (ascends edge_less edges_order (map (carried f t) (step_edges l t)))
      (λ x k. in_ascending edge_less edges_order x (map (carried f t) (step_edges l t)) (edge_met N M F G t h x k))
      (λ x k. edge_carried N M F G t h x (of_ascending edge_less edges_order x (map (carried f t) (step_edges l t)) k))

  -- ---- all numbers

  counts : each (vertex_count_of m) (suc (n_of m)) ≡ each (vertex_count_of l) (suc (n_of l))
  counts = each_same (vertex_count_of m) (vertex_count_of l) (suc (n_of m)) (suc (n_of l)) (ap suc e) (λ t h. vertices_same t (omega arith))

  edge_counts_lem : each (edge_count_of m) (n_of m) ≡ each (edge_count_of l) (n_of l)
  edge_counts_lem = each_same (edge_count_of m) (edge_count_of l) (n_of m) (n_of l) e (λ t h. edges_same t (omega arith))

  roots : each (root_state m) (vertex_count_of m 0) ≡ each (root_state l) (vertex_count_of l 0)
  roots = each_same (root_state m) (root_state l) (vertex_count_of m 0) (vertex_count_of l 0) (vertices_same 0 (omega arith))
      (λ v h. let b : v < vertex_count_of l 0 = omega (arith, vertices_same 0 (omega arith)) in
      ap (root_state m) (sym (roots_stay v b)) ∙ match_root N M F v b)

  last_same : vertex_count_of m (n_of m) ≡ vertex_count_of l (n_of l)
  last_same = ap (vertex_count_of m) e ∙ vertices_same (n_of l) (omega arith)

  goals : each (goal_state m) (vertex_count_of m (n_of m)) ≡ each (goal_state l) (vertex_count_of l (n_of l))
  goals = each_same (goal_state m) (goal_state l) (vertex_count_of m (n_of m)) (vertex_count_of l (n_of l)) last_same
      (λ v h. let b : v < vertex_count_of l (n_of l) = omega (arith, last_same) in
      ap (goal_state m) (sym (goals_stay v b)) ∙ match_goal N M F v b)

  all_edges : joined_up (step_edges m) (n_of m) ≡ joined_up (renumbered_edges f l) (n_of l)
  all_edges = ap (joined_up (step_edges m)) e ∙ joined_same (step_edges m) (renumbered_edges f l) (n_of l) edges_are

  numbers : section_length m ≡ length m → q_of m ≡ q_of l → states_of m ≡ states_of l → m ≡ renumbered f l
  unfolding renumbered
  numbers full q states = laid m full ∙ (λ i. laid_out (q i) (e i) (states i) (counts i) (edge_counts_lem i) (roots i) (goals i) (all_edges i))

  -- ---- where inner vertices keep their numbers

  module _ (inner : (t v : ℕ) → 0 < t → t < n_of l → v < vertex_count_of l t → f t v ≡ v) where
    keeps : (t v : ℕ) → t ≤ n_of l → v < vertex_count_of l t → f t v ≡ v
    keeps t v h b = go (ℕ_discrete t 0) (ℕ_discrete t (n_of l))
      where
        go : Dec (t ≡ 0) → Dec (t ≡ n_of l) → f t v ≡ v
        go (yes p) q = ap (λ u. f u v) p ∙ roots_stay v (subst (λ u. v < vertex_count_of l u) p b)
        go (no p) (yes q) = ap (λ u. f u v) q ∙ goals_stay v (subst (λ u. v < vertex_count_of l u) q b)
        go (no p) (no q) = inner t v (omega arith) (omega arith) b

    edges_keep : (t : ℕ) → t < n_of l → renumbered_edges f l t ≡ step_edges l t
    unfolding renumbered_edges
    edges_keep t h =
        ap (ascending edge_less) (map_keeps (carried f t) (step_edges l t)
        (λ x k. edge_eq (keeps t x.from (omega arith) (N.from_low t h x k)) refl (keeps (suc t) x.to h (N.to_low t h x k))))
        ∙ ascends_same edge_less edges_order (ascending edge_less (step_edges l t)) (step_edges l t)
        (ascends edge_less edges_order (step_edges l t)) (steps_ascend s t h)
        (λ x k. of_ascending edge_less edges_order x (step_edges l t) k) (λ x k. in_ascending edge_less edges_order x (step_edges l t) k)

    keeps_all : section_length l ≡ length l → renumbered f l ≡ l
    unfolding renumbered
    keeps_all full =
        (λ i. laid_out (q_of l) (n_of l) (states_of l) (each (vertex_count_of l) (suc (n_of l))) (each (edge_count_of l) (n_of l))
        (each (root_state l) (vertex_count_of l 0)) (each (goal_state l) (vertex_count_of l (n_of l)))
        (joined_same (renumbered_edges f l) (step_edges l) (n_of l) edges_keep i)) ∙ sym (laid l full)

  pub renumbers : section_length l ≡ length l → section_length m ≡ length m → q_of m ≡ q_of l → states_of m ≡ states_of l → Renumbered l m
  renumbers own full q states = record {
    f = f;
    matching = matching;
    just_one = just_one_lem;
    roots = roots_stay;
    goals = goals_stay;
    vertex_counts = vertices_same;
    edge_counts = edges_same;
    numbers = numbers full q states;
    same = λ inner. numbers full q states ∙ keeps_all inner own;
  }
