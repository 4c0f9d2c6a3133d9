-- The finished map and the section's numbers are those of our section. The states of an outer depth are its keys, so the rows written there
-- are the vertices; with the inner rows the map has the vertex of every word at every depth, and then the first words on edges give the
-- edges in order.
use mathlib.Core.Path.{◌≡◌, refl, sym, ap, ap₂, ◌∙◌}
use mathlib.Core.List.{List, ◌∷◌, ◌++◌, map, flat_map, map-append, append_assoc}
use Prim.Native.Nat.{ℕ, zero, suc, ◌+◌, ◌*◌, ◌/◌, ◌%◌, ◌<◌, ◌≤◌}
use native.Mathlib.Omega.{arith}
use native.Mathlib.Nat.{suc-mul, zero-mul, mul-zero, one-mul, zero-add, le_refl, mul-le-mul_right, div-add-mod', div-lt_iff_lt-mul, mod-lt}
use native.Mathlib.Decide.{ℕ_discrete}
use lib.ListN.{length, get_or, take, length-append, length-map}
use lib.Seq.{take_at}
use lib.Dec.{ltb}
use Rattle.trellis.specs.Bounds.{most_words}
use Rattle.trellis.specs.Lists.{each, rank, ascending}
use Rattle.trellis.specs.Label.{symbol}
use Rattle.trellis.specs.Word.{Word, Rectangular}
use Rattle.trellis.specs.Own.{key, keys, vertex_of, vertex_count, edge_of, edges_at, edge_count}
use Rattle.trellis.specs.Layout.{joined_up, pair_of, symbol_of, section_of}
use Rattle.trellis.specs.Inner.Write.{Wrote}
use Rattle.trellis.proofs.Lists.{length_run, flat_map_append, each_same, length_two}
use Rattle.trellis.proofs.Ascending.{numbers, ascending_length}
use Rattle.trellis.proofs.Paths.{edge_eq}
use Rattle.trellis.proofs.Vertices.{key_root, key_goal, vertex_below}
use Rattle.depths.specs.Inner.Words.{words, Held}
use Rattle.depths.specs.Inner.Merge.{InnerMerged}
use Rattle.depths.proofs.Words.{held_length, word_root, word_label, word_goal}
use Rattle.takers.specs.Inner.Takers.{row_edge, takers}
use Rattle.takers.specs.Inner.Pieces.{SmallMap, map_edge, step_takers, step_list, Taken, step_pairs, step_symbols}
use Rattle.takers.proofs.FirstWords.{takers_edges}
use Rattle.layout.specs.Inner.States.{occurring, Few}
use Rattle.layout.proofs.Marks.{marked_are}
use Rattle.outer_depths.specs.Inner.Outer.{OuterPut}
use Rattle.assemble.proofs.Numbers.{wrote_first}
use Rattle.assemble.specs.Inner.Numbers.{first_numbers, size_numbers, numbers_of}

six_long : (a b c d e f : List ℕ)
    → length (a ++ (b ++ (c ++ (d ++ (e ++ f))))) ≡ length a + (length b + (length c + (length d + (length e + length f))))
six_long a b c d e f = simp length-append

-- how long the section of a table is, by its counts
pub section_long : (q n states : ℕ) (table : List Word) → length (section_of q n states table)
    ≡ 4 + 2 * n + (vertex_count n table 0 + vertex_count n table n) + 3 * length (joined_up (edges_at n table) n)
unfolding section_of vertex_count
section_long q n states table = omega (
  arith,
  six_long (each (vertex_count n table) (suc n)) (each (edge_count n table) n) (keys n table 0) (keys n table n)
      (flat_map pair_of (joined_up (edges_at n table) n)) (map symbol_of (joined_up (edges_at n table) n)),
  length_run (vertex_count n table) 0 (suc n),
  length_run (edge_count n table) 0 n,
  length_two pair_of (joined_up (edges_at n table) n) (λ e. refl),
  length-map (joined_up (edges_at n table) n) symbol_of,
)

module _ {n : ℕ} {roots labels goals old new inner root_marks goal_marks counts : List ℕ} (H : Held n roots labels goals)
    (S : InnerMerged n (words roots labels goals) 1 old inner) (P : OuterPut roots goals n old new inner root_marks goal_marks counts) where
  abbrev table : List Word
  table = words roots labels goals

  size : length table ≡ length roots
  size = held_length H

  -- ---- states are keys

  pub root_states : occurring roots ≡ keys n table 0
  unfolding keys
  root_states = ap (ascending ltb) (each_same (λ i. get_or roots i 0) (key n table 0) (length roots) (length table) (sym size)
      (λ i h. sym (key_root n table i ∙ word_root roots labels goals i (omega (arith, size)))))

  pub goal_states : occurring goals ≡ keys n table n
  unfolding keys
  goal_states = ap (ascending ltb) (each_same (λ i. get_or goals i 0) (key n table n) (length goals) (length table) (H.aimed ∙ sym size)
      (λ i h. sym (key_goal n table i H.table.some ∙ word_goal roots labels goals i (omega (arith, size, H.aimed)))))

  -- ---- the map

  root_vertex : (i : ℕ) → i < length roots → rank (get_or roots i 0) (occurring roots) ≡ vertex_of n table 0 i
  unfolding vertex_of
  root_vertex i h = ap₂ rank (sym (key_root n table i ∙ word_root roots labels goals i (omega (arith, size)))) root_states

  goal_vertex : (i : ℕ) → i < length roots → rank (get_or goals i 0) (occurring goals) ≡ vertex_of n table n i
  unfolding vertex_of
  goal_vertex i h = ap₂ rank (sym (key_goal n table i H.table.some ∙ word_goal roots labels goals i (omega (arith, size)))) goal_states

  one_row : (t : ℕ) → 0 < t → length roots ≤ t * length roots
  one_row t h = let p : 1 * length roots ≤ t * length roots = mul-le-mul_right (length roots) h in omega (arith, one-mul (length roots))

  next_row : (t : ℕ) → t < n → t * length roots + length roots ≤ n * length roots
  next_row t h = let p : suc t * length roots ≤ n * length roots = mul-le-mul_right (length roots) h in
      omega (arith, suc-mul t (length roots))

  pub complete : (t i : ℕ) → t ≤ n → i < length roots → get_or new (t * length roots + i) 0 ≡ vertex_of n table t i
  complete t i h l = go (ℕ_discrete t 0) (ℕ_discrete t n)
    where
      go : Dec (t ≡ 0) → Dec (t ≡ n) → get_or new (t * length roots + i) 0 ≡ vertex_of n (words roots labels goals) t i
      go (yes p) q =
          let e : t * length roots + i ≡ i = rw (p, zero-mul (length roots)) (zero-add i) in
          ap (λ k. get_or new k 0) e ∙ P.placed.root_row i l ∙ root_vertex i l ∙ ap (λ u. vertex_of n (words roots labels goals) u i) (sym p)
      go (no p) (yes q) =
          ap (λ u. get_or new (u * length roots + i) 0) q ∙ P.placed.goal_row i l ∙ goal_vertex i l
          ∙ ap (λ u. vertex_of n (words roots labels goals) u i) (sym q)
      go (no p) (no q) =
          let u : t < n = omega arith in
          P.placed.between (t * length roots + i) (omega (arith, one_row t (omega arith))) (omega (arith, next_row t u))
          ∙ ap (λ w. get_or old (t * w + i) 0) (sym size) ∙ S.vertices t i (omega arith) u (omega (arith, size))

  pub counted : (t : ℕ) → t ≤ n → get_or counts t 0 ≡ vertex_count n table t
  unfolding vertex_count
  counted t h = go (ℕ_discrete t 0) (ℕ_discrete t n)
    where
      go : Dec (t ≡ 0) → Dec (t ≡ n) → get_or counts t 0 ≡ length (keys n (words roots labels goals) t)
      go (yes p) q = ap (λ u. get_or counts u 0) p ∙ P.root_count ∙ ap length root_states
          ∙ ap (λ u. length (keys n (words roots labels goals) u)) (sym p)
      go (no p) (yes q) = ap (λ u. get_or counts u 0) q ∙ P.goal_count ∙ ap length goal_states
          ∙ ap (λ u. length (keys n (words roots labels goals) u)) (sym q)
      go (no p) (no q) = P.inner_count t (omega arith) (omega arith) ∙ S.counted t (omega arith) (omega arith)

  few_vertices : (t i : ℕ) → i < length roots → vertex_of n table t i < most_words
  unfolding vertex_count keys
  few_vertices t i h = omega (
    arith,
    vertex_below n table t i (omega (arith, size)),
    ascending_length ltb numbers (each (key n table t) (length table)),
    length_run (key n table t) 0 (length table),
    size,
    H.few,
  )

  -- every place of the n + 1 rows is of some word at some depth
  pub small : suc n * length roots ≤ length new → SmallMap new labels n
  small room = record {
    steps = H.short;
    words = omega (arith, H.labelled, H.few);
    room = rw H.labelled room;
    vertices = λ j h. vertices j (rw H.labelled at h);
  }
    where
      vertices : (j : ℕ) → j < suc n * length roots → get_or new j 0 < most_words
      vertices j h =
          let some : 0 < length roots = pos (length roots) (suc n) j h in
          let t = j / length roots in
          let i = j % length roots in
          let e : t * length roots + i ≡ j = div-add-mod' j (length roots) in
          let l : i < length roots = mod-lt j some in
          let u : t < suc n = (div-lt_iff_lt-mul some).1 h in
          let f : get_or new (t * length roots + i) 0 ≡ get_or new j 0 = ap (λ k. get_or new k 0) e in
          omega (arith, complete t i (omega arith) l, few_vertices t i l)
        where
          pos : (w m k : ℕ) → k < m * w → 0 < w
          pos zero m k q = absurd (omega (arith, mul-zero m))
          pos (suc w) m k q = omega arith

  -- ---- the edges and the numbers, where the table is rectangular

  module _ (R : Rectangular n table) where
    step_edge_lem : (t : ℕ) → t < n → (i : ℕ) → i < length table → map_edge new labels n t i ≡ edge_of n table t i
    unfolding row_edge
    step_edge_lem t deep i h =
        let k : i < length roots = omega (arith, size) in
        edge_eq (ap (λ w. get_or new (t * w + i) 0) H.labelled ∙ complete t i (omega arith) k)
        (ap (symbol n t) (sym (word_label roots labels goals i h)))
        (ap (λ w. get_or new (t * w + w + i) 0) H.labelled ∙ ap (λ j. get_or new (j + i) 0) (sym (suc-mul t (length roots)))
        ∙ complete (suc t) i deep k)

    pub step_edges_lem : (t : ℕ) → t < n → step_list new labels n t ≡ edges_at n table t
    unfolding step_list step_takers
    step_edges_lem t deep =
        ap (λ w. map (map_edge new labels n t) (takers (map_edge new labels n t) w)) (H.labelled ∙ sym size)
        ∙ takers_edges n table H.table R t deep (map_edge new labels n t) (step_edge_lem t deep)

    takers_long : (t : ℕ) → t < n → length (step_takers new labels n t) ≡ edge_count n table t
    unfolding edge_count step_list
    takers_long t h = sym (length-map (step_takers new labels n t) (map_edge new labels n t)) ∙ ap length (step_edges_lem t h)

    -- all steps' edges, and the two arrays that are made of them
    all_pairs : (t : ℕ) → t ≤ n → joined_up (step_pairs new labels n) t ≡ flat_map pair_of (joined_up (edges_at n table) t)
    unfolding joined_up step_pairs flat_map
    all_pairs zero h = refl
    all_pairs (suc t) h =
        ap₂ (λ x y. x ++ y) (all_pairs t (omega arith)) (ap (flat_map pair_of) (step_edges_lem t h))
        ∙ sym (flat_map_append pair_of (joined_up (edges_at n table) t) (edges_at n table t))

    all_symbols : (t : ℕ) → t ≤ n → joined_up (step_symbols new labels n) t ≡ map symbol_of (joined_up (edges_at n table) t)
    unfolding joined_up step_symbols
    all_symbols zero h = refl
    all_symbols (suc t) h =
        ap₂ (λ x y. x ++ y) (all_symbols t (omega arith)) (ap (map symbol_of) (step_edges_lem t h))
        ∙ sym (map-append symbol_of (joined_up (edges_at n table) t) (edges_at n table t))

    all_takers : (t : ℕ) → t ≤ n → length (joined_up (step_takers new labels n) t) ≡ length (joined_up (edges_at n table) t)
    unfolding joined_up edge_count
    all_takers zero h = refl
    all_takers (suc t) h =
        length-append (joined_up (step_takers new labels n) t) (step_takers new labels n t)
        ∙ ap₂ (λ x y. x + y) (all_takers t (omega arith)) (takers_long t h)
        ∙ sym (length-append (joined_up (edges_at n table) t) (edges_at n table t))

    module _ (q states : ℕ) {firsts edge_counts : List ℕ} (K : Taken new labels n firsts edge_counts) where
      own_sizes : size_numbers q n states counts edge_counts
          ≡ q ∷ n ∷ states ∷ (each (vertex_count n table) (suc n) ++ each (edge_count n table) n)
      unfolding size_numbers
      own_sizes = ap₂ {C = List ℕ} (λ x y. q ∷ n ∷ states ∷ (x ++ y))
          (each_same (λ k. get_or counts k 0) (vertex_count n table) (suc n) (suc n) refl (λ t h. counted t (omega arith)))
          (each_same (λ k. get_or edge_counts k 0) (edge_count n table) n n refl (λ t h. K.counted t h ∙ takers_long t h))

      module _ {sizes0 sizes : List ℕ} (W : Wrote sizes0 0 (size_numbers q n states counts edge_counts) sizes (4 + 2 * n)) where
        -- the sizes are the section's first numbers
        pub sizes_are_lem : size_numbers q n states counts edge_counts ≡ take (4 + 2 * n) (section_of q n states table)
        unfolding section_of
        sizes_are_lem =
            own_sizes ∙ sym (rw (← append_assoc (each (vertex_count n table) (suc n)) (each (edge_count n table) n))
            (take_at (q ∷ n ∷ states ∷ (each (vertex_count n table) (suc n) ++ each (edge_count n table) n)) _ (4 + 2 * n)
            (ap length (sym own_sizes) ∙ omega (arith, W.end_is))))

        pub numbers_are : 4 + 2 * n ≤ length sizes0 → Few roots → Few goals
            → numbers_of n sizes root_marks goal_marks new labels ≡ section_of q n states table
        unfolding numbers_of section_of
        numbers_are room few_roots few_goals =
            ap₂ (λ x y. x ++ y) (ap (first_numbers sizes) (omega (arith, W.end_is)) ∙ wrote_first W (omega (arith, W.end_is)) ∙ own_sizes)
            (ap₂ (λ x y. x ++ y) (marked_are few_roots P.roots_marked ∙ root_states)
            (ap₂ (λ x y. x ++ y) (marked_are few_goals P.goals_marked ∙ goal_states)
            (ap₂ (λ x y. x ++ y) (all_pairs n (le_refl _)) (all_symbols n (le_refl _)))))
            ∙ ap {B = List ℕ} (λ l. q ∷ n ∷ states ∷ l) (append_assoc (each (vertex_count n table) (suc n)) (each (edge_count n table) n) _)

    -- the section's length, from the counts
    pub section_length : (q states total : ℕ) → total ≡ length (joined_up (step_takers new labels n) n)
        → length (section_of q n states table) ≡ 4 + 2 * n + (get_or counts 0 0 + get_or counts n 0) + 3 * total
    section_length q states total e =
        omega (arith, section_long q n states table, counted 0 (omega arith), counted n (le_refl _), all_takers n (le_refl _))
