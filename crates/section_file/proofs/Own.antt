-- What merging writes is usable: our section of a rectangular table within bounds is sound. Its counts are no greater than the number of
-- words, its states are the words' states in order, each edge is some word's, each vertex is on some word's path, and it has no twins.
use mathlib.Core.Path.{◌≡◌, refl, sym, ap, subst, ◌∙◌}
use mathlib.Core.Bool.{true}
use mathlib.Core.List.{List}
use Prim.Native.Nat.{ℕ, suc, ◌≤◌, ◌<◌}
use native.Mathlib.Omega.{arith}
use lib.ListN.{length, get_or}
use lib.Dec.{T, ltb, ltb→lt}
use Rattle.trellis.specs.Bounds.{most_states, most_words, most_symbols, least_q, most_q}
use Rattle.trellis.specs.Lists.{◌∈◌, each}
use Rattle.trellis.specs.Label.{symbol}
use Rattle.trellis.specs.Word.{Word, word_at, Table, Rectangular}
use Rattle.trellis.specs.Own.{Edge, edge, edge_less, key, keys, vertex_of, vertex_count, edge_of, edges_at, edge_count}
use Rattle.trellis.proofs.Ours.{ours}
use Rattle.trellis.specs.Layout.{n_of, vertex_count_of, edge_count_of, section_of}
use Rattle.trellis.proofs.Lists.{From, in_place, place_of, in_each, of_each}
use Rattle.trellis.proofs.Ascending.{numbers, ascends, of_ascending, ascends_at}
use Rattle.trellis.proofs.ThreeNumbers.{lower_yes}
use Rattle.trellis.proofs.Words.{word_in}
use Rattle.trellis.proofs.Paths.{edges_order}
use Rattle.trellis.proofs.Vertices.{Numbering, own_numbering, key_root, key_goal, vertex_below}
use Rattle.trellis.proofs.OwnDrawn.{vertex_of_lem, edge_of_lem, edge_in}
use Rattle.trellis.proofs.OwnFew.{vertices_few, edges_few}
use Rattle.trellis.proofs.OwnTwins.{forward_one, backward_one}
use Rattle.trellis.proofs.OwnLaid.{own_n, own_vertex_count, own_edge_count, own_length, own_root, own_goal, own_step_edge}
use Rattle.section_file.specs.Usable.{step_edge, usable}
use Rattle.section_file.specs.Inner.Sound.{EdgeBefore, Hit, Sound}
use Rattle.section_file.proofs.Usable.{sound_usable}

-- a table that merging accepts, with its q, n and S
pub record Fitting (q n S : ℕ) (words : List Word) : Type 0 where
  pub q_from : least_q ≤ q
  pub q_to : q ≤ most_q
  pub n_to : n ≤ most_symbols
  pub states_from : 1 ≤ S
  pub states_to : S ≤ most_states
  pub some : 1 ≤ length words
  pub few : length words ≤ most_words
  pub roots_below : (w : Word) → w ∈ words → w.root < S
  pub goals_below : (w : Word) → w ∈ words → w.goal < S
  pub symbols_below : (w : Word) → w ∈ words → (t : ℕ) → t < n → symbol n t w.label < q
  pub table : Table n words
  pub rectangular : Rectangular n words

module _ (q n S : ℕ) (table : List Word) (A : Fitting q n S table) where
  abbrev l : List ℕ
  l = section_of q n S table

  O : Numbering n table (vertex_of n table)
  O = own_numbering n table A.table.some A.rectangular

  -- ---- counts

  edges_some : (t : ℕ) → 1 ≤ edge_count n table t
  unfolding ours edge_count
  edges_some t =
      let p = place_of (edge 0 0 0) (edges_at n table t) (edge_of n table t 0) (edge_in n table t 0 A.some) in
      omega (arith, p.below)

  -- ---- states

  state_at : (t v : ℕ) (state : Word → ℕ) → ((i : ℕ) → key n table t i ≡ state (word_at table i)) → ((w : Word) → w ∈ table → state w < S)
      → v < vertex_count n table t → get_or (keys n table t) v 0 < S
  unfolding keys vertex_count
  state_at t v state is low h =
      let F =
      of_each (key n table t) (length table) (get_or (keys n table t) v 0)
      (of_ascending ltb numbers _ _ (in_place 0 (keys n table t) v h)) in
      omega (arith, F.is, is F.at, low (word_at table F.at) (word_in table F.at F.below))

  keys_rise : (t u v : ℕ) → u < v → v < vertex_count n table t → get_or (keys n table t) u 0 < get_or (keys n table t) v 0
  unfolding keys vertex_count
  keys_rise t u v h b = ltb→lt _ _ (ascends_at ltb 0 (keys n table t) (ascends ltb numbers (each (key n table t) (length table))) u v h b)

  -- ---- edges

  edge_is : (t k : ℕ) → t < n → k < edge_count n table t → step_edge l t k ≡ get_or (edges_at n table t) k (edge 0 0 0)
  unfolding step_edge
  edge_is t k h b = own_step_edge q n S table t k h b

  edge_word : (t k : ℕ) → t < n → k < edge_count n table t → From (edge_of n table t) (length table) (step_edge l t k)
  unfolding ours edge_count
  edge_word t k h b =
      let F = edge_of_lem n table t (get_or (edges_at n table t) k (edge 0 0 0)) (in_place (edge 0 0 0) (edges_at n table t) k b) in
      record { at = F.at; below = F.below; is = edge_is t k h b ∙ F.is }

  edge_place : (t i : ℕ) → t < n → i < length table
      → Hit (λ k. (step_edge l t k).from) (edge_count n table t) (vertex_of n table t i)
      × Hit (λ k. (step_edge l t k).to) (edge_count n table t) (vertex_of n table (suc t) i)
  unfolding ours edge_count
  edge_place t i h b =
      let p = place_of (edge 0 0 0) (edges_at n table t) (edge_of n table t i) (edge_in n table t i b) in
      let e : step_edge l t p.at ≡ edge_of n table t i = edge_is t p.at h p.below ∙ p.is in (
        record { at = p.at; below = p.below; is = ap (λ (x : Edge). x.from) e },
        record { at = p.at; below = p.below; is = ap (λ (x : Edge). x.to) e },
      )

  vertex_word : (t v : ℕ) → v < vertex_count n table t → From (vertex_of n table t) (length table) v
  unfolding ours
  vertex_word t v h = vertex_of_lem n table t v (in_each (λ v. v) (vertex_count n table t) v v h refl)

  edges_rise : (t j k : ℕ) → j < k → k < edge_count n table t
      → T (edge_less (get_or (edges_at n table t) j (edge 0 0 0)) (get_or (edges_at n table t) k (edge 0 0 0)))
  unfolding edges_at edge_count
  edges_rise t j k h b =
      ascends_at edge_less (edge 0 0 0) (edges_at n table t) (ascends edge_less edges_order (each (edge_of n table t) (length table))) j k h b

  -- ---- the section

  -- counts as the layout reads them
  vc : (t : ℕ) → t ≤ n → vertex_count_of l t ≡ vertex_count n table t
  vc t h = own_vertex_count q n S table t h

  ec : (t : ℕ) → t < n → edge_count_of l t ≡ edge_count n table t
  ec t h = own_edge_count q n S table t h

  deep : {t : ℕ} → t < n_of l → t < n
  deep h = omega (arith, own_n q n S table)

  shallow : {t : ℕ} → t ≤ n_of l → t ≤ n
  shallow h = omega (arith, own_n q n S table)

  last : vertex_count_of l (n_of l) ≡ vertex_count n table n
  last = ap (vertex_count_of l) (own_n q n S table) ∙ vc n (omega arith)

  edge_at : (t k : ℕ) → t < n_of l → k < edge_count_of l t → From (edge_of n table t) (length table) (step_edge l t k)
  edge_at t k h b = edge_word t k (deep h) (omega (arith, ec t (deep h)))

  pub own_sound : Sound (section_of q n S table)
  unfolding section_of
  own_sound = record {
    q_from = A.q_from;
    q_to = A.q_to;
    n_from = A.table.some;
    n_to = A.n_to;
    states_from = A.states_from;
    states_to = A.states_to;
    vertices_from = λ t h. omega (arith, vc t (shallow h), vertex_below n table t 0 A.some);
    vertices_to = λ t h. omega (arith, vc t (shallow h), vertices_few n table t, A.few);
    edges_from = λ t h. omega (arith, ec t (deep h), edges_some t);
    edges_to = λ t h. omega (arith, ec t (deep h), edges_few n table t, A.few);
    whole = omega (arith, own_length q n S table);
    roots_below = λ v h.
        let b : v < vertex_count n table 0 = omega (arith, vc 0 (omega arith)) in
        omega (arith, own_root q n S table v b, state_at 0 v (λ w. w.root) (key_root n table) A.roots_below b);
    roots_ascend = λ u v h k.
        let b : v < vertex_count n table 0 = omega (arith, vc 0 (omega arith)) in
        omega (arith, own_root q n S table u (omega arith), own_root q n S table v b, keys_rise 0 u v h b);
    goals_below = λ v h.
        let b : v < vertex_count n table n = omega (arith, last) in
        omega (arith, own_goal q n S table v b, state_at n v (λ w. w.goal) (λ i. key_goal n table i A.table.some) A.goals_below b);
    goals_ascend = λ u v h k.
        let b : v < vertex_count n table n = omega (arith, last) in
        omega (arith, own_goal q n S table u (omega arith), own_goal q n S table v b, keys_rise n u v h b);
    from_below = λ t k h b.
        let F = edge_at t k h b in
        omega (arith, ap (λ (e : Edge). e.from) F.is, vertex_below n table t F.at F.below, vc t (omega (arith, deep h)));
    symbol_below = λ t k h b.
        let F = edge_at t k h b in
        let s = A.symbols_below (word_at table F.at) (word_in table F.at F.below) t (deep h) in
        omega (arith, ap (λ (e : Edge). e.symbol) F.is);
    to_below = λ t k h b.
        let F = edge_at t k h b in
        omega (arith, ap (λ (e : Edge). e.to) F.is, vertex_below n table (suc t) F.at F.below, vc (suc t) (deep h));
    edges_ascend = λ t j k h a b.
        let m : k < edge_count n table t = omega (arith, ec t (deep h)) in
        subst (λ (e : Edge). EdgeBefore e (step_edge l t k)) (sym (edge_is t j (deep h) (omega arith)))
        (subst (λ (e : Edge). EdgeBefore (get_or (edges_at n table t) j (edge 0 0 0)) e) (sym (edge_is t k (deep h) m))
        (lower_yes _ _ _ _ _ _ (edges_rise t j k a m)));
    onward = λ t v h b.
        let F = vertex_word t v (omega (arith, vc t (omega (arith, deep h)))) in
        let w = (edge_place t F.at (deep h) F.below).0 in
        record { at = w.at; below = omega (arith, w.below, ec t (deep h)); is = w.is ∙ sym F.is };
    inward = λ t v h b.
        let F = vertex_word (suc t) v (omega (arith, vc (suc t) (deep h))) in
        let w = (edge_place t F.at (deep h) F.below).1 in
        record { at = w.at; below = omega (arith, w.below, ec t (deep h)); is = w.is ∙ sym F.is };
    forward = λ t j k h a b d e.
        let i : t < n_of l = omega arith in
        let F = edge_at t j i a in
        let E = edge_at t k i b in
        ap (λ (x : Edge). x.to) F.is
        ∙ forward_one n table A.table (vertex_of n table) O t F.at E.at (deep h) F.below E.below
        (sym (ap (λ (x : Edge). x.from) F.is) ∙ d ∙ ap (λ (x : Edge). x.from) E.is)
        (sym (ap (λ (x : Edge). x.symbol) F.is) ∙ e ∙ ap (λ (x : Edge). x.symbol) E.is)
        ∙ sym (ap (λ (x : Edge). x.to) E.is);
    backward = λ t j k p h a b d e.
        let F = edge_at t j h a in
        let E = edge_at t k h b in
        ap (λ (x : Edge). x.from) F.is
        ∙ backward_one n table A.table (vertex_of n table) O t F.at E.at p (deep h) F.below E.below
        (sym (ap (λ (x : Edge). x.to) F.is) ∙ d ∙ ap (λ (x : Edge). x.to) E.is)
        (sym (ap (λ (x : Edge). x.symbol) F.is) ∙ e ∙ ap (λ (x : Edge). x.symbol) E.is)
        ∙ sym (ap (λ (x : Edge). x.from) E.is);
  }

  pub own_usable : usable (section_of q n S table) ≡ true
  own_usable = sound_usable (section_of q n S table) own_sound
