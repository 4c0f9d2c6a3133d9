-- The words of a section are its beginnings up to depth n, and beginnings as numbers can be read again. From depth t on a beginning stands
-- for all words that go on from it, in their order; going one step further only splits them up by their next edge, so the list of words
-- stays the same. In a usable section every vertex has an edge onward, so there are no fewer beginnings at a later depth.
use mathlib.Core.Path.{◌≡◌, refl, sym, ap, ap₂, subst, ◌∙◌}
use mathlib.Core.List.Memᴰ
use mathlib.Core.List.{List, [], ◌∷◌, map, map-map, flat_map}
use Prim.Native.Nat.{ℕ, zero, suc, ◌+◌, ◌*◌, ◌^◌, ◌≤◌, ◌<◌}
use native.Mathlib.Omega.{arith}
use native.Mathlib.Nat.{add-zero, pow-suc, pow-le-pow_right}
use lib.Dec.{lit<, eqb}
use lib.ListN.{length, length-map}
use borrow.Author.Tests.{eq-eqb}
use Rattle.trellis.specs.Bounds.{most_states, most_words, most_symbols}
use Rattle.trellis.specs.Lists.{◌∈◌, each}
use Rattle.trellis.specs.Word.{Word, word}
use Rattle.trellis.specs.Own.{Edge}
use Rattle.trellis.specs.Section.{along, leaving, paths_from, pack_onto, word_of, words_of}
use Rattle.trellis.specs.Layout.{n_of, vertex_count_of, edge_count_of, edges_before, root_state, goal_state, edge_number, step_edges, section_words}
use Rattle.trellis.proofs.Lists.{of_each, in_run, flat_map_map}
use Rattle.packed.specs.Inner.Packed.{appended}
use Rattle.packed.proofs.Appending.{appended_is}
use Rattle.paths.proofs.Ordered.{of_flat_map, in_keep}
use Rattle.paths.proofs.Sections.{listed_of}
use Rattle.section_file.specs.Usable.{step_edge}
use Rattle.section_file.specs.Inner.Sound.{Sound}
use Rattle.section_file.proofs.Words.{edge_from}
use Rattle.whole_section.proofs.Lists.{map_same, flat_map_same, flat_map_one, flat_map_more, map_flat_map, flat_map_flat_map}
use Rattle.codes.specs.Inner.Codes.{code, code_root, code_vertex, code_label, further_code, grown_codes}
use Rattle.gathering.specs.Inner.Levels.{Begun, begun, further, grown, finished, level, coded}

-- ---- words

-- the words that go on from a beginning, with k steps left
abbrev goes_on : (ℕ → List Edge) → (ℕ → ℕ) → ℕ → ℕ → Begun → List Word
goes_on edges goal_of k t b = map (λ p. word b.root (pack_onto b.label p.symbols) (goal_of p.end)) (paths_from edges k t b.vertex)

step_on : (edges : ℕ → List Edge) (goal_of : ℕ → ℕ) (k t : ℕ) (b : Begun)
    → goes_on edges goal_of (suc k) t b ≡ flat_map (goes_on edges goal_of k (suc t)) (grown (edges t) b)
unfolding paths_from pack_onto
step_on edges goal_of k t b =
    map_flat_map _ (λ e. map (along e) (paths_from edges k (suc t) e.to)) (leaving b.vertex (edges t))
    ∙ flat_map_same _ _ (leaving b.vertex (edges t)) (λ e m. map-map _ (along e) (paths_from edges k (suc t) e.to))
    ∙ sym (flat_map_map (goes_on edges goal_of k (suc t)) (further b) (leaving b.vertex (edges t)))

module _ (l : List ℕ) where
  words_from : (t k : ℕ) → t + k ≡ n_of l → section_words l ≡ flat_map (goes_on (step_edges l) (goal_state l) k t) (level l t)
  unfolding section_words words_of word_of level pack_onto
  words_from zero k h =
      let e : n_of l ≡ k = omega arith in
      sym (flat_map_map (goes_on (step_edges l) (goal_state l) k 0) (λ v. begun (root_state l v) 0 v) (each (λ v. v) (vertex_count_of l 0))
      ∙ ap (λ n. flat_map (λ v. map (λ p. word (root_state l v) (pack_onto 0 p.symbols) (goal_state l p.end))
      (paths_from (step_edges l) n 0 v)) (each (λ v. v) (vertex_count_of l 0))) (sym e))
  words_from (suc t) k h =
      words_from t (suc k) (omega arith)
      ∙ flat_map_same _ _ (level l t) (λ b m. step_on (step_edges l) (goal_state l) k t b)
      ∙ sym (flat_map_flat_map (goes_on (step_edges l) (goal_state l) k (suc t)) (grown (step_edges l t)) (level l t))

  pub words_are : section_words l ≡ map (finished (goal_state l)) (level l (n_of l))
  unfolding paths_from pack_onto
  words_are = words_from (n_of l) 0 (add-zero (n_of l)) ∙ flat_map_one (finished (goal_state l)) (level l (n_of l))

  pub words_count : length (section_words l) ≡ length (level l (n_of l))
  words_count = ap length words_are ∙ length-map (level l (n_of l)) (finished (goal_state l))

-- ---- bounds

pub record Fit (l : List ℕ) (t : ℕ) (b : Begun) : Type 0 where
  pub root_small : b.root < most_states
  pub label_short : b.label < 4 ^ t
  pub vertex_below : b.vertex < vertex_count_of l t

module _ {l : List ℕ} (s : Sound l) where
  pub level_fits : (t : ℕ) → t ≤ n_of l → (b : Begun) → b ∈ level l t → Fit l t b
  unfolding level
  level_fits zero h b m =
      let x = Memᴰ.of_map (λ v. begun (root_state l v) 0 v) (each (λ v. v) (vertex_count_of l 0)) m in
      let F = of_each (λ v. v) (vertex_count_of l 0) x.0 x.1 in
      let below : x.0 < vertex_count_of l 0 = omega (arith, F.is, F.below) in
      subst (Fit l 0) x.2
      (record { root_small = omega (arith, s.roots_below x.0 below, s.states_to); label_short = lit< tt; vertex_below = below })
  level_fits (suc t) h b m =
      let z = of_flat_map (grown (step_edges l t)) (level l t) b m in
      let p = z.source in
      let F = level_fits t (omega arith) p z.listed in
      let x = Memᴰ.of_map (further p) (leaving p.vertex (step_edges l t)) z.holds in
      let e = x.0 in
      let E = edge_from s t e (listed_of p.vertex (step_edges l t) e x.1) in
      let a : e.symbol < 4 = omega (arith, s.symbol_below t E.at h E.below, s.q_to, ap (λ (g : Edge). g.symbol) E.is) in
      let v : e.to < vertex_count_of l (suc t) =
      subst (λ (g : Edge). g.to < vertex_count_of l (suc t)) (sym E.is) (s.to_below t E.at h E.below) in
      subst (Fit l (suc t)) x.2
      (record { root_small = F.root_small; label_short = longer p.label e.symbol F.label_short a; vertex_below = v })
    where
      longer : (x a : ℕ) → x < 4 ^ t → a < 4 → x * 4 + a < 4 ^ suc t
      longer x a h k = rw pow-suc (omega arith)

  -- every vertex has an edge onward
  edge_on : (t v : ℕ) → t < n_of l → v < vertex_count_of l t → 1 ≤ length (leaving v (step_edges l t))
  unfolding leaving step_edges step_edge
  edge_on t v h b =
      let w = s.onward t v h b in
      let m : step_edge l t w.at ∈ step_edges l t = in_run (edge_number l) (edges_before l t) (edge_count_of l t) w.at _ w.below refl in
      some (leaving v (step_edges l t))
      (in_keep (λ e. eqb e.from v) (step_edges l t) (step_edge l t w.at) m (eq-eqb (step_edge l t w.at).from v w.is))
    where
      some : {e : Edge} (es : List Edge) → e ∈ es → 1 ≤ length es
      some [] m = absurd (Memᴰ.not-nil m)
      some (f ∷ es) m = omega arith

  level_more : (t : ℕ) → t < n_of l → length (level l t) ≤ length (level l (suc t))
  unfolding level
  level_more t h = flat_map_more (grown (step_edges l t)) (level l t)
      (λ b m. rw (length-map (leaving b.vertex (step_edges l t)) (further b))
      (edge_on t b.vertex h (level_fits t (omega arith) b m).vertex_below))

  pub levels_rise : (k t : ℕ) → t + k ≡ n_of l → length (level l t) ≤ length (level l (n_of l))
  levels_rise zero t h = let e : t ≡ n_of l = omega arith in rw e (omega arith)
  levels_rise (suc k) t h = omega (arith, level_more t (omega arith), levels_rise k (suc t) (omega arith))

-- ---- numbers

module _ (b : Begun) (v : b.vertex < most_words) (x : b.label < 65536) where
  pub root_coded : code_root (coded b) ≡ b.root
  root_coded = omega arith

  pub vertex_coded : code_vertex (coded b) ≡ b.vertex
  vertex_coded = omega arith

  pub label_coded : code_label (coded b) ≡ b.label
  label_coded = omega arith

label_small : (t : ℕ) {x : ℕ} → t ≤ most_symbols → x < 4 ^ t → x < 65536
label_small t h k = let e : 4 ^ t ≤ 4 ^ 8 = pow-le-pow_right (lit< tt) h in omega arith

module _ {l : List ℕ} (s : Sound l) (t : ℕ) where
  pub fit_vertex : {b : Begun} → t ≤ n_of l → Fit l t b → b.vertex < most_words
  fit_vertex h F = omega (arith, F.vertex_below, s.vertices_to t h)

  pub fit_label : {b : Begun} → t ≤ n_of l → Fit l t b → b.label < 65536
  fit_label h F = label_small t (omega (arith, s.n_to)) F.label_short

  module _ (h : t < n_of l) where
    further_coded : (b : Begun) (e : Edge) → Fit l t b → e.symbol < 4 → further_code (coded b) e ≡ coded (further b e)
    further_coded b e F a =
        let v = fit_vertex (omega arith) F in
        let x = fit_label (omega arith) F in
        ap₂ (λ r y. code r e.to (appended y e.symbol)) (root_coded b v x) (label_coded b v x)
        ∙ ap (code b.root e.to) (appended_is t b.label e.symbol F.label_short (omega (arith, s.n_to)) a)

    grown_coded : (b : Begun) → Fit l t b → grown_codes (step_edges l t) (coded b) ≡ map coded (grown (step_edges l t) b)
    grown_coded b F =
        ap (λ v. map (further_code (coded b)) (leaving v (step_edges l t)))
        (vertex_coded b (fit_vertex (omega arith) F) (fit_label (omega arith) F))
        ∙ map_same (further_code (coded b)) (λ e. coded (further b e)) (leaving b.vertex (step_edges l t))
        (λ e m. further_coded b e F (small e m))
        ∙ sym (map-map coded (further b) (leaving b.vertex (step_edges l t)))
      where
        small : (e : Edge) → e ∈ leaving b.vertex (step_edges l t) → e.symbol < 4
        small e m =
            let E = edge_from s t e (listed_of b.vertex (step_edges l t) e m) in
            omega (arith, s.symbol_below t E.at h E.below, s.q_to, ap (λ (g : Edge). g.symbol) E.is)

    -- the next depth, as numbers
    pub level_coded : flat_map (grown_codes (step_edges l t)) (map coded (level l t)) ≡ map coded (level l (suc t))
    unfolding level
    level_coded =
        flat_map_map (grown_codes (step_edges l t)) coded (level l t)
        ∙ flat_map_same _ _ (level l t) (λ b m. grown_coded b (level_fits s t (omega arith) b m))
        ∙ sym (map_flat_map coded (grown (step_edges l t)) (level l t))
