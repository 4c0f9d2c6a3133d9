-- The words of a usable section, read off its paths, ascend strictly, so that each is on one path only; and they are words of n symbols.
-- Its edges ascend and one symbol leads from a vertex to one inner vertex only, which is what the law of ordered paths asks; and its end
-- states ascend.
use mathlib.Core.Path.{◌≡◌, sym, ap, subst, ◌∙◌}
use mathlib.Core.Bool.{Bool}
use mathlib.Core.List.Memᴰ
use mathlib.Core.List.{List, map}
use Prim.Native.Nat.{ℕ, zero, suc, ◌+◌, ◌*◌, ◌^◌, ◌≤◌, ◌<◌}
use native.Mathlib.Omega.{arith}
use native.Mathlib.Nat.{add-zero, zero-add, pow-succ', mul_assoc}
use lib.Dec.{T}
use Rattle.trellis.specs.Lists.{◌∈◌, run, each}
use Rattle.trellis.specs.Word.{Word, word, Before}
use Rattle.trellis.specs.Own.{Edge, edge_less}
use Rattle.trellis.specs.Section.{Path, paths_from, pack_onto, word_of, words_of}
use Rattle.trellis.specs.Layout.{n_of, states_of, vertex_count_of, edge_count_of, edges_before, root_state, goal_state}
use Rattle.trellis.specs.Layout.{edge_number, step_edges, section_words}
use Rattle.trellis.proofs.Lists.{From, of_run, of_each}
use Rattle.trellis.proofs.Ascending.{Ascends}
use Rattle.trellis.proofs.ThreeNumbers.{lower_of}
use Rattle.paths.proofs.Ordered.{of_flat_map, run_ordered}
use Rattle.paths.specs.Inner.Ordered.{Ordered}
use Rattle.paths.proofs.Ascent.{Orderly, Symbols, no_more, one_more, Bounded, PathFits}
use Rattle.paths.proofs.Words.{whole_fits, words_ordered}
use Rattle.section_file.specs.Usable.{step_edge}
use Rattle.section_file.specs.Inner.Sound.{Sound}

-- ---- runs in order

run_ascends : {A : Type 0} (less : A → A → Bool) (f : ℕ → A) (at count : ℕ)
    → ((j k : ℕ) → j < k → k < count → T (less (f (at + j)) (f (at + k)))) → Ascends less (run f at count)
unfolding run
run_ascends less f at zero h = tt
run_ascends {A} less f at (suc count) h = (
  first,
  run_ascends less f (suc at) count (λ j k a b.
      subst (λ x. T (less (f x) (f (suc at + k)))) (shift j)
      (subst (λ x. T (less (f (at + suc j)) (f x))) (shift k) (h (suc j) (suc k) (omega arith) (omega arith)))),
)
  where
    shift : (k : ℕ) → at + suc k ≡ suc at + k
    shift k = omega arith

    first : (y : A) → y ∈ run f (suc at) count → T (less (f at) y)
    first y m =
        let F = of_run f (suc at) count y m in
        subst (λ x. T (less x y)) (ap f (add-zero at))
        (subst (λ x. T (less (f (at + 0)) x)) (ap f (shift F.at) ∙ sym F.is)
        (h 0 (suc F.at) (omega arith) (omega (arith, F.below))))

-- ---- labels of n symbols

pack_short : {n : ℕ} {us : List ℕ} → Symbols n us → (x : ℕ) → pack_onto x us < (x + 1) * 4 ^ n
unfolding pack_onto
pack_short no_more x = omega arith
pack_short {n} (one_more {n = m} {a = a} {rest = us} p s) x = go (pack_short s (x * 4 + a))
  where
    go : pack_onto (x * 4 + a) us < (x * 4 + a + 1) * 4 ^ m → pack_onto (x * 4 + a) us < (x + 1) * 4 ^ suc m
    go h =
        let e = pow-succ' 4 m in
        let q : (x + 1) * 4 ^ suc m ≡ (x * 4 + 4) * 4 ^ m = rw e (rw (← mul_assoc) (ap (λ k. k * 4 ^ m) (omega arith))) in
        rw q (more (x * 4 + a + 1) (x * 4 + 4) (4 ^ m) (omega arith) h)
      where
        more : (b d z : ℕ) → b ≤ d → pack_onto (x * 4 + a) us < b * z → pack_onto (x * 4 + a) us < d * z
        more b d z h k = omega (arith, native.Mathlib.Nat.mul-le-mul_right z h)

-- ---- the section

module _ {l : List ℕ} (s : Sound l) where
  -- an edge of a step, by its number
  pub edge_from : (t : ℕ) (e : Edge) → e ∈ step_edges l t → From (step_edge l t) (edge_count_of l t) e
  unfolding step_edges step_edge
  edge_from t e m = of_run (edge_number l) (edges_before l t) (edge_count_of l t) e m

  pub steps_ascend : (t : ℕ) → t < n_of l → Ascends edge_less (step_edges l t)
  unfolding step_edges step_edge
  steps_ascend t h =
      run_ascends edge_less (edge_number l) (edges_before l t) (edge_count_of l t) (λ j k a b. lower_of _ _ _ _ _ _ (s.edges_ascend t j k h a b))

  pub orderly : Orderly (step_edges l) (n_of l)
  orderly = record {
    ascend = steps_ascend;
    single = λ t h e f m k p q.
        let E = edge_from t e m in
        let F = edge_from t f k in
        let a : (step_edge l t E.at).from ≡ (step_edge l t F.at).from =
        sym (ap (λ (x : Edge). x.from) E.is) ∙ p ∙ ap (λ (x : Edge). x.from) F.is in
        let b : (step_edge l t E.at).symbol ≡ (step_edge l t F.at).symbol =
        sym (ap (λ (x : Edge). x.symbol) E.is) ∙ q ∙ ap (λ (x : Edge). x.symbol) F.is in
        ap (λ (x : Edge). x.to) E.is ∙ s.forward t E.at F.at h E.below F.below a b
        ∙ sym (ap (λ (x : Edge). x.to) F.is);
  }

  pub bounded : Bounded (step_edges l) (n_of l) (vertex_count_of l (n_of l))
  bounded = record {
    symbol_lt = λ t h e m.
        let E = edge_from t e m in
        omega (arith, s.symbol_below t E.at h E.below, s.q_to, ap (λ (x : Edge). x.symbol) E.is);
    goal_lt = λ t h e m.
        let E = edge_from t e m in
        let b = s.to_below t E.at (omega arith) E.below in
        subst (λ u. e.to < vertex_count_of l u) h (subst (λ (x : Edge). x.to < vertex_count_of l (suc t)) (sym E.is) b);
  }

  pub words_ascend : Ordered Before (section_words l)
  unfolding section_words
  words_ascend =
      words_ordered (step_edges l) (n_of l) (vertex_count_of l (n_of l)) bounded s.n_from orderly (root_state l) (goal_state l) s.goals_ascend
      (each (λ v. v) (vertex_count_of l 0))
      (run_ordered (λ v. v) 0 (vertex_count_of l 0) (λ j k a b. s.roots_ascend j k a (omega (arith, zero-add (vertex_count_of l 0)))))

  -- a word of the section, with its root vertex and its path
  pub record Read (w : Word) : Type 0 where
    pub vertex : ℕ
    pub below : vertex < vertex_count_of l 0
    pub path : Path
    pub listed : path ∈ paths_from (step_edges l) (n_of l) 0 vertex
    pub fits : PathFits (n_of l) (vertex_count_of l (n_of l)) path
    pub is : w ≡ word (root_state l vertex) (pack_onto 0 path.symbols) (goal_state l path.end)

  pub read_of : (w : Word) → w ∈ section_words l → Read w
  unfolding section_words words_of word_of
  read_of w m =
      let z =
      of_flat_map (λ v. map (word_of (root_state l) (goal_state l) v) (paths_from (step_edges l) (n_of l) 0 v))
      (each (λ v. v) (vertex_count_of l 0)) w m in
      let F = of_each (λ v. v) (vertex_count_of l 0) z.source z.listed in
      let x = Memᴰ.of_map (word_of (root_state l) (goal_state l) z.source) (paths_from (step_edges l) (n_of l) 0 z.source) z.holds in
      record {
        vertex = z.source;
        below = omega (arith, F.is, F.below);
        path = x.0;
        listed = x.1;
        fits = whole_fits (step_edges l) (n_of l) (vertex_count_of l (n_of l)) bounded s.n_from z.source x.0 x.1;
        is = sym x.2;
      }

  pub root_below : (w : Word) → w ∈ section_words l → w.root < states_of l
  root_below w m = let r = read_of w m in omega (arith, ap (λ (v : Word). v.root) r.is, s.roots_below r.vertex r.below)

  pub goal_below : (w : Word) → w ∈ section_words l → w.goal < states_of l
  goal_below w m =
      let r = read_of w m in
      omega (arith, ap (λ (v : Word). v.goal) r.is, s.goals_below r.path.end r.fits.end_fits)

  pub label_short : (w : Word) → w ∈ section_words l → w.label < 4 ^ n_of l
  label_short w m =
      let r = read_of w m in
      omega (arith, ap (λ (v : Word). v.label) r.is, pack_short r.fits.symbols_fit 0)
