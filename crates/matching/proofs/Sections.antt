-- A usable section is neat, and its words are those of its routes from depth 0 to depth n. So of two usable sections with the same words
-- each follows the other: what carries a route's word there has the same symbols, because a label tells its symbols.
use mathlib.Core.Path.{◌≡◌, refl, sym, ap, subst, ◌∙◌}
use mathlib.Core.List.Memᴰ
use mathlib.Core.List.{List, map}
use Prim.Native.Nat.{ℕ, zero, suc, ◌+◌, ◌*◌, ◌≤◌, ◌<◌}
use native.Mathlib.Omega.{arith}
use native.Mathlib.Nat.{zero-add}
use native.Mathlib.Decide.{dec_lt}
use lib.ListN.{length}
use Rattle.trellis.specs.Lists.{◌∈◌, run, each}
use Rattle.trellis.specs.Word.{Word, word}
use Rattle.trellis.specs.Own.{Edge, edge}
use Rattle.trellis.specs.Section.{paths_from, pack_onto, word_of, words_of}
use Rattle.trellis.specs.Layout.{n_of, vertex_count_of, edge_count_of, edges_before, root_state, goal_state, edge_number, step_edges, section_words}
use Rattle.trellis.proofs.Lists.{in_run, in_each, length_run}
use Rattle.paths.proofs.Ordered.{in_flat_map}
use Rattle.section_file.specs.Usable.{step_edge}
use Rattle.section_file.specs.Inner.Sound.{Sound}
use Rattle.section_file.proofs.Words.{edge_from, Read, read_of}
use Rattle.section_file.proofs.OwnWords.{in_paths, Walk, walk_of}
use Rattle.matching.proofs.Routes.{Shape, Goes, Neat, stands}
use Rattle.matching.proofs.Matches.{Twin, Follows}

abbrev pub shape_of : List ℕ → Shape
shape_of l = record { count = vertex_count_of l; edges = step_edges l; root_of = root_state l; goal_of = goal_state l }

pub edges_long : (l : List ℕ) (t : ℕ) → length (step_edges l t) ≡ edge_count_of l t
unfolding step_edges
edges_long l t = length_run (edge_number l) (edges_before l t) (edge_count_of l t)

-- values that ascend strictly are told apart
apart : (f : ℕ → ℕ) (count : ℕ) → ((u v : ℕ) → u < v → v < count → f u < f v) → (u v : ℕ) → u < count → v < count → f u ≡ f v → u ≡ v
apart f count h u v a b e = go (dec_lt u v) (dec_lt v u)
  where
    go : Dec (u < v) → Dec (v < u) → u ≡ v
    go (yes p) q = absurd (omega (arith, h u v p b))
    go (no p) (yes q) = absurd (omega (arith, h v u q a))
    go (no p) (no q) = omega arith

-- ---- neat

module _ {l : List ℕ} (s : Sound l) where
  edge_listed : (t k : ℕ) → k < edge_count_of l t → step_edge l t k ∈ step_edges l t
  unfolding step_edges step_edge
  edge_listed t k h = in_run (edge_number l) (edges_before l t) (edge_count_of l t) k _ h refl

  pub neat : Neat (n_of l) (shape_of l)
  neat = record {
    some = s.n_from;
    from_low = λ t h e m.
        let E = edge_from s t e m in
        omega (arith, ap (λ (x : Edge). x.from) E.is, s.from_below t E.at h E.below);
    to_low = λ t h e m.
        let E = edge_from s t e m in
        omega (arith, ap (λ (x : Edge). x.to) E.is, s.to_below t E.at h E.below);
    onward = λ t v h b. let H = s.onward t v h b in record {
      by = (step_edge l t H.at).symbol;
      to = (step_edge l t H.at).to;
      listed = Memᴰ.cast (λ i. edge (sym H.is i) (step_edge l t H.at).symbol (step_edge l t H.at).to)
          (edge_listed t H.at H.below);
    };
    inward = λ t v h b. let H = s.inward t v h b in record {
      from = (step_edge l t H.at).from;
      by = (step_edge l t H.at).symbol;
      listed = Memᴰ.cast (λ i. edge (step_edge l t H.at).from (step_edge l t H.at).symbol (sym H.is i))
          (edge_listed t H.at H.below);
    };
    forward = λ t x a y z h m k.
        let E = edge_from s t (edge x a y) m in
        let F = edge_from s t (edge x a z) k in
        ap (λ (e : Edge). e.to) E.is
        ∙ s.forward t E.at F.at h E.below F.below
        (sym (ap (λ (e : Edge). e.from) E.is) ∙ ap (λ (e : Edge). e.from) F.is)
        (sym (ap (λ (e : Edge). e.symbol) E.is) ∙ ap (λ (e : Edge). e.symbol) F.is)
        ∙ sym (ap (λ (e : Edge). e.to) F.is);
    backward = λ t x y a z p h m k.
        let E = edge_from s t (edge x a z) m in
        let F = edge_from s t (edge y a z) k in
        ap (λ (e : Edge). e.from) E.is
        ∙ s.backward t E.at F.at p h E.below F.below
        (sym (ap (λ (e : Edge). e.to) E.is) ∙ ap (λ (e : Edge). e.to) F.is)
        (sym (ap (λ (e : Edge). e.symbol) E.is) ∙ ap (λ (e : Edge). e.symbol) F.is)
        ∙ sym (ap (λ (e : Edge). e.from) F.is);
    roots_one = apart (root_state l) (vertex_count_of l 0) s.roots_ascend;
    goals_one = apart (goal_state l) (vertex_count_of l (n_of l)) s.goals_ascend;
  }

  -- symbols of a route are digits
  digit : {n : ℕ} {x a : ℕ → ℕ} → n_of l ≡ n → Goes (shape_of l) 0 n x a → (u : ℕ) → u < n → a u < 4
  digit {n} {x} {a} e P u h =
      let E = edge_from s u (edge (x u) (a u) (x (suc u))) (P.takes u (omega arith) h) in
      omega (arith, ap (λ (f : Edge). f.symbol) E.is, s.symbol_below u E.at (omega arith) E.below, s.q_to)

-- ---- labels tell symbols

record Unpacked (a b : ℕ → ℕ) (k t x y : ℕ) : Type 0 where
  start : x ≡ y
  same : (u : ℕ) → t ≤ u → u < t + k → a u ≡ b u

unpacked : (a b : ℕ → ℕ) (k t x y : ℕ) → ((u : ℕ) → t ≤ u → u < t + k → a u < 4) → ((u : ℕ) → t ≤ u → u < t + k → b u < 4)
    → pack_onto x (run a t k) ≡ pack_onto y (run b t k) → Unpacked a b k t x y
unfolding pack_onto run
unpacked a b zero t x y f g e = record { start = e; same = λ u h k. absurd (omega arith) }
unpacked a b (suc k) t x y f g e =
    go (unpacked a b k (suc t) (x * 4 + a t) (y * 4 + b t) (λ u h j. f u (omega arith) (omega arith))
    (λ u h j. g u (omega arith) (omega arith)) e)
  where
    go : Unpacked a b k (suc t) (x * 4 + a t) (y * 4 + b t) → Unpacked a b (suc k) t x y
    go r =
        let p = f t (omega arith) (omega arith) in
        let q = g t (omega arith) (omega arith) in
        let d = r.start in
        let here : a t ≡ b t = omega arith in
        record { start = omega arith; same = λ u h j. at u h j here (dec_lt t u) }
      where
        at : (u : ℕ) → t ≤ u → u < t + suc k → a t ≡ b t → Dec (t < u) → a u ≡ b u
        at u h j e (yes d) = r.same u d (omega arith)
        at u h j e (no d) = let i : t ≡ u = omega arith in subst (λ v. a v ≡ b v) i e

-- ---- words

-- a route of n steps and its word
pub record Route (n : ℕ) (l : List ℕ) (w : Word) : Type 0 where
  pub x : ℕ → ℕ
  pub a : ℕ → ℕ
  pub goes : Goes (shape_of l) 0 n x a
  pub is : w ≡ word (root_state l (x 0)) (pack_onto 0 (run a 0 n)) (goal_state l (x n))

module _ {l : List ℕ} (s : Sound l) where
  pub routed : {n : ℕ} → n_of l ≡ n → (w : Word) → w ∈ section_words l → Route n l w
  routed {n} e w m = subst (λ k. Route k l w) e (here (read_of s w m))
    where
      here : Read s w → Route (n_of l) l w
      here R = by (walk_of (step_edges l) (n_of l) 0 R.vertex R.path R.listed)
        where
          by : Walk (step_edges l) (n_of l) 0 R.vertex R.path → Route (n_of l) l w
          by K = record {
            x = K.x;
            a = K.a;
            goes = record { takes = λ u b c. K.takes u b (omega (arith, zero-add (n_of l))) };
            is = R.is ∙ λ i. word (root_state l (sym K.start i)) (pack_onto 0 (sym K.spells i))
                (goal_state l (sym (ap K.x (sym (zero-add (n_of l))) ∙ K.stops) i));
          }

  pub word_on : {n : ℕ} {x a : ℕ → ℕ} → n_of l ≡ n → Goes (shape_of l) 0 n x a
      → word (root_state l (x 0)) (pack_onto 0 (run a 0 n)) (goal_state l (x n)) ∈ section_words l
  unfolding section_words words_of word_of
  word_on {n} {x} {a} e P =
      let Q : Goes (shape_of l) 0 (n_of l) x a = subst (λ k. Goes (shape_of l) 0 k x a) (sym e) P in
      let p = in_paths (step_edges l) x a n 0 (λ u b c. P.takes u b (omega (arith, zero-add n))) in
      in_flat_map (λ v. map (word_of (root_state l) (goal_state l) v) (paths_from (step_edges l) (n_of l) 0 v))
      (each (λ v. v) (vertex_count_of l 0)) _ (x 0)
      (in_each (λ v. v) (vertex_count_of l 0) (x 0) (x 0) (stands (neat s) Q 0 (omega arith)) refl)
      (Memᴰ.cast (λ i. word (root_state l (x 0)) (pack_onto 0 (run a 0 n)) (goal_state l (x (sym (zero-add n) i))))
      (Memᴰ.map (word_of (root_state l) (goal_state l) (x 0))
      (subst (λ k. record { symbols = run a 0 n; end = x (0 + n) } ∈ paths_from (step_edges l) k 0 (x 0)) (sym e) p)))

module _ {l m : List ℕ} (s : Sound l) (r : Sound m) {n : ℕ} (e : n_of l ≡ n) (d : n_of m ≡ n) where
  pub follows : ((w : Word) → w ∈ section_words l → w ∈ section_words m) → Follows n (shape_of l) (shape_of m)
  follows f = record { twin = λ x a P. by x a P (routed r d _ (f _ (word_on s e P))) }
    where
      by : (x a : ℕ → ℕ) → Goes (shape_of l) 0 n x a
          → Route n m (word (root_state l (x 0)) (pack_onto 0 (run a 0 n)) (goal_state l (x n))) → Twin n (shape_of l) (shape_of m) x a
      by x a P R = record {
        y = R.x;
        goes = record { takes = λ u b c. Memᴰ.cast (λ i. edge (R.x u) (same u c i) (R.x (suc u))) (R.goes.takes u b c) };
        root = sym (ap (λ (w : Word). w.root) R.is);
        goal = sym (ap (λ (w : Word). w.goal) R.is);
      }
        where
          same : (u : ℕ) → u < n → a u ≡ R.a u
          same u h = (unpacked a R.a n 0 0 0 (λ v b c. digit s e P v (omega (arith, zero-add n)))
              (λ v b c. digit r d R.goes v (omega (arith, zero-add n)))
              (ap (λ (w : Word). w.label) R.is)).same u (omega arith) (omega (arith, zero-add n))
