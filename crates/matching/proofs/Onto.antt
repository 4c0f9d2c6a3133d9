-- What carries the edges of one usable section to those of another that has as many vertices and edges meets them all, so words come back
-- too. Let f do so. It takes no two roots to one, for it keeps their states, which tell them apart. If f takes no two vertices of depth t
-- to one, then no two edges of step t are carried to one: where an edge ends is told by its start and its symbol, and at depth n by the end
-- state, which f keeps. There being as many edges, every edge there is a carried one. Every vertex of depth t + 1 has an edge inward, so f
-- meets it; and there being as many vertices, f takes no two of them to one. So there is a way back from each vertex, and it carries edges
-- to edges again.
use mathlib.Core.Path.{◌≡◌, sym, ap, subst, ◌∙◌}
use mathlib.Core.List.Memᴰ
use mathlib.Core.List.{List, map}
use Prim.Native.Nat.{ℕ, zero, suc, ◌≤◌, ◌<◌}
use native.Mathlib.Omega.{arith}
use native.Mathlib.Decide.{dec_lt}
use lib.ListN.{length, length-map}
use Rattle.trellis.specs.Lists.{◌∈◌, Once}
use Rattle.trellis.specs.Word.{Word}
use Rattle.trellis.specs.Own.{Edge, edge, edge_less}
use Rattle.trellis.specs.Layout.{n_of, vertex_count_of, edge_count_of, goal_state, step_edges, section_words}
use Rattle.trellis.proofs.Ascending.{once_of}
use Rattle.trellis.proofs.Distinct.{once_map}
use Rattle.trellis.proofs.Paths.{edge_eq, edges_order}
use Rattle.section_file.specs.Inner.Sound.{Hit, Sound}
use Rattle.section_file.proofs.Words.{steps_ascend}
use Rattle.matching.specs.Matching.{Carrying, carried}
use Rattle.matching.proofs.Routes.{Shape, Neat}
use Rattle.matching.proofs.Matches.{Carries}
use Rattle.matching.proofs.Sections.{shape_of, edges_long, neat}
use Rattle.matching.proofs.Counting.{onto_apart, edges_all, back_of, goes_back}
use Rattle.matching.proofs.Carried.{carried_words}

-- E has as many vertices at each depth as D and no more edges at each step, and no edge of D stands twice
record AsMany (n : ℕ) (D E : Shape) : Type 0 where
  vertices : (t : ℕ) → t ≤ n → E.count t ≡ D.count t
  edges : (t : ℕ) → t < n → length (E.edges t) ≤ length (D.edges t)
  once : (t : ℕ) → t < n → Once (D.edges t)

-- f takes no two numbers below count to one
record Apart (f : ℕ → ℕ) (count : ℕ) : Type 0 where
  one : (u v : ℕ) → u < count → v < count → f u ≡ f v → u ≡ v

-- an edge of step t that is carried to e
record Source (D : Shape) (f : ℕ → ℕ → ℕ) (t : ℕ) (e : Edge) : Type 0 where
  this : Edge
  listed : this ∈ D.edges t
  from : f t this.from ≡ e.from
  symbol : this.symbol ≡ e.symbol
  to : f (suc t) this.to ≡ e.to

module _ {n : ℕ} {D E : Shape} (N : Neat n D) (M : Neat n E) {f : ℕ → ℕ → ℕ} (K : Carries n D E f) (C : AsMany n D E) where
  -- ---- one step

  ends_apart : (t : ℕ) → t < n → (d e : Edge) → d ∈ D.edges t → e ∈ D.edges t → d.from ≡ e.from → d.symbol ≡ e.symbol
      → f (suc t) d.to ≡ f (suc t) e.to → d.to ≡ e.to
  ends_apart t h d e m k p q r = go (dec_lt (suc t) n)
    where
      go : Dec (suc t < n) → d.to ≡ e.to
      go (yes i) = N.forward t d.from d.symbol d.to e.to i m (Memᴰ.cast (λ j. edge (p j) (q j) e.to) k)
      go (no i) =
          let s : suc t ≡ n = omega arith in
          let a : d.to < D.count n = subst (λ u. d.to < D.count u) s (N.to_low t h d m) in
          let b : e.to < D.count n = subst (λ u. e.to < D.count u) s (N.to_low t h e k) in
          let g : f n d.to ≡ f n e.to = subst (λ u. f u d.to ≡ f u e.to) s r in
          N.goals_one d.to e.to a b (sym (K.goals d.to a) ∙ ap E.goal_of g ∙ K.goals e.to b)

  edges_apart : (t : ℕ) → t < n → Apart (f t) (D.count t) → (d e : Edge) → d ∈ D.edges t → e ∈ D.edges t
      → carried f t d ≡ carried f t e → d ≡ e
  edges_apart t h A d e m k c =
      let p = A.one d.from e.from (N.from_low t h d m) (N.from_low t h e k) (ap (λ (x : Edge). x.from) c) in
      let q : d.symbol ≡ e.symbol = ap (λ (x : Edge). x.symbol) c in
      edge_eq p q (ends_apart t h d e m k p q (ap (λ (x : Edge). x.to) c))

  -- every edge there is a carried one
  source : (t : ℕ) → t < n → Apart (f t) (D.count t) → (e : Edge) → e ∈ E.edges t → Source D f t e
  source t h A e m =
      let z = Memᴰ.of_map (carried f t) (D.edges t) listed in
      record {
        this = z.0;
        listed = z.1;
        from = ap (λ (x : Edge). x.from) z.2;
        symbol = ap (λ (x : Edge). x.symbol) z.2;
        to = ap (λ (x : Edge). x.to) z.2;
      }
    where
      there : (x : Edge) → x ∈ map (carried f t) (D.edges t) → x ∈ E.edges t
      there x k =
          let z = Memᴰ.of_map (carried f t) (D.edges t) k in
          Memᴰ.cast (sym z.2) (K.edges t z.0.from z.0.symbol z.0.to h z.1)

      listed : e ∈ map (carried f t) (D.edges t)
      listed = edges_all (map (carried f t) (D.edges t)) (E.edges t)
          (once_map (carried f t) (D.edges t) (C.once t h) (edges_apart t h A)) there
          (omega (arith, C.edges t h, length-map (D.edges t) (carried f t))) e m

  met_next : (t w : ℕ) → t < n → Apart (f t) (D.count t) → w < E.count (suc t) → Hit (f (suc t)) (D.count (suc t)) w
  met_next t w h A b =
      let L = M.inward t w h b in
      let S = source t h A (edge L.from L.by w) L.listed in
      record { at = S.this.to; below = N.to_low t h S.this S.listed; is = S.to }

  -- ---- all depths

  apart : (t : ℕ) → t ≤ n → Apart (f t) (D.count t)
  apart zero h = record { one = λ u v a b e. N.roots_one u v a b (sym (K.roots u a) ∙ ap E.root_of e ∙ K.roots v b) }
  apart (suc t) h =
      let A = apart t (omega arith) in
      record { one = onto_apart (f (suc t)) (D.count (suc t)) (λ w b. met_next t w h A (omega (arith, C.vertices (suc t) h))) }

  met : (t w : ℕ) → t ≤ n → w < E.count t → Hit (f t) (D.count t) w
  met zero w h b =
      let L = M.onward 0 w M.some b in
      let S = source 0 M.some (apart 0 h) (edge w L.by L.to) L.listed in
      record { at = S.this.from; below = N.from_low 0 M.some S.this S.listed; is = S.from }
  met (suc t) w h b = met_next t w h (apart t (omega arith)) b

  -- ---- the way back

  abbrev back : ℕ → ℕ → ℕ
  back t = back_of (f t) (D.count t)

  back_low : (t w : ℕ) → t ≤ n → w < E.count t → back t w < D.count t
  back_low t w h b = (goes_back (met t w h b)).below

  back_is : (t w : ℕ) → t ≤ n → w < E.count t → f t (back t w) ≡ w
  back_is t w h b = (goes_back (met t w h b)).is

  back_root : (w : ℕ) → w < E.count 0 → D.root_of (back 0 w) ≡ E.root_of w
  back_root w b = sym (K.roots (back 0 w) (back_low 0 w (omega arith) b)) ∙ ap E.root_of (back_is 0 w (omega arith) b)

  back_goal : (w : ℕ) → w < E.count n → D.goal_of (back n w) ≡ E.goal_of w
  back_goal w b = sym (K.goals (back n w) (back_low n w (omega arith) b)) ∙ ap E.goal_of (back_is n w (omega arith) b)

  back_edge : (t x a y : ℕ) → t < n → edge x a y ∈ E.edges t → edge (back t x) a (back (suc t) y) ∈ D.edges t
  back_edge t x a y h m = by (source t h (apart t (omega arith)) (edge x a y) m)
    where
      by : Source D f t (edge x a y) → edge (back t x) a (back (suc t) y) ∈ D.edges t
      by S =
          let i = M.from_low t h (edge x a y) m in
          let j = M.to_low t h (edge x a y) m in
          let p : back t x ≡ S.this.from = (apart t (omega arith)).one (back t x) S.this.from (back_low t x (omega arith) i)
          (N.from_low t h S.this S.listed) (back_is t x (omega arith) i ∙ sym S.from) in
          let q : back (suc t) y ≡ S.this.to = (apart (suc t) h).one (back (suc t) y) S.this.to (back_low (suc t) y h j)
          (N.to_low t h S.this S.listed) (back_is (suc t) y h j ∙ sym S.to) in
          Memᴰ.cast (λ k. edge (p k) (sym S.symbol k) (q k)) S.listed

-- ---- two usable sections

pub words_back : {l m : List ℕ} {f : ℕ → ℕ → ℕ} → Sound l → Sound m → n_of m ≡ n_of l
    → ((t : ℕ) → t ≤ n_of l → vertex_count_of m t ≡ vertex_count_of l t)
    → ((t : ℕ) → t < n_of l → edge_count_of m t ≡ edge_count_of l t)
    → Carrying l m f → (w : Word) → w ∈ section_words m → w ∈ section_words l
words_back {l} {m} {f} s r e vertices edges F = carried_words r s (sym e) (record {
  vertices = λ t w h b. back_low N M K C t w (omega arith) b;
  roots = back_root N M K C;
  goals = subst (λ k. (w : ℕ) → w < vertex_count_of m k → goal_state l (back_of (f k) (vertex_count_of l k) w) ≡ goal_state m w) (sym e)
      (back_goal N M K C);
  edges = λ t x a y h k. back_edge N M K C t x a y (omega arith) k;
})
  where
    N : Neat (n_of l) (shape_of l)
    N = neat s

    M : Neat (n_of l) (shape_of m)
    M = subst (λ k. Neat k (shape_of m)) e (neat r)

    K : Carries (n_of l) (shape_of l) (shape_of m) f
    K = record { roots = F.roots; goals = F.goals; edges = F.edges }

    C : AsMany (n_of l) (shape_of l) (shape_of m)
    C = record {
      vertices = vertices;
      edges = λ t h. omega (arith, edges t h, edges_long l t, edges_long m t);
      once = λ t h. once_of edge_less edges_order (step_edges l t) (steps_ascend s t h);
    }
