-- Our section of a rectangular table is the least of all that are drawn for it: in vertices at each depth, in edges at each step, in
-- selections. Take one path of the drawn section for each word. Paths that meet there meet in ours, since they can be crossed; so ours has
-- no more of anything on these paths, and by the law of selections no more of E - V.
use mathlib.Core.Path.{◌≡◌, sym, ap, subst, ◌∙◌}
use mathlib.Core.List.Memᴰ
use mathlib.Core.List.{List, []}
use Prim.Native.Nat.{ℕ, suc, ◌+◌, ◌-◌, ◌≤◌, ◌<◌}
use native.Mathlib.Omega.{arith}
use native.Mathlib.Nat.{le_refl}
use native.Mathlib.Decide.{ℕ_discrete, dec_lt}
use lib.ListN.{length}
use Rattle.trellis.specs.Lists.{◌∈◌, sum}
use Rattle.trellis.specs.Word.{Word, word_at, Table}
use Rattle.trellis.specs.Own.{edge}
use Rattle.trellis.specs.Drawn.{Drawing, DrawnFor, vertices_of, edges_of, NoFewer}
use Rattle.trellis.specs.Selections.{all_vertices, additions, selections}
use Rattle.trellis.proofs.Lists.{sum_le, sum_eq, sum_suc}
use Rattle.trellis.proofs.Distinct.{distinct}
use Rattle.trellis.proofs.Words.{word_in}
use Rattle.trellis.proofs.Vertices.{Numbering}
use Rattle.trellis.proofs.Paths.{vcount, ecount, Into, slack}
use Rattle.trellis.proofs.Families.{Pair, Holds, vertices_least, edges_least, selections_least}
use Rattle.trellis.proofs.Crossing.{Way, theirs, way, crossed}
use Rattle.trellis.proofs.OwnPaths.{symbol_at, ends}

entered : (n : ℕ) (table : List Word) (D : Drawing) → DrawnFor n table D → (t : ℕ) → t < n → (v : ℕ) → v ∈ D.vertices (suc t)
    → Into (D.edges t) v
entered n table D H t a v m =
    let P = H.on_path (suc t) v a m in
    record { by = edge (P.x t) (P.a t) (P.x (suc t)); inside = P.path.takes t a; leads = sym P.passes }

module _ (n : ℕ) (table : List Word) (G : Table n table) (c : ℕ → ℕ → ℕ) (O : Numbering n table c) (D : Drawing)
    (H : DrawnFor n table D) where
  abbrev d : ℕ → ℕ → ℕ
  d = theirs n table D H

  finer : (t i j : ℕ) → t ≤ n → i < length table → j < length table → d t i ≡ d t j → c t i ≡ c t j
  finer t i j h a b e = go (ℕ_discrete t 0) (ℕ_discrete t n)
    where
      P : Way n D (word_at table i) (λ u. theirs n table D H u i)
      P = way n table D H i a

      Q : Way n D (word_at table j) (λ u. theirs n table D H u j)
      Q = way n table D H j b

      at_depth : (u : ℕ) → t ≡ u → d u i ≡ d u j
      at_depth u p = subst (λ k. theirs n table D H k i ≡ theirs n table D H k j) p e

      go : Dec (t ≡ 0) → Dec (t ≡ n) → c t i ≡ c t j
      go (yes p) q = subst (λ u. c u i ≡ c u j) (sym p) ((O.roots i j a b).1 (sym P.root ∙ ap D.root_of (at_depth 0 p) ∙ Q.root))
      go (no p) (yes q) = subst (λ u. c u i ≡ c u j) (sym q) ((O.goals i j a b).1 (sym P.goal ∙ ap D.goal_of (at_depth n q) ∙ Q.goal))
      go (no p) (no q) = (O.inner t (omega arith) (omega arith) i j a b).1
          (crossed n table D H (word_at table i) (word_at table j) (λ u. theirs n table D H u i) (λ u. theirs n table D H u j) P Q t e
          (omega arith) (omega arith) G.fits (word_in table i a))

  stands : (t i : ℕ) → t ≤ n → i < length table → d t i ∈ D.vertices t
  stands t i h a = go (way n table D H i a) (dec_lt t n)
    where
      go : Way n D (word_at table i) (λ u. theirs n table D H u i) → Dec (t < n) → theirs n table D H t i ∈ D.vertices t
      go P (yes p) = (H.joins t p _ (P.takes t p)).0
      go P (no p) =
          let q : n - 1 < n = omega (arith, G.some) in
          subst (λ u. theirs n table D H u i ∈ D.vertices u) (omega (arith, G.some)) (H.joins (n - 1) q _ (P.takes (n - 1) q)).1

  pair : Pair (length table) n (symbol_at n table) c d
  pair = record {
    finer = finer;
    goals = λ i j a b e. H.goals.at_most (d n i) (d n j) (stands n i (le_refl _) a) (stands n j (le_refl _) b)
        ((way n table D H i a).goal ∙ (O.goals i j a b).0 e ∙ sym (way n table D H j b).goal);
    ends = ends n table G c O;
  }

  holds : Holds (length table) n (symbol_at n table) d D.vertices D.edges
  holds = record {
    once = H.none_twice;
    stands = stands;
    takes = λ t i a b. (way n table D H i b).takes t a;
    entered = entered n table D H;
  }

  -- the counts are those of the numbering's different vertices and edges
  pub least : NoFewer n (vcount (symbol_at n table) c (length table)) (ecount (symbol_at n table) c (length table)) D
  unfolding selections additions all_vertices sum
  least = record {
    vertices = vertices_least (length table) n (symbol_at n table) c d pair D.vertices D.edges holds;
    edges = edges_least (length table) n (symbol_at n table) c d pair D.vertices D.edges holds;
    selected = let h = selections_least (length table) n (symbol_at n table) c d pair D.vertices D.edges holds in omega arith;
  }

-- only the counts of the n + 1 depths and the n steps matter
pub same_counts : (n : ℕ) (v e v' e' : ℕ → ℕ) (D : Drawing) → ((t : ℕ) → t ≤ n → v t ≡ v' t) → ((t : ℕ) → t < n → e t ≡ e' t)
    → NoFewer n v e D → NoFewer n v' e' D
unfolding selections additions all_vertices
same_counts n v e v' e' D a b N =
    let p = sum_eq v v' 0 (suc n) (λ u x y. a u (omega arith)) in
    let q = sum_eq e e' 0 n (λ u x y. b u (omega arith)) in
    let z = a 0 (omega arith) in
    record {
      vertices = λ t h. rw (← a t h) (N.vertices t h);
      edges = λ t h. rw (← b t h) (N.edges t h);
      selected = let s = N.selected in omega arith;
    }

-- E - V + R takes away no more than there is: each vertex behind depth 0 is entered by an edge of its own
pub exact : (n : ℕ) (table : List Word) (D : Drawing) → DrawnFor n table D
    → selections n (vertices_of D) (edges_of D) + all_vertices n (vertices_of D) ≡ additions n (edges_of D) + vertices_of D 0
unfolding sum distinct selections additions all_vertices
exact n table D H =
    let q = sum_le (λ t. length (D.vertices (suc t))) (λ t. length (D.edges t)) 0 n (λ t a b. entry t (omega arith)) in
    omega (arith, sum_suc (λ t. length (D.vertices t)) 0 n)
  where
    entry : (t : ℕ) → t < n → length (D.vertices (suc t)) ≤ length (D.edges t)
    entry t h =
        let p = slack (D.edges t) (D.vertices (suc t)) [] (H.none_twice (suc t) h) (λ e m. absurd (Memᴰ.not-nil m))
        (entered n table D H t h) in
        omega arith
