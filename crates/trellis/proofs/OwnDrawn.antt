-- Our section of a rectangular table is itself a section drawn for it: its paths carry the table's words, no more and no fewer.
-- Each word takes its own path. The other way round, follow any path step by step: its first t edges are those of some word up to depth t,
-- and where the next edge is another word's, the two words share a vertex, so the one's beginning followed by the other's ending is a word
-- too.
use mathlib.Core.Path.{◌≡◌, refl, sym, ap, subst, ◌∙◌}
use mathlib.Core.List.Memᴰ
use mathlib.Core.List.{List}
use Prim.Native.Nat.{ℕ, zero, suc, ◌-◌, ◌<◌}
use native.Mathlib.Omega.{arith}
use native.Mathlib.Decide.{ℕ_discrete}
use lib.ListN.{length, get_or}
use lib.Dec.{ltb, lt→ltb}
use Rattle.trellis.specs.Lists.{◌∈◌, Once, run, each, rank}
use Rattle.trellis.specs.Word.{Word, word_at, Table, beginning, ending, joined}
use Rattle.trellis.specs.Own.{Edge, edge, edge_less, key, keys, vertex_of, vertex_count, edge_of, edges_at}
use Rattle.trellis.specs.Drawn.{IsPath, Carries, WordOf, JustOne, DrawnFor}
use Rattle.trellis.proofs.Ours.{ours}
use Rattle.trellis.proofs.Lists.{From, in_each, of_each, of_run, in_place}
use Rattle.trellis.proofs.Ascending.{Ascends, numbers, ascends, once_of, in_ascending, of_ascending, rank_at}
use Rattle.trellis.proofs.Labels.{back_step, symbol_before, symbol_back}
use Rattle.trellis.proofs.Words.{Index, word_in, index, beginning_root, beginning_front, ending_back, ending_goal, ending_eq}
use Rattle.trellis.proofs.Words.{joined_beginning, joined_ending}
use Rattle.trellis.proofs.Vertices.{Numbering, key_root, key_goal, vertex_below, key_at, vertex_key}
use Rattle.trellis.proofs.Paths.{edges_order}
use Rattle.trellis.proofs.OwnPaths.{symbol_at, ended}

-- ---- the numbers below a count stand in their list once

run_ascends : (at count : ℕ) → Ascends ltb (run (λ v. v) at count)
unfolding run
run_ascends at zero = tt
run_ascends at (suc count) = (
  λ y m. let F = of_run (λ v. v) (suc at) count y m in lt→ltb at y (omega (arith, F.is)),
  run_ascends (suc at) count,
)

pub once_each : (count : ℕ) → Once (each (λ v. v) count)
once_each count = once_of ltb numbers (each (λ v. v) count) (run_ascends 0 count)

below_each : (count v : ℕ) → v ∈ each (λ v. v) count → v < count
below_each count v m = let F = of_each (λ v. v) count v m in omega (arith, F.is, F.below)

-- ---- vertices and edges of words

module _ (n : ℕ) (table : List Word) where
  pub vertex_in : (t i : ℕ) → i < length table → vertex_of n table t i ∈ (ours n table).vertices t
  unfolding ours
  vertex_in t i h = in_each (λ v. v) (vertex_count n table t) (vertex_of n table t i) _ (vertex_below n table t i h) refl

  -- every vertex is some word's
  pub vertex_of_lem : (t v : ℕ) → v ∈ (ours n table).vertices t → From (vertex_of n table t) (length table) v
  unfolding ours vertex_count keys vertex_of
  vertex_of_lem t v m =
      let h = below_each (vertex_count n table t) v m in
      let F = of_each (key n table t) (length table) (get_or (keys n table t) v 0)
      (of_ascending ltb numbers _ _ (in_place 0 (keys n table t) v h)) in
      record {
        at = F.at;
        below = F.below;
        is = sym (rank_at (keys n table t) v (ascends ltb numbers _) h)
            ∙ ap (λ k. rank k (keys n table t)) F.is;
      }

  pub edge_in : (t i : ℕ) → i < length table → edge_of n table t i ∈ (ours n table).edges t
  unfolding ours edges_at
  edge_in t i h = in_ascending edge_less edges_order _ _ (in_each (edge_of n table t) (length table) i _ h refl)

  pub edge_of_lem : (t : ℕ) (e : Edge) → e ∈ (ours n table).edges t → From (edge_of n table t) (length table) e
  unfolding ours edges_at
  edge_of_lem t e m = of_each (edge_of n table t) (length table) e (of_ascending edge_less edges_order _ _ m)

  -- ---- roots and goals: at an outer depth t the key is the word's state

  module _ (t : ℕ) (state : Word → ℕ) (is : (i : ℕ) → key n table t i ≡ state (word_at table i)) where
    state_at : (i : ℕ) → i < length table → get_or (keys n table t) (vertex_of n table t i) 0 ≡ state (word_at table i)
    state_at i h = key_at n table t i h ∙ is i

    just_one_lem : JustOne table state ((ours n table).vertices t) (λ v. get_or (keys n table t) v 0)
    just_one_lem = record {
      at_least = λ w m.
          let x = index table w m in
          record {
            vertex = vertex_of n table t x.at;
            listed = vertex_in t x.at x.below;
            is = state_at x.at x.below
                ∙ ap state x.is;
          };
      at_most = λ v u a b e. same v u (vertex_of_lem t v a) (vertex_of_lem t u b) e;
      only = λ v m.
          let x = vertex_of_lem t v m in
          record {
            word = word_at table x.at;
            listed = word_in table x.at x.below;
            is =
                sym (ap (λ k. get_or (keys n table t) k 0) x.is ∙ state_at x.at x.below);
          };
    }
      where
        same : (v u : ℕ) → From (vertex_of n table t) (length table) v → From (vertex_of n table t) (length table) u
            → get_or (keys n table t) v 0 ≡ get_or (keys n table t) u 0 → v ≡ u
        same v u x y e =
            let p : key n table t x.at ≡ key n table t y.at =
            sym (key_at n table t x.at x.below) ∙ ap (λ k. get_or (keys n table t) k 0) (sym x.is) ∙ e
            ∙ ap (λ k. get_or (keys n table t) k 0) y.is ∙ key_at n table t y.at y.below in
            x.is ∙ (vertex_key n table t x.at y.at x.below y.below).1 p ∙ sym y.is

-- ---- paths

module _ (n : ℕ) (table : List Word) (G : Table n table) (O : Numbering n table (vertex_of n table)) where
  abbrev c : ℕ → ℕ → ℕ
  c = vertex_of n table

  root_at : (i : ℕ) → i < length table → (ours n table).root_of (c 0 i) ≡ (word_at table i).root
  unfolding ours
  root_at i h = key_at n table 0 i h ∙ key_root n table i

  goal_at : (i : ℕ) → i < length table → (ours n table).goal_of (c n i) ≡ (word_at table i).goal
  unfolding ours
  goal_at i h = key_at n table n i h ∙ key_goal n table i G.some

  -- the path of word i, which carries it
  path_of : (i : ℕ) → i < length table → IsPath n (ours n table) (λ t. c t i) (λ t. symbol_at n table t i)
  path_of i h = record { takes = λ t l. edge_in n table t i h }

  carries_of : (i : ℕ) → i < length table → Carries n (ours n table) (λ t. c t i) (λ t. symbol_at n table t i) (word_at table i)
  carries_of i h = record { root = root_at i h; symbols = λ t l. refl; goal = goal_at i h }

  -- a word that goes with the path x, a up to depth t
  record Reach (x a : ℕ → ℕ) (t : ℕ) : Type 0 where
    at : ℕ
    below : at < length table
    start : c 0 at ≡ x 0
    here : c t at ≡ x t
    spells : (u : ℕ) → u < t → a u ≡ symbol_at n table u at

  module _ (x a : ℕ → ℕ) (P : IsPath n (ours n table) x a) where
    taken : (t : ℕ) → t < n → From (edge_of n table t) (length table) (edge (x t) (a t) (x (suc t)))
    taken t l = edge_of_lem n table t (edge (x t) (a t) (x (suc t))) (P.takes t l)

    -- the word reached so far and the word that takes the next edge share a vertex: joined there they go one step further
    module _ (t : ℕ) (l : suc t < n) (r : Reach x a (suc t))
        (F : From (edge_of n table (suc t)) (length table) (edge (x (suc t)) (a (suc t)) (x (suc (suc t))))) where
      abbrev v : Word
      v = word_at table r.at

      abbrev w : Word
      w = word_at table F.at

      meet : joined n (suc t) v w ∈ table
      meet = (O.inner (suc t) (omega arith) l r.at F.at r.below F.below).0 (r.here ∙ ap (λ (e : Edge). e.from) F.is)

      K : Index table (joined n (suc t) v w)
      K = index table (joined n (suc t) v w) meet

      begins : beginning n (suc t) (word_at table K.at) ≡ beginning n (suc t) v
      begins = ap (beginning n (suc t)) K.is ∙ joined_beginning n (suc t) v w

      ends : ending n (suc t) (word_at table K.at) ≡ ending n (suc t) w
      ends = ap (ending n (suc t)) K.is ∙ joined_ending n (suc t) v w

      spell : (u : ℕ) → u < suc (suc t) → Dec (u ≡ suc t) → a u ≡ symbol_at n table u K.at
      spell u h (no e) = r.spells u (omega arith)
          ∙ sym (symbol_before n (suc t) u (word_at table K.at).label v.label (omega arith) (omega arith) (beginning_front begins))
      spell u h (yes e) = subst (λ k. a k ≡ symbol_at n table k K.at) (sym e)
          (ap (λ (g : Edge). g.symbol) F.is ∙ sym (symbol_back n (suc t) (word_at table K.at).label w.label l (ending_back ends)))

      further : Reach x a (suc (suc t))
      further = record {
        at = K.at;
        below = K.below;
        start = (O.roots K.at r.at K.below r.below).1 (beginning_root begins) ∙ r.start;
        here = sym (ended n table G (vertex_of n table) O (suc (suc t)) F.at K.at (omega arith) l F.below K.below
            (ending_eq (back_step n (suc t) (word_at table K.at).label w.label l (ending_back ends)) (ending_goal ends)))
            ∙ sym (ap (λ (e : Edge). e.to) F.is);
        spells = λ u h. spell u h (ℕ_discrete u (suc t));
      }

    reach : (t : ℕ) → t < n → Reach x a (suc t)
    reach zero l =
        let F = taken 0 l in
        record {
          at = F.at;
          below = F.below;
          start = sym (ap (λ (e : Edge). e.from) F.is);
          here = sym (ap (λ (e : Edge). e.to) F.is);
          spells = λ u h. let e : u ≡ 0 = omega arith in
              subst (λ k. a k ≡ symbol_at n table k F.at) (sym e) (ap (λ (f : Edge). f.symbol) F.is);
        }
    reach (suc t) l = further t l (reach t (omega arith)) (taken (suc t) l)

    carried : WordOf n (ours n table) table x a
    carried =
        let e : suc (n - 1) ≡ n = omega (arith, G.some) in
        let r = subst (Reach x a) e (reach (n - 1) (omega (arith, G.some))) in
        record {
          word = word_at table r.at;
          listed = word_in table r.at r.below;
          carried = record {
            root = ap (ours n table).root_of (sym r.start) ∙ root_at r.at r.below;
            symbols = r.spells;
            goal = ap (ours n table).goal_of (sym r.here) ∙ goal_at r.at r.below;
          };
        }

  pub own_drawn : DrawnFor n table (ours n table)
  unfolding ours edges_at
  own_drawn = record {
    none_twice = λ t h. once_each (vertex_count n table t);
    joins = λ t h e m.
        let F = edge_of_lem n table t e m in (
          Memᴰ.cast (ap (λ (f : Edge). f.from) F.is) (vertex_in n table t F.at F.below),
          Memᴰ.cast (ap (λ (f : Edge). f.to) F.is) (vertex_in n table (suc t) F.at F.below),
        );
    no_repeat = λ t h. once_of edge_less edges_order (edges_at n table t)
        (ascends edge_less edges_order (each (edge_of n table t) (length table)));
    roots = just_one_lem n table 0 (λ w. w.root) (key_root n table);
    goals = just_one_lem n table n (λ w. w.goal) (λ i. key_goal n table i G.some);
    on_path = λ t v h m.
        let F = vertex_of_lem n table t v m in
        record { x = λ u. c u F.at; a = λ u. symbol_at n table u F.at; path = path_of F.at F.below; passes = sym F.is };
    no_more = carried;
    no_fewer = λ w m.
        let K = index table w m in
        record {
          x = λ u. c u K.at;
          a = λ u. symbol_at n table u K.at;
          path = path_of K.at K.below;
          carries = subst (Carries n (ours n table) (λ u. vertex_of n table u K.at) (λ u. symbol_at n table u K.at)) K.is
              (carries_of K.at K.below);
        };
  }
