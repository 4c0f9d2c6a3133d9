-- The law of selections for two families of paths that carry the same words: ours (c) and the drawn section's (d).
-- Word by word the law of one word holds; edges and vertices of the drawn section that no chosen path has only add to its side.
use mathlib.Core.Path.{◌≡◌, ap}
use mathlib.Core.Logic.{◌⊎◌, inl, inr}
use mathlib.Core.List.Memᴰ
use mathlib.Core.List.{List}
use Prim.Native.Nat.{ℕ, zero, suc, ◌+◌, ◌≤◌, ◌<◌}
use native.Mathlib.Omega.{arith}
use native.Mathlib.Nat.{le_refl}
use lib.ListN.{length}
use lib.Dec.{eqb, eqb→eq, eqb_refl}
use Rattle.trellis.specs.Lists.{◌∈◌, Once, sum}
use Rattle.trellis.specs.Own.{Edge, edge}
use Rattle.trellis.proofs.ThreeNumbers.{same_edge}
use Rattle.trellis.proofs.Lists.{sum_add, sum_le, sum_suc}
use Rattle.trellis.proofs.Distinct.{Known, distinct, stale_of, distinct_le, upto, in_upto, from_upto}
use Rattle.trellis.proofs.OneWord.{Stop, along}
use Rattle.trellis.proofs.Paths.{edge_ok, edge_rf, step, vnew, enew, vcount, ecount, into, onward, vlook, elook, new_le_new, Into}
use Rattle.trellis.proofs.Paths.{slack, ends_upto}

-- A new edge of ours that leads to an old vertex: the later edges and the last vertex are old.
pub record Ended (n : ℕ) (s c : ℕ → ℕ → ℕ) (t i : ℕ) : Type 0 where
  pub later : (u : ℕ) → t < u → u < n → step s c u i ∈ upto (step s c u) i
  pub last : c n i ∈ upto (c n) i

pub record Pair (W n : ℕ) (s c d : ℕ → ℕ → ℕ) : Type 0 where
  -- paths that meet in the other section meet in ours
  pub finer : (t i j : ℕ) → t ≤ n → i < W → j < W → d t i ≡ d t j → c t i ≡ c t j
  -- words of one goal end in one vertex there too
  pub goals : (i j : ℕ) → i < W → j < W → c n i ≡ c n j → d n i ≡ d n j
  pub ends : (t i : ℕ) → t < n → i < W → (step s c t i ∈ upto (step s c t) i → ⊥) → c (suc t) i ∈ upto (c (suc t)) i → Ended n s c t i

module _ (s c : ℕ → ℕ → ℕ) where
  esum_suc : (m t k : ℕ) → sum (ecount s c (suc m)) t k ≡ sum (λ u. enew s c u m) t k + sum (ecount s c m) t k
  unfolding upto distinct
  esum_suc m t k = sum_add (λ u. enew s c u m) (ecount s c m) t k

  vsum_suc : (m t k : ℕ) → sum (vcount s c (suc m)) t k ≡ sum (λ u. vnew s c u m) t k + sum (vcount s c m) t k
  unfolding upto distinct
  vsum_suc m t k = sum_add (λ u. vnew s c u m) (vcount s c m) t k

no_words : (s c d : ℕ → ℕ → ℕ) (n : ℕ) → sum (ecount s c 0) 0 n + sum (vcount s d 0) 1 n ≤ sum (ecount s d 0) 0 n + sum (vcount s c 0) 1 n
unfolding upto distinct
no_words s c d n = le_refl _

module _ (W n : ℕ) (s c d : ℕ → ℕ → ℕ) (h : Pair W n s c d) where
  edge_finer : (t i : ℕ) → t < n → i < W → step s d t i ∈ upto (step s d t) i → step s c t i ∈ upto (step s c t) i
  edge_finer t i a b m =
      let w = from_upto (step s d t) i (step s d t i) m in
      let p = h.finer t i w.at (omega arith) b (omega arith) (ap (λ (e : Edge). e.from) w.is) in
      let q = h.finer (suc t) i w.at a b (omega arith) (ap (λ (e : Edge). e.to) w.is) in
      in_upto (step s c t) i w.at (step s c t i) w.below (λ k. edge (p k) (w.is k).symbol (q k))

  vert_finer : (t i : ℕ) → t ≤ n → i < W → d t i ∈ upto (d t) i → c t i ∈ upto (c t) i
  vert_finer t i a b m =
      let w = from_upto (d t) i (d t i) m in
      in_upto (c t) i w.at (c t i) w.below (h.finer t i w.at a b (omega arith) w.is)

  goal_back : (i : ℕ) → i < W → c n i ∈ upto (c n) i → d n i ∈ upto (d n) i
  goal_back i b m =
      let w = from_upto (c n) i (c n i) m in
      in_upto (d n) i w.at (d n i) w.below (h.goals i w.at b (omega arith) w.is)

  pub edges_finer : (t i : ℕ) → t < n → i < W → enew s c t i ≤ enew s d t i
  edges_finer t i a b = new_le_new same_edge same_edge (elook _ _) (elook _ _) (edge_finer t i a b)

  pub verts_finer : (t i : ℕ) → t ≤ n → i < W → vnew s c t i ≤ vnew s d t i
  verts_finer t i a b = new_le_new eqb eqb (vlook _ _) (vlook _ _) (vert_finer t i a b)

  key : (i : ℕ) → i < W → (t : ℕ) → t < n → (enew s c t i ≤ vnew s c (suc t) i)
      ⊎ Stop n (λ u. enew s c u i) (λ u. vnew s d u i) (λ u. enew s d u i) t
  key i b t a = go (elook (step s c t i) (upto (step s c t) i)) (vlook (c (suc t) i) (upto (c (suc t)) i))
      (elook (step s d t i) (upto (step s d t) i))
    where
      go : Known same_edge (step s c t i) (upto (step s c t) i)
          → Known eqb (c (suc t) i) (upto (c (suc t)) i)
          → Known same_edge (step s d t i) (upto (step s d t) i)
          → (enew s c t i ≤ vnew s c (suc t) i) ⊎ Stop n (λ u. enew s c u i) (λ u. vnew s d u i) (λ u. enew s d u i) t
      go (inr e) v x = inl (omega arith)
      go (inl e) (inl v) x = inl (omega arith)
      go (inl e) (inr v) (inr x) = absurd (e.never (edge_finer t i a b x.seen))
      go (inl e) (inr v) (inl x) =
          let f = h.ends t i a b e.never v.seen in
          inr (record {
            most = omega arith;
            mine = x.one;
            rest = λ u p q. stale_of same_edge edge_ok edge_rf _ _ (f.later u p q);
            last = stale_of eqb eqb→eq eqb_refl _ _ (goal_back i b f.last);
          })

  word : (i : ℕ) → i < W
      → sum (λ t. enew s c t i) 0 n + sum (λ t. vnew s d t i) 1 n ≤ sum (λ t. enew s d t i) 0 n + sum (λ t. vnew s c t i) 1 n
  word i b = along n (λ t. enew s c t i) (λ t. vnew s c t i) (λ t. enew s d t i) (λ t. vnew s d t i) (λ t a. into s d t i)
      (λ t a. onward s d (suc t) i) (key i b) n 0 (omega arith)

  -- the words' own paths: ours has no more selections
  words : (m : ℕ) → m ≤ W → sum (ecount s c m) 0 n + sum (vcount s d m) 1 n ≤ sum (ecount s d m) 0 n + sum (vcount s c m) 1 n
  words zero b = no_words s c d n
  words (suc m) b =
      let r = words m (omega arith) in
      let q = word m b in
      omega (arith, esum_suc s c m 0 n, esum_suc s d m 0 n, vsum_suc s c m 1 n, vsum_suc s d m 1 n)

  vcount_finer : (t : ℕ) → t ≤ n → (m : ℕ) → m ≤ W → vcount s c m t ≤ vcount s d m t
  unfolding upto distinct
  vcount_finer t a zero b = omega arith
  vcount_finer t a (suc m) b = let r = vcount_finer t a m (omega arith) in let q = verts_finer t m a b in omega arith

  ecount_finer : (t : ℕ) → t < n → (m : ℕ) → m ≤ W → ecount s c m t ≤ ecount s d m t
  unfolding upto distinct
  ecount_finer t a zero b = omega arith
  ecount_finer t a (suc m) b = let r = ecount_finer t a m (omega arith) in let q = edges_finer t m a b in omega arith

-- The other hand's lists, with one path d for each word.
pub record Holds (W n : ℕ) (s d : ℕ → ℕ → ℕ) (vs : ℕ → List ℕ) (es : ℕ → List Edge) : Type 0 where
  pub once : (t : ℕ) → t ≤ n → Once (vs t)
  pub stands : (t i : ℕ) → t ≤ n → i < W → d t i ∈ vs t
  pub takes : (t i : ℕ) → t < n → i < W → step s d t i ∈ es t
  pub entered : (t : ℕ) → t < n → (x : ℕ) → x ∈ vs (suc t) → Into (es t) x

module _ (W n : ℕ) (s c d : ℕ → ℕ → ℕ) (h : Pair W n s c d) (vs : ℕ → List ℕ) (es : ℕ → List Edge) (k : Holds W n s d vs es) where
  all_stand : (t : ℕ) → t ≤ n → (x : ℕ) → x ∈ upto (d t) W → x ∈ vs t
  all_stand t a x m = let w = from_upto (d t) W x m in Memᴰ.cast w.is (k.stands t w.at a w.below)

  all_take : (t : ℕ) → t < n → (e : Edge) → e ∈ upto (step s d t) W → e ∈ es t
  all_take t a e m = let w = from_upto (step s d t) W e m in Memᴰ.cast w.is (k.takes t w.at a w.below)

  pub vertices_least : (t : ℕ) → t ≤ n → vcount s c W t ≤ length (vs t)
  vertices_least t a =
      let p = vcount_finer W n s c d h t a W (le_refl _) in
      let q : vcount s d W t ≤ length (vs t) = distinct_le eqb eqb→eq eqb_refl (upto (d t) W) (vs t) (all_stand t a) in
      omega arith

  pub edges_least : (t : ℕ) → t < n → ecount s c W t ≤ length (es t)
  edges_least t a =
      let p = ecount_finer W n s c d h t a W (le_refl _) in
      let q : ecount s d W t ≤ length (es t) = distinct_le same_edge edge_ok edge_rf (upto (step s d t) W) (es t) (all_take t a) in
      omega arith

  slack_at : (t : ℕ) → t < n → length (vs (suc t)) + ecount s d W t ≤ length (es t) + vcount s d W (suc t)
  slack_at t a = rw ends_upto at (slack (es t) (vs (suc t)) (upto (step s d t) W) (k.once (suc t) a) (all_take t a) (k.entered t a))

  pub selections_least : sum (ecount s c W) 0 n + sum (λ t. length (vs t)) 1 n ≤ sum (λ t. length (es t)) 0 n + sum (vcount s c W) 1 n
  selections_least =
      let p = words W n s c d h W (le_refl _) in
      let q = sum_le (λ t. length (vs (suc t)) + ecount s d W t) (λ t. length (es t) + vcount s d W (suc t)) 0 n
      (λ t a b. slack_at t (omega arith)) in
      omega (
        arith,
        sum_add (λ t. length (vs (suc t))) (ecount s d W) 0 n,
        sum_add (λ t. length (es t)) (λ t. vcount s d W (suc t)) 0 n,
        sum_suc (λ t. length (vs t)) 0 n,
        sum_suc (vcount s d W) 0 n,
      )
