-- The chain's paths are exactly the linked lists of words, they stand in word order, and so the first of least distance wins: it is one of
-- the paths, none is shorter, and each other of its distance comes after it, words compared from the first block on.
use mathlib.Core.Path.{◌≡◌, refl, sym, ap, ap₂, subst, subst₂, ◌∙◌}
use mathlib.Core.Bool.{Bool, true, false, cond}
use mathlib.Core.Logic.{inl, inr}
use mathlib.Core.List.Memᴰ
use mathlib.Core.List.{List, [], ◌∷◌, map}
use Prim.Native.Nat.{ℕ, zero, suc, ◌+◌, ◌≤◌, ◌<◌}
use native.Mathlib.Omega.{arith}
use native.Mathlib.Nat.{add-zero, add-suc, suc-add}
use lib.ListN.{length}
use lib.Dec.{eqb, eqb→eq}
use borrow.Author.Tests.{eq-eqb}
use Rattle.trellis.specs.Lists.{◌∈◌, sum}
use Rattle.trellis.specs.Word.{Word, Before, word_at}
use Rattle.trellis.proofs.Lists.{sum_eq, sum_suc}
use Rattle.paths.specs.Choice.{some, paid_or}
use Rattle.paths.specs.Chain.{rooted_at, chain_paths, path_distance, best_path, Linked, IsChainPath, ChainBefore, Winner, unreached}
use Rattle.paths.specs.Chain.{cost_table}
use Rattle.paths.specs.Inner.Ordered.{Ordered, ended, leads}
use Rattle.paths.proofs.Chain.{behind}
use Rattle.paths.proofs.First.{best_first, first_in, first_least}
use Rattle.paths.proofs.Ordered.{of_keep, in_keep, of_flat_map, in_flat_map, ordered_keep, ordered_map, ordered_flat_map}
use Rattle.paths.proofs.Ordered.{first_in_order}

module _ (words : ℕ → List Word) (ends : ℕ → Bool) where
  -- ---- the paths are the linked lists of words

  longer : {k b s : ℕ} {p : List Word} {w : Word} → w ∈ words b → w.root ≡ s → IsChainPath words ends k (suc b) w.goal p
      → IsChainPath words ends (suc k) b s (w ∷ p)
  longer m e I = record { long = ap suc I.long; linked = (m, e, I.linked) }

  pub of_paths : (k b s : ℕ) (p : List Word) → p ∈ chain_paths words ends k b s → IsChainPath words ends k b s p
  unfolding chain_paths rooted_at
  of_paths zero b s p m = go (ends s) refl m
    where
      go : (t : Bool) → ends s ≡ t → p ∈ cond t ([] ∷ []) [] → IsChainPath words ends zero b s p
      go true e l =
          let i : p ≡ [] = Memᴰ.eq_of_singleton l in
          subst (IsChainPath words ends zero b s) (sym i) (record { long = refl; linked = e })
      go false e l = absurd (Memᴰ.not-nil l)
  of_paths (suc k) b s p m =
      let z = of_flat_map (λ w. map (λ ws. w ∷ ws) (chain_paths words ends k (suc b) w.goal)) (rooted_at s (words b)) p m in
      let w = z.source in
      let r = of_keep (λ w. eqb w.root s) (words b) w z.listed in
      let x = Memᴰ.of_map (λ ws. w ∷ ws) (chain_paths words ends k (suc b) w.goal) z.holds in
      subst (IsChainPath words ends (suc k) b s) x.2
      (longer r.listed (eqb→eq w.root s r.passes) (of_paths k (suc b) w.goal x.0 x.1))

  pub in_paths : (k b s : ℕ) (p : List Word) → IsChainPath words ends k b s p → p ∈ chain_paths words ends k b s
  unfolding chain_paths rooted_at
  in_paths zero b s [] I = subst (λ t. ◌∈◌ {A = List Word} [] (cond t ([] ∷ []) [])) (sym I.linked) (Memᴰ.head refl)
  in_paths zero b s (w ∷ p) I = let l = I.long in absurd (omega arith)
  in_paths (suc k) b s [] I = let l = I.long in absurd (omega arith)
  in_paths (suc k) b s (w ∷ p) I =
      let L = I.linked in
      let l = I.long in
      in_flat_map (λ w. map (λ ws. w ∷ ws) (chain_paths words ends k (suc b) w.goal)) (rooted_at s (words b)) (w ∷ p) w
      (in_keep (λ w. eqb w.root s) (words b) w L.0 (eq-eqb w.root s L.1))
      (Memᴰ.map (λ ws. w ∷ ws) (in_paths k (suc b) w.goal p (record { long = omega arith; linked = L.2 })))

  -- word i of a path is a word of its block
  pub word_of_lem : (b s : ℕ) (p : List Word) → Linked words ends b s p → (i : ℕ) → i < length p → word_at p i ∈ words (b + i)
  word_of_lem b s [] L i h = absurd (omega arith)
  word_of_lem b s (w ∷ p) L zero h = subst (λ c. w ∈ words c) (sym (add-zero b)) L.0
  word_of_lem b s (w ∷ p) L (suc i) h =
      let e : suc b + i ≡ b + suc i = suc-add b i ∙ sym (add-suc b i) in
      subst (λ c. word_at p i ∈ words c) e (word_of_lem (suc b) w.goal p L.2 i (omega arith))

  pub best_right : (dist : ℕ → Word → ℕ) (k b s : ℕ) {c : ℕ} {p : List Word} → best_path words ends dist k b s ≡ some c p
      → IsChainPath words ends k b s p
  unfolding best_path
  best_right dist k b s {p = p} e =
      of_paths k b s p (first_in (path_distance dist b) (best_first (path_distance dist b) (chain_paths words ends k b s) e))

  first_drops : (dist : ℕ → Word → ℕ) (k b s : ℕ) {c : ℕ} {w : Word} {ws : List Word}
      → best_path words ends dist (suc k) b s ≡ some c (w ∷ ws) → w.root ≡ s
      → cost_table words ends dist (suc k) b w.root ≡ dist b w + cost_table words ends dist k (suc b) w.goal
  unfolding cost_table paid_or
  first_drops dist k b s {w = w} e r =
      let B = behind words ends dist k b s e in
      ap (λ u. paid_or unreached (best_path words ends dist (suc k) b u)) r ∙ ap (paid_or unreached) e ∙ B.adds_up
      ∙ sym (ap (λ o. dist b w + paid_or unreached o) B.best_is)

  -- ---- in word order, where the words of each block are

  module _ (blocks : ℕ) (ordered : (b : ℕ) → b < blocks → Ordered Before (words b)) where
    pub chains_ordered : (k b s : ℕ) → b + k ≤ blocks → Ordered ChainBefore (chain_paths words ends k b s)
    unfolding chain_paths rooted_at
    chains_ordered zero b s h = go (ends s)
      where
        go : (t : Bool) → Ordered ChainBefore (cond t ([] ∷ []) [])
        go true = leads (λ y m. absurd (Memᴰ.not-nil m)) ended
        go false = ended
    chains_ordered (suc k) b s h =
        ordered_flat_map (λ w. map (λ ws. w ∷ ws) (chain_paths words ends k (suc b) w.goal)) rooted
        (λ w m. ordered_map (λ ws. w ∷ ws) (λ p q r. inr (refl, r)) (chains_ordered k (suc b) w.goal (omega arith))) across
      where
        rooted : Ordered Before (rooted_at s (words b))
        rooted = ordered_keep (λ w. eqb w.root s) (ordered b (omega arith))

        across : (v w : Word) → Before v w → (p q : List Word) → p ∈ map (λ ws. v ∷ ws) (chain_paths words ends k (suc b) v.goal)
            → q ∈ map (λ ws. w ∷ ws) (chain_paths words ends k (suc b) w.goal) → ChainBefore p q
        across v w r p q m l =
            let x = Memᴰ.of_map (λ ws. v ∷ ws) (chain_paths words ends k (suc b) v.goal) m in
            let y = Memᴰ.of_map (λ ws. w ∷ ws) (chain_paths words ends k (suc b) w.goal) l in
            subst₂ ChainBefore x.2 y.2 (inl r)

    pub best_wins : (dist : ℕ → Word → ℕ) (k b s : ℕ) → b + k ≤ blocks → {c : ℕ} {p : List Word} → best_path words ends dist k b s ≡ some c p
        → Winner (path_distance dist b) (chain_paths words ends k b s) p × (c ≡ path_distance dist b p)
    unfolding best_path
    best_wins dist k b s h {c} {p} o =
        let F = best_first (path_distance dist b) (chain_paths words ends k b s) o in
        let e = F.is in (
          record {
            listed = first_in (path_distance dist b) F;
            shortest = λ q m. let i = first_least (path_distance dist b) F q m in omega arith;
            earliest = λ q m i. first_in_order (chains_ordered k b s h) F q m (omega arith);
          },
          e,
        )

  -- ---- along the best path the cost table drops by each word's distance

  pub table_drops : (dist : ℕ → Word → ℕ) (k b s : ℕ) {c : ℕ} {p : List Word} → best_path words ends dist k b s ≡ some c p
      → (i j m : ℕ) → i + suc j ≡ k → b + i ≡ m
      → cost_table words ends dist (suc j) m (word_at p i).root
      ≡ dist m (word_at p i) + cost_table words ends dist j (suc m) (word_at p i).goal
  table_drops dist k b s {p = []} e i j m h l = let n = (best_right dist k b s e).long in absurd (omega arith)
  table_drops dist zero b s {p = w ∷ ws} e i j m h l = absurd (omega arith)
  table_drops dist (suc k) b s {p = w ∷ ws} e zero j m h l =
      subst₂ (λ x y. cost_table words ends dist (suc x) y w.root ≡ dist y w + cost_table words ends dist x (suc y) w.goal)
      (omega arith) (omega arith)
      (first_drops dist k b s e (best_right dist (suc k) b s e).linked.1)
  table_drops dist (suc k) b s {p = w ∷ ws} e (suc i) j m h l =
      table_drops dist k (suc b) w.goal (behind words ends dist k b s e).best_is i j m (omega arith) (omega arith)

-- ---- a path's distance is the sum of its words' distances

pub distance_sum : (dist : ℕ → Word → ℕ) (b : ℕ) (p : List Word)
    → path_distance dist b p ≡ sum (λ i. dist (b + i) (word_at p i)) 0 (length p)
unfolding path_distance sum
distance_sum dist b [] = refl
distance_sum dist b (w ∷ p) =
    ap₂ (λ x y. x + y) (ap (λ k. dist k w) (sym (add-zero b)))
    (distance_sum dist (suc b) p
    ∙ sum_eq (λ i. dist (suc b + i) (word_at p i)) (λ i. dist (b + suc i) (word_at p i)) 0 (length p)
    (λ i l h. ap (λ k. dist k (word_at p i)) (suc-add b i ∙ sym (add-suc b i)))
    ∙ sum_suc (λ i. dist (b + i) (word_at (w ∷ p) i)) 0 (length p))
