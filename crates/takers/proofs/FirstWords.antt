-- The words that lead higher than all before them are the first on their edges, and their edges are those of our section in order.
-- A word that leads higher takes an edge that no word before it took. A word that does not would, if its edge were new, come after an edge
-- of its own vertex and symbol that leads as high or higher; but new edges come in order.
use mathlib.Core.Path.{◌≡◌, refl, sym, ap, ap₂, ◌∙◌}
use mathlib.Core.Bool.{Bool, true, false, cond}
use mathlib.Core.Logic.{◌⊎◌, inl, inr}
use mathlib.Core.List.{List, [], ◌∷◌, ◌++◌, map, map-append}
use Prim.Native.Nat.{ℕ, zero, suc, ◌+◌, ◌≤◌, ◌<◌}
use native.Mathlib.Omega.{arith}
use native.Mathlib.Nat.{le_refl}
use native.Mathlib.Decide.{ℕ_discrete}
use lib.ListN.{length}
use lib.Dec.{T, leb, eqb}
use borrow.Author.Tests.{eqb-true, eqb-false, leb-true, leb-false}
use Rattle.trellis.specs.Lists.{◌∈◌, Lower, by_first, by_second, by_third, run, each, is_in, ascending}
use Rattle.trellis.specs.Word.{Word, word_at, Table, Rectangular}
use Rattle.trellis.specs.Own.{Edge, edge_less, edge_of, edges_at}
use Rattle.trellis.proofs.Bools.{holds, fails}
use Rattle.trellis.proofs.Lists.{in_yes, in_of, in_each}
use Rattle.trellis.proofs.Ascending.{ascending_old, ascending_new}
use Rattle.trellis.proofs.ThreeNumbers.{lower_yes, same_edge}
use Rattle.trellis.proofs.Paths.{edge_ok, edge_rf, edges_order}
use Rattle.trellis.proofs.EdgeOrder.{New, new_last}
use Rattle.label.proofs.Digits.{symbol_small_lem}
use Rattle.takers.specs.Inner.Takers.{key_of, raised, highest, leads_higher, takers}

-- ---- what the scan keeps

-- an earlier word with the key k, and one more than where it leads
record Highest (f : ℕ → Edge) (m k high : ℕ) : Type 0 where
  at : ℕ
  below : at < m
  key_is : key_of (f at) ≡ k
  high_is : suc (f at).to ≡ high

module _ (f : ℕ → Edge) where
  above_all : (m k j : ℕ) → j < m → key_of (f j) ≡ k → (f j).to < highest f m k
  unfolding highest
  above_all zero k j h e = absurd (omega arith)
  above_all (suc m) k j h e = go (eqb (key_of (f m)) k) refl (leb (highest f m k) (f m).to) refl (ℕ_discrete j m) (above_all m k j)
    where
      go : (b : Bool) → eqb (key_of (f m)) k ≡ b → (c : Bool) → leb (highest f m k) (f m).to ≡ c → Dec (j ≡ m)
          → (j < m → key_of (f j) ≡ k → (f j).to < highest f m k)
          → (f j).to < cond b (cond c ((f m).to + 1) (highest f m k)) (highest f m k)
      go true p true q (yes d) r = let x : (f j).to ≡ (f m).to = ap (λ i. (f i).to) d in omega arith
      go true p true q (no d) r = omega (arith, r (omega arith) e, leb-true (highest f m k) (f m).to q)
      go true p false q (yes d) r = let x : (f j).to ≡ (f m).to = ap (λ i. (f i).to) d in omega (arith, leb-false (highest f m k) (f m).to q)
      go true p false q (no d) r = r (omega arith) e
      go false p c q (yes d) r = absurd (eqb-false (key_of (f m)) k p (sym (ap (λ i. key_of (f i)) d) ∙ e))
      go false p c q (no d) r = r (omega arith) e

  reached : (m k : ℕ) → (highest f m k ≡ 0) ⊎ Highest f m k (highest f m k)
  unfolding highest
  reached zero k = inl refl
  reached (suc m) k = go (eqb (key_of (f m)) k) refl (leb (highest f m k) (f m).to) (reached m k)
    where
      later : (highest f m k ≡ 0) ⊎ Highest f m k (highest f m k) → (highest f m k ≡ 0) ⊎ Highest f (suc m) k (highest f m k)
      later (inl e) = inl e
      later (inr H) = inr (record { at = H.at; below = omega (arith, H.below); key_is = H.key_is; high_is = H.high_is })

      go : (b : Bool) → eqb (key_of (f m)) k ≡ b → (c : Bool) → (highest f m k ≡ 0) ⊎ Highest f m k (highest f m k)
          → (cond b (cond c ((f m).to + 1) (highest f m k)) (highest f m k) ≡ 0)
          ⊎ Highest f (suc m) k (cond b (cond c ((f m).to + 1) (highest f m k)) (highest f m k))
      go true p true r = inr (record { at = m; below = omega arith; key_is = eqb-true (key_of (f m)) k p; high_is = omega arith })
      go true p false r = later r
      go false p c r = later r

-- ---- the edges of a step

module _ (n : ℕ) (table : List Word) (G : Table n table) (R : Rectangular n table) (t : ℕ) (deep : t < n) where
  abbrev g : ℕ → Edge
  g = edge_of n table t

  -- a vertex and a symbol are known by their key
  same_symbol : (i j : ℕ) → key_of (g i) ≡ key_of (g j) → ((g i).from ≡ (g j).from) × ((g i).symbol ≡ (g j).symbol)
  same_symbol i j e =
      let p = symbol_small_lem n t (word_at table i).label in
      let q = symbol_small_lem n t (word_at table j).label in
      (omega arith, omega arith)

  higher_new : (m : ℕ) → leads_higher g m ≡ true → New n table G R t deep m
  unfolding leads_higher
  higher_new m h j l e = let k = above_all g m (key_of (g m)) j l (ap key_of e) in let d : (g j).to ≡ (g m).to = ap (λ x. x.to) e in
      absurd (omega (arith, leb-true (highest g m (key_of (g m))) (g m).to h))

  lower_old : (m : ℕ) → m < length table → leads_higher g m ≡ false → g m ∈ each g m
  unfolding leads_higher
  lower_old m b h = go (is_in same_edge (g m) (each g m)) refl (reached g m (key_of (g m)))
    where
      less : highest g m (key_of (g m)) ≤ (g m).to → ⊥
      less l = let k = leb-false (highest g m (key_of (g m))) (g m).to h in omega arith

      not_last : (j : ℕ) → key_of (g j) ≡ key_of (g m) → (g m).to ≤ (g j).to → T (edge_less (g j) (g m)) → ⊥
      not_last j e l s = cases (lower_yes _ _ _ _ _ _ s) (same_symbol j m e)
        where
          cases : Lower (g j).from (g j).symbol (g j).to (g m).from (g m).symbol (g m).to → ((g j).from ≡ (g m).from)
              × ((g j).symbol ≡ (g m).symbol) → ⊥
          cases (by_first p) (x, y) = omega arith
          cases (by_second p q) (x, y) = omega arith
          cases (by_third p q r) (x, y) = omega arith

      go : (s : Bool) → is_in same_edge (g m) (each g m) ≡ s → (highest g m (key_of (g m)) ≡ 0)
          ⊎ Highest g m (key_of (g m)) (highest g m (key_of (g m))) → g m ∈ each g m
      go true e r = in_yes same_edge edge_ok edge_rf (g m) (each g m) (holds e)
      go false e (inl z) = absurd (less (omega arith))
      go false e (inr H) =
          let fresh : New n table G R t deep m =
          λ j l q. fails e (in_of same_edge edge_ok edge_rf (g m) (each g m) (in_each g m j (g m) l (sym q))) in
          let k = leb-false (highest g m (key_of (g m))) (g m).to h in
          absurd (not_last H.at H.key_is (omega (arith, H.high_is)) (new_last n table G R t deep m b fresh H.at H.below))

  so_far : (m : ℕ) → m ≤ length table → map g (takers g m) ≡ ascending edge_less (each g m)
  unfolding takers ascending run
  so_far zero h = refl
  so_far (suc m) h = go (leads_higher g m) refl (so_far m (omega arith))
    where
      go : (b : Bool) → leads_higher g m ≡ b → map g (takers g m) ≡ ascending edge_less (each g m)
          → map g (cond b (takers g m ++ (m ∷ [])) (takers g m)) ≡ ascending edge_less (each g (suc m))
      go true e r =
          map-append g (takers g m) (m ∷ []) ∙ ap (λ l. l ++ (g m ∷ [])) r
          ∙ sym (ascending_new edge_less edges_order g m (new_last n table G R t deep m h (higher_new m e)))
      go false e r = r ∙ sym (ascending_old edge_less edges_order g m (lower_old m h e))

-- ---- read from the map

module _ (f g : ℕ → Edge) where
  highest_same : (m k : ℕ) → ((i : ℕ) → i < m → f i ≡ g i) → highest f m k ≡ highest g m k
  unfolding highest
  highest_same zero k h = refl
  highest_same (suc m) k h =
      ap₂ (λ e x. cond (eqb (key_of e) k) (raised x e.to) x) (h m (omega arith)) (highest_same m k (λ i l. h i (omega arith)))

  takers_same : (m : ℕ) → ((i : ℕ) → i < m → f i ≡ g i) → takers f m ≡ takers g m
  unfolding takers leads_higher
  takers_same zero h = refl
  takers_same (suc m) h =
      ap₂ (λ b l. cond b (l ++ (m ∷ [])) l)
      (ap₂ (λ x e. leb x e.to)
      (highest_same m (key_of (f m)) (λ i l. h i (omega arith)) ∙ ap (λ e. highest g m (key_of e)) (h m (omega arith)))
      (h m (omega arith)))
      (takers_same m (λ i l. h i (omega arith)))

  edges_same : (m : ℕ) → ((i : ℕ) → i < m → f i ≡ g i) → map f (takers g m) ≡ map g (takers g m)
  unfolding takers
  edges_same zero h = refl
  edges_same (suc m) h = go (leads_higher g m) (edges_same m (λ i l. h i (omega arith)))
    where
      go : (b : Bool) → map f (takers g m) ≡ map g (takers g m)
          → map f (cond b (takers g m ++ (m ∷ [])) (takers g m)) ≡ map g (cond b (takers g m ++ (m ∷ [])) (takers g m))
      go true r = map-append f (takers g m) (m ∷ []) ∙ ap₂ (λ l e. l ++ (e ∷ [])) r (h m (omega arith))
          ∙ sym (map-append g (takers g m) (m ∷ []))
      go false r = r

-- edges f that are those of the words: their first takers give the step's edges
pub takers_edges : (n : ℕ) (table : List Word) → Table n table → Rectangular n table → (t : ℕ) → t < n → (f : ℕ → Edge)
    → ((i : ℕ) → i < length table → f i ≡ edge_of n table t i) → map f (takers f (length table)) ≡ edges_at n table t
unfolding edges_at
takers_edges n table G R t deep f is =
    ap (map f) (takers_same f (edge_of n table t) (length table) is)
    ∙ edges_same f (edge_of n table t) (length table) is
    ∙ so_far n table G R t deep (length table) (le_refl _)
