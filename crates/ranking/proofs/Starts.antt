-- The beginnings of a graph's paths. What is paid and the least that is left to pay is the least over the beginnings with one edge more, by
-- the law of the cost table; and all beginnings of full length, with what may end there, are all paths, in their order.
use mathlib.Core.Path.{◌≡◌, refl, sym, ap, ◌∙◌}
use mathlib.Core.List.{List, [], ◌∷◌, map, flat_map}
use Prim.Native.Nat.{ℕ, zero, suc, ◌+◌, min}
use native.Mathlib.Omega.{arith}
use Rattle.trellis.proofs.Lists.{flat_map_map}
use Rattle.paths.specs.Inner.Graph.{Graph}
use Rattle.paths.specs.Inner.Costs.{plus, min_all, least}
use Rattle.paths.proofs.Walk.{paths}
use Rattle.paths.proofs.Capped.{min_same}
use Rattle.ranking.specs.Inner.Growth.{after, spread, Start, further, extended, rated}
use Rattle.ranking.proofs.Lists.{map_same, flat_map_same, map-map, map_flat_map, flat_map_flat_map}

min_map : {A B : Type 0} (top : ℕ) (f : B → ℕ) (g : A → B) (xs : List A) → min_all top f (map g xs) ≡ min_all top (λ x. f (g x)) xs
unfolding min_all
min_map top f g [] = refl
min_map top f g (x ∷ xs) = ap (min (f (g x))) (min_map top f g xs)

plus_min : {A : Type 0} (top d : ℕ) (f : A → ℕ) (xs : List A) → plus top d (min_all top f xs) ≡ min_all top (λ x. plus top d (f x)) xs
unfolding min_all plus
plus_min top d f [] = omega arith
plus_min top d f (x ∷ xs) = let i = plus_min top d f xs in omega arith

plus_plus : (top d e x : ℕ) → plus top d (plus top e x) ≡ plus top (d + e) x
unfolding plus
plus_plus top d e x = omega arith

module _ {E P H : Type 0} (G : Graph E P) (price : ℕ → E → ℕ) (put : H → E → H) where
  pub rated_least : (top : ℕ) (final : ℕ → ℕ) (m t : ℕ) (x : Start H)
      → rated G price top final (suc m) t x ≡ min_all top (rated G price top final m (suc t)) (extended G price put t x)
  unfolding rated least extended further
  rated_least top final m t x =
      plus_min top x.paid (λ e. plus top (price t e) (least G price top final m (suc t) (G.to e))) (G.out t x.at)
      ∙ min_same top (λ e. plus_plus top x.paid (price t e) (least G price top final m (suc t) (G.to e))) (G.out t x.at)
      ∙ sym (min_map top (rated G price top final m (suc t)) (further G price put t x) (G.out t x.at))

  -- `finish t x p` is what the beginning x and the path p make, the first step of p being step t
  module _ {R : Type 0} (finish : ℕ → Start H → P → R)
      (onto_is : (t : ℕ) (x : Start H) (e : E) (p : P) → finish t x (G.onto e p) ≡ finish (suc t) (further G price put t x e) p) where
    abbrev pub finished : ℕ → ℕ → Start H → List R
    finished m t x = map (finish t x) (paths G m t x.at)

    one_further : (m t : ℕ) (x : Start H) → finished (suc m) t x ≡ flat_map (finished m (suc t)) (extended G price put t x)
    unfolding paths extended further
    one_further m t x =
        map_flat_map (finish t x) (λ e. map (G.onto e) (paths G m (suc t) (G.to e))) (G.out t x.at)
        ∙ flat_map_same _ _ (G.out t x.at) (λ e k.
        map-map (finish t x) (G.onto e) (paths G m (suc t) (G.to e))
        ∙ map_same _ _ (paths G m (suc t) (G.to e)) (λ p l. onto_is t x e p))
        ∙ sym (flat_map_map (finished m (suc t)) (further G price put t x) (G.out t x.at))

    pub spread_paths : (m t : ℕ) (xs : List (Start H))
        → flat_map (finished m t) xs
        ≡ flat_map (λ x. map (finish (after m t) x) (G.ends x.at)) (spread (extended G price put) m t xs)
    unfolding paths spread after
    spread_paths zero t xs = refl
    spread_paths (suc m) t xs =
        flat_map_same (finished (suc m) t) (λ x. flat_map (finished m (suc t)) (extended G price put t x)) xs (λ x k. one_further m t x)
        ∙ sym (flat_map_flat_map (finished m (suc t)) (extended G price put t) xs)
        ∙ spread_paths m (suc t) (flat_map (extended G price put t) xs)
