-- What is remembered of a beginning plays no part in what is kept: it may be remembered in another way. Its rating is the same, so keeping
-- goes through the map, and growing does where both ways of remembering take in an edge alike.
use mathlib.Core.Path.{◌≡◌, refl, sym, ap, ◌∙◌}
use mathlib.Core.List.{List, map, flat_map}
use Prim.Native.Nat.{ℕ, zero, suc, ◌+◌}
use Rattle.trellis.proofs.Lists.{flat_map_map}
use Rattle.paths.specs.Inner.Graph.{Graph}
use Rattle.ranking.specs.Inner.Kept.{keep_live}
use Rattle.ranking.specs.Inner.Growth.{narrow, Start, start, further, extended, rated}
use Rattle.ranking.proofs.Lists.{map_same, map-map, flat_map_same, map_flat_map}
use Rattle.ranking.proofs.Mapped.{live_map}

-- remembered otherwise
unfoldable pub renamed : {H K : Type 0} → (H → K) → Start H → Start K
renamed h x = start (h x.had) x.at x.paid

module _ {E P H K : Type 0} (G : Graph E P) (price : ℕ → E → ℕ) (put : H → E → H) (put' : K → E → K) (h : H → K)
    (is : (x : H) (e : E) → h (put x e) ≡ put' (h x) e) where
  extended_renamed : (t : ℕ) (x : Start H) → extended G price put' t (renamed h x) ≡ map (renamed h) (extended G price put t x)
  unfolding renamed extended further
  extended_renamed t x =
      map_same (further G price put' t (renamed h x)) (λ e. renamed h (further G price put t x e)) (G.out t x.at)
      (λ e m. ap (λ y. start y (G.to e) (x.paid + price t e)) (sym (is x.had e)))
      ∙ sym (map-map (renamed h) (further G price put t x) (G.out t x.at))

  module _ (top : ℕ) (final : ℕ → ℕ) where
    rated_renamed : (m t : ℕ) (x : Start H) → rated G price top final m t (renamed h x) ≡ rated G price top final m t x
    unfolding renamed rated
    rated_renamed m t x = refl

    live_renamed : (k m t : ℕ) (xs : List (Start H))
        → keep_live (rated G price top final m t) top k (map (renamed h) xs)
        ≡ map (renamed h) (keep_live (rated G price top final m t) top k xs)
    live_renamed k m t xs =
        live_map (rated G price top final m t) (renamed h) top k xs
        ∙ ap (λ f. map (renamed h) (keep_live f top k xs)) (λ i x. rated_renamed m t x i)

    pub narrow_renamed : (k m t : ℕ) (xs : List (Start H))
        → narrow (extended G price put') (rated G price top final) top k m t (map (renamed h) xs)
        ≡ map (renamed h) (narrow (extended G price put) (rated G price top final) top k m t xs)
    unfolding narrow
    narrow_renamed k zero t xs = refl
    narrow_renamed k (suc m) t xs =
        ap (λ l. narrow (extended G price put') (rated G price top final) top k m (suc t)
        (keep_live (rated G price top final m (suc t)) top k l))
        (flat_map_map (extended G price put' t) (renamed h) xs ∙ flat_map_same _ _ xs (λ x i. extended_renamed t x)
        ∙ sym (map_flat_map (renamed h) (extended G price put t) xs))
        ∙ ap (narrow (extended G price put') (rated G price top final) top k m (suc t))
        (live_renamed k m (suc t) (flat_map (extended G price put t) xs))
        ∙ narrow_renamed k m (suc t) (keep_live (rated G price top final m (suc t)) top k (flat_map (extended G price put t) xs))
