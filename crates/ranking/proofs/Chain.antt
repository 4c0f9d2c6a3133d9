-- The k best paths of a chain from k beginnings: what is kept behind the last block, sorted by what was paid, are the k best of all paths.
-- The beginnings of full length that end where a path may end are all paths, in word order, and what was paid for them is their distance.
use mathlib.Core.Path.{◌≡◌, refl, sym, ap, ap₂, subst, ◌∙◌}
use mathlib.Core.Bool.{Bool, true, false, cond}
use mathlib.Core.List.Memᴰ
use mathlib.Core.List.{List, [], ◌∷◌, ◌++◌, append_assoc, append-nil, map, flat_map, Memᴰ}
use Prim.Native.Nat.{ℕ, zero, suc, ◌+◌, ◌*◌, ◌≤◌, ◌<◌, min}
use native.Mathlib.Omega.{arith}
use native.Mathlib.Nat.{add_assoc, add-zero, suc-mul}
use native.Mathlib.Decide.{dec_le}
use lib.Dec.{ltb}
use lib.ListN.{length, take}
use borrow.Author.Tests.{ltb-true, lt-ltb, le-ltb}
use Rattle.trellis.specs.Lists.{◌∈◌, keep}
use Rattle.trellis.specs.Word.{Word, Before}
use Rattle.trellis.proofs.Bools.{is_true}
use Rattle.paths.specs.Chain.{chain_paths, path_distance, best_path, ChainBefore}
use Rattle.paths.specs.Inner.Costs.{plus, min_all, least}
use Rattle.paths.specs.Inner.Chains.{chain_graph, at_end}
use Rattle.paths.specs.Inner.Ordered.{Ordered}
use Rattle.paths.proofs.Walk.{paths}
use Rattle.paths.proofs.Ordered.{of_flat_map, of_keep, keep_every}
use Rattle.paths.proofs.Chain.{chain_paths_lem}
use Rattle.paths.proofs.Winner.{of_paths, chains_ordered}
use Rattle.ranking.specs.Several.{sort_by, several_best, best_paths}
use Rattle.ranking.specs.Inner.Bests.{head_of, Bests}
use Rattle.ranking.specs.Inner.Kept.{keep_best, live, keep_live}
use Rattle.ranking.specs.Inner.Growth.{after, spread, Start, start, further, extended, rated}
use Rattle.ranking.specs.Inner.Chain.{one_word, chain_rated, chain_kept, paths_kept}
use Rattle.ranking.proofs.Lists.{keep_map, keep_same, keep_keep, map_itself}
use Rattle.ranking.proofs.Cut.{kept_member}
use Rattle.ranking.proofs.Sorted.{kept_sorted, bests, best_start, best_head}
use Rattle.ranking.proofs.Mapped.{best_map, best_same, sort_same}
use Rattle.ranking.proofs.Narrowed.{narrow_keeps}
use Rattle.ranking.proofs.Starts.{rated_least, spread_paths}

ltb_min : (top p : ℕ) → ltb p top ≡ ltb (min top (p + 0)) top
ltb_min top p = go (dec_le top p)
  where
    go : Dec (top ≤ p) → ltb p top ≡ ltb (min top (p + 0)) top
    go (yes h) = le-ltb p top h ∙ sym (le-ltb (min top (p + 0)) top (omega arith))
    go (no h) = lt-ltb p top (omega arith) ∙ sym (lt-ltb (min top (p + 0)) top (omega arith))

module _ (words : ℕ → List Word) (ends : ℕ → Bool) (dist : ℕ → Word → ℕ) where
  abbrev Begun : Type 0
  Begun = Start (List Word)

  abbrev with_word : List Word → Word → List Word
  with_word ws w = ws ++ (w ∷ [])

  rated_is : (top m b : ℕ) (x : Begun)
      → chain_rated words ends dist top (suc m) b x ≡ min_all top (chain_rated words ends dist top m (suc b)) (one_word words ends dist b x)
  unfolding chain_rated one_word
  rated_is top m b x = rated_least (chain_graph words ends) dist with_word top (at_end top ends) m b x

  -- ---- all beginnings of full length

  abbrev full : ℕ → ℕ → ℕ → List Begun
  full m b s = spread (one_word words ends dist) m b (start [] s 0 ∷ [])

  -- with what may end there
  abbrev ended_had : List Begun → List (List Word)
  ended_had xs = flat_map (λ x. map (λ p. x.had ++ p) (cond (ends x.at) ([] ∷ []) [])) xs

  ended_in : (xs : List Begun) → ended_had xs ≡ map (λ x. x.had) (keep (λ x. ends x.at) xs)
  unfolding flat_map keep
  ended_in [] = refl
  ended_in (x ∷ xs) = go (ends x.at) (ended_in xs)
    where
      go : (t : Bool) → ended_had xs ≡ map (λ x. x.had) (keep (λ x. ends x.at) xs)
          → map (λ p. x.had ++ p) (cond t ([] ∷ []) []) ++ ended_had xs
          ≡ map (λ x. x.had) (cond t (x ∷ keep (λ x. ends x.at) xs) (keep (λ x. ends x.at) xs))
      go true r = ap₂ (λ a l. a ∷ l) (append-nil x.had) r
      go false r = r

  all_paths : (m b s : ℕ) → chain_paths words ends m b s ≡ map (λ x. x.had) (keep (λ x. ends x.at) (full m b s))
  unfolding one_word further flat_map
  all_paths m b s =
      chain_paths_lem words ends m b s ∙ sym (append-nil _ ∙ map_itself (λ p. [] ++ p) (paths (chain_graph words ends) m b s) (λ p. refl))
      ∙ spread_paths (chain_graph words ends) dist with_word (λ t x p. x.had ++ p)
      (λ t x w p. sym (append_assoc x.had (w ∷ []) p)) m b (start [] s 0 ∷ [])
      ∙ ended_in (full m b s)

  -- ---- what was paid is the distance

  abbrev Paid : ℕ → ℕ → Begun → Type 0
  Paid b t x = (rest : List Word) → path_distance dist b (x.had ++ rest) ≡ x.paid + path_distance dist t rest

  paid_further : (b t : ℕ) (x : Begun) (w : Word) → Paid b t x → Paid b (suc t) (further (chain_graph words ends) dist with_word t x w)
  unfolding further path_distance
  paid_further b t x w p rest =
      ap (path_distance dist b) (append_assoc x.had (w ∷ []) rest) ∙ p (w ∷ rest)
      ∙ sym (add_assoc x.paid (dist t w) (path_distance dist (suc t) rest))

  paid_spread : (m b t : ℕ) (xs : List Begun) → ((x : Begun) → x ∈ xs → Paid b t x)
      → (y : Begun) → y ∈ spread (one_word words ends dist) m t xs → Paid b (after m t) y
  unfolding spread after one_word extended
  paid_spread zero b t xs h y k = h y k
  paid_spread (suc m) b t xs h y k = paid_spread m b (suc t) (flat_map (one_word words ends dist t) xs) next y k
    where
      next : (z : Begun) → z ∈ flat_map (one_word words ends dist t) xs → Paid b (suc t) z
      next z l =
          let w = of_flat_map (one_word words ends dist t) xs z l in
          let v
          = Memᴰ.of_map (further (chain_graph words ends) dist with_word t w.source) ((chain_graph words ends).out t w.source.at)
          w.holds in
          subst (Paid b (suc t)) v.2 (paid_further b t w.source v.0 (h w.source w.listed))

  paid_full : (m b s : ℕ) (x : Begun) → x ∈ full m b s → path_distance dist b x.had ≡ x.paid
  unfolding path_distance
  paid_full m b s x k =
      let p = paid_spread m b b (start [] s 0 ∷ []) first x k in
      ap (path_distance dist b) (sym (append-nil x.had)) ∙ p [] ∙ add-zero x.paid
    where
      first : (y : Begun) → y ∈ start [] s 0 ∷ [] → Paid b b y
      first y l = subst (Paid b b) (sym (Memᴰ.eq_of_singleton l)) (λ rest. omega arith)

  module _ (top : ℕ) where
    -- ---- with no block left

    abbrev final : ℕ → ℕ → Begun → ℕ
    final m b x = chain_rated words ends dist top zero (after m b) x

    final_live : (m b : ℕ) (x : Begun) → cond (ends x.at) (ltb x.paid top) false ≡ ltb (final m b x) top
    unfolding chain_rated rated least plus
    final_live m b x = go (ends x.at)
      where
        go : (t : Bool) → cond t (ltb x.paid top) false ≡ ltb (min top (x.paid + cond t 0 top)) top
        go true = ltb_min top x.paid
        go false = sym (le-ltb _ top (omega arith))

    final_paid : (m b : ℕ) (x : Begun) → final m b x < top → final m b x ≡ x.paid
    unfolding chain_rated rated least plus
    final_paid m b x = go (ends x.at)
      where
        go : (t : Bool) → min top (x.paid + cond t 0 top) < top → min top (x.paid + cond t 0 top) ≡ x.paid
        go true h = omega arith
        go false h = absurd (omega arith)

    live_paths : (m b s : ℕ)
        → keep (λ p. ltb (path_distance dist b p) top) (chain_paths words ends m b s) ≡ map (λ x. x.had) (live (final m b) top (full m b s))
    unfolding live
    live_paths m b s =
        ap (keep (λ p. ltb (path_distance dist b p) top)) (all_paths m b s)
        ∙ keep_map (λ p. ltb (path_distance dist b p) top) (λ x. x.had) (keep (λ x. ends x.at) (full m b s))
        ∙ ap (map (λ x. x.had))
        (keep_same _ (λ x. ltb x.paid top) (keep (λ x. ends x.at) (full m b s))
        (λ x k. ap (λ n. ltb n top) (paid_full m b s x (of_keep (λ x. ends x.at) (full m b s) x k).listed))
        ∙ keep_keep (λ x. ltb x.paid top) (λ x. ends x.at) (full m b s)
        ∙ keep_same _ _ (full m b s) (λ x k. final_live m b x))

    -- ---- the k best

    kept_is : (k m b s : ℕ) → chain_kept words ends dist top k m b s ≡ keep_live (final m b) top k (full m b s)
    unfolding chain_kept
    kept_is k m b s =
        narrow_keeps (one_word words ends dist) (chain_rated words ends dist top) top (rated_is top) k m b (start [] s 0 ∷ [])

    live_full : (m b s : ℕ) (x : Begun) → x ∈ live (final m b) top (full m b s)
        → (path_distance dist b x.had ≡ x.paid) × (final m b x ≡ x.paid)
    unfolding live
    live_full m b s x k =
        let l = of_keep (λ x. ltb (final m b x) top) (full m b s) x k in
        let h = ltb-true (final m b x) top (is_true (ltb (final m b x) top) l.passes) in
        (paid_full m b s x l.listed, final_paid m b x h)

    -- of the paths whose distance is below top, with no condition
    pub kept_live : (k m b s : ℕ)
        → paths_kept words ends dist top k m b s
        ≡ several_best (path_distance dist b) k (keep (λ p. ltb (path_distance dist b p) top) (chain_paths words ends m b s))
    unfolding paths_kept keep_live
    kept_live k m b s =
        ap (λ l. map (λ x. x.had) (sort_by (λ x. x.paid) l)) (kept_is k m b s)
        ∙ ap (map (λ x. x.had))
        (sort_same (λ x. x.paid) (final m b) (keep_best (final m b) k alive)
        (λ x i. sym (live_full m b s x (kept_member (final m b) k alive x i)).1)
        ∙ kept_sorted (final m b) k alive
        ∙ best_same (final m b) (λ x. path_distance dist b x.had) k alive (λ x i. let e = live_full m b s x i in e.1 ∙ sym e.0))
        ∙ sym (best_map (path_distance dist b) (λ x. x.had) k alive)
        ∙ ap (several_best (path_distance dist b) k) (sym (live_paths m b s))
      where
        alive : List Begun
        alive = live (final m b) top (full m b s)

    -- what was paid for a kept one is its distance
    pub kept_paid : (k m b s : ℕ) (x : Begun) → x ∈ chain_kept words ends dist top k m b s → path_distance dist b x.had ≡ x.paid
    unfolding keep_live
    kept_paid k m b s x i =
        let l = kept_member (final m b) k (live (final m b) top (full m b s)) x (subst (Memᴰ x) (kept_is k m b s) i) in
        (live_full m b s x l).0

    -- of all paths, where no distance can reach top
    pub kept_best : (k m b s : ℕ) → ((p : List Word) → p ∈ chain_paths words ends m b s → path_distance dist b p < top)
        → paths_kept words ends dist top k m b s ≡ best_paths words ends dist k m b s
    unfolding best_paths
    kept_best k m b s h =
        kept_live k m b s
        ∙ ap (several_best (path_distance dist b) k)
        (keep_every (λ p. ltb (path_distance dist b p) top) (chain_paths words ends m b s)
        (λ p l. lt-ltb (path_distance dist b p) top (h p l)))

  -- ---- what the k best are

  -- the first is what decoding gives
  pub first_is_best : (k m b s : ℕ)
      → head_of (path_distance dist b) (best_paths words ends dist (suc k) m b s) ≡ best_path words ends dist m b s
  unfolding best_paths best_path
  first_is_best k m b s = best_head (path_distance dist b) k (chain_paths words ends m b s)

  -- and the list for a smaller number is the start of a longer one
  pub start_of_more : (j k m b s : ℕ) → j ≤ k → take j (best_paths words ends dist k m b s) ≡ best_paths words ends dist j m b s
  unfolding best_paths
  start_of_more j k m b s h = best_start (path_distance dist b) j k (chain_paths words ends m b s) h

  -- by distance and then word order, and each other path comes behind them
  pub paths_best : (blocks : ℕ) → ((b : ℕ) → b < blocks → Ordered Before (words b)) → (k m b s : ℕ) → b + m ≤ blocks
      → Bests (path_distance dist b) ChainBefore k (chain_paths words ends m b s) (best_paths words ends dist k m b s)
  unfolding best_paths
  paths_best blocks ordered k m b s h = bests (path_distance dist b) ChainBefore k (chains_ordered words ends blocks ordered m b s h)

  -- a path of m words, each at distance d at most
  pub distance_le : (d : ℕ) → ((b : ℕ) (w : Word) → dist b w ≤ d) → (b : ℕ) (p : List Word) → path_distance dist b p ≤ length p * d
  unfolding path_distance
  distance_le d h b [] = omega arith
  distance_le d h b (w ∷ p) = omega (arith, h b w, distance_le d h (suc b) p, suc-mul (length p) d)

  pub short_enough : (d top : ℕ) → ((b : ℕ) (w : Word) → dist b w ≤ d) → (m b s : ℕ) → m * d < top
      → (p : List Word) → p ∈ chain_paths words ends m b s → path_distance dist b p < top
  short_enough d top h m b s l p k =
      let I = of_paths words ends m b s p k in
      let e : length p * d ≡ m * d = ap (λ n. n * d) I.long in
      omega (arith, distance_le d h b p)
