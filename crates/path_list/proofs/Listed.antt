-- What is read out behind the last block are the best paths of the frame. No block is left there, so the slots are what is kept of the
-- whole chain. Nothing is left to pay: behind the last block that is 0 or the mark for no path, and a slot costs less than that mark and
-- at least what is left. So the sorted slots lead to the kept beginnings in the order of what was paid, which is their distance; and as no
-- distance reaches the mark, these are the best of all paths. Each of them has a word for each block, so they stand one behind another.
use mathlib.Core.Path.{◌≡◌, refl, sym, ap, subst, ◌∙◌}
use mathlib.Core.Bool.{Bool, true, false, cond}
use mathlib.Core.List.{List, [], map}
use Prim.Native.Nat.{ℕ, ◌-◌, ◌*◌, ◌≤◌, ◌<◌}
use native.Mathlib.Omega.{arith}
use native.Mathlib.Nat.{le_trans, mul-le-mul_right}
use lib.Dec.{eqb}
use lib.ListN.{length, get_or, length-map, get_or-map}
use Rattle.trellis.specs.Bounds.{most_symbols, most_blocks}
use Rattle.trellis.specs.Lists.{◌∈◌, each}
use Rattle.trellis.specs.Word.{Word, word_at}
use Rattle.trellis.proofs.Lists.{length_run, each_at}
use Rattle.trellis.proofs.Buffers.{over_is}
use Rattle.paths.specs.Chain.{chain_paths, path_distance, unreached, ends_in}
use Rattle.paths.specs.Inner.Costs.{least}
use Rattle.paths.specs.Inner.Chains.{at_end, chain_least}
use Rattle.paths.proofs.Winner.{of_paths}
use Rattle.ranking.specs.Several.{sort_by, several_best, best_paths}
use Rattle.ranking.specs.Inner.Growth.{Start, start, narrow}
use Rattle.ranking.specs.Inner.Chain.{one_word, chain_rated, chain_kept, paths_kept}
use Rattle.ranking.proofs.Lists.{map_same, take_member, map-map}
use Rattle.ranking.proofs.Sorted.{of_sort}
use Rattle.ranking.proofs.Chain.{kept_paid, kept_best, short_enough}
use Rattle.dearest.specs.Inner.Items.{cost_in, code_in, Sorted}
use Rattle.codes.specs.Inner.Codes.{code_root}
use Rattle.beginnings.specs.Inner.Trails.{state_at, trail}
use Rattle.readout.specs.Inner.Read.{PathsRead}
use Rattle.readout.proofs.Sorted.{sorted_trails, sorted_paid}
use Rattle.frame.specs.Frame.{Frame, block_count, block_words, word_distance}
use Rattle.forward.specs.Inner.Fronts.{least_at, KeptAt}
use Rattle.path_list.specs.Listing.{list_of}
use Rattle.path_list.specs.Inner.Paths.{PathsListed}
use Rattle.path_list.proofs.Joined.{paths_over}

-- where there is room for all paths that are asked for, there is room for those that exist
pub room_for : (blocks : ℕ) {k r long : ℕ} → r ≤ k → k * blocks ≤ long → r * blocks ≤ long
room_for blocks h l = le_trans (mul-le-mul_right blocks h) l

module _ {f : Frame} {k r : ℕ} {slots back sorted : List ℕ} (few : block_count f ≤ most_blocks)
    (near : (b : ℕ) (w : Word) → word_distance f b w ≤ most_symbols) (K : KeptAt f k (block_count f) r slots back)
    (O : Sorted slots r sorted) where
  abbrev by_paid : List (Start (List Word)) → List (Start (List Word))
  by_paid = sort_by (λ x. x.paid)

  abbrev trail_of : ℕ → List Word
  trail_of q = trail back f.start (block_count f) (code_root (code_in (get_or sorted q 0)))

  none_left : block_count f - block_count f ≡ 0
  none_left = omega arith

  kept_is : K.kept ≡ chain_kept (block_words f) (ends_in f.end) (word_distance f) unreached k (block_count f) 0 f.start
  unfolding narrow
  kept_is =
      sym (ap (λ m. narrow (one_word (block_words f) (ends_in f.end) (word_distance f))
      (chain_rated (block_words f) (ends_in f.end) (word_distance f) unreached) unreached k m (block_count f) K.kept) none_left)
      ∙ K.whole

  -- ---- nothing is left to pay

  behind_all : (s : ℕ) → least_at f (block_count f) s ≡ at_end unreached (ends_in f.end) s
  unfolding chain_least least
  behind_all s =
      ap (λ m. chain_least (block_words f) (ends_in f.end) (word_distance f) unreached m (block_count f) s) none_left

  spent : (j : ℕ) → j < r → least_at f (block_count f) (state_at back f.start (block_count f) j) ≡ 0
  spent j h = e ∙ go (eqb s f.end) refl
    where
      s : ℕ
      s = state_at back f.start (block_count f) j

      e : least_at f (block_count f) s ≡ cond (eqb s f.end) 0 unreached
      e = behind_all s

      go : (t : Bool) → eqb s f.end ≡ t → cond (eqb s f.end) 0 unreached ≡ 0
      go true p = ap (λ b. cond b 0 unreached) p
      go false p =
          let z : cond (eqb s f.end) 0 unreached ≡ unreached = ap (λ b. cond b 0 unreached) p in
          let l = K.are.low j h in
          let m = K.are.paid j h in
          absurd (omega (arith, e))

  -- ---- the list, its paths and their distances

  list_is : list_of f k ≡ map (λ x. x.had) (by_paid K.kept)
  unfolding list_of paths_kept
  list_is =
      let m : block_count f * most_symbols ≤ most_blocks * most_symbols = mul-le-mul_right most_symbols few in
      sym (kept_best (block_words f) (ends_in f.end) (word_distance f) unreached k (block_count f) 0 f.start
      (short_enough (block_words f) (ends_in f.end) (word_distance f) most_symbols unreached near (block_count f) 0 f.start (omega arith)))
      ∙ ap (λ l. map (λ x. x.had) (by_paid l)) (sym kept_is)

  trails_are : list_of f k ≡ each trail_of r
  trails_are = list_is ∙ sorted_trails K.are O spent

  list_long : length (list_of f k) ≡ r
  list_long = ap length trails_are ∙ length_run trail_of 0 r

  path_at : (q : ℕ) → q < r → get_or (list_of f k) q [] ≡ trail_of q
  path_at q h = ap (λ l. get_or l q []) trails_are ∙ each_at trail_of r q [] h

  path_long : (p : List Word) → p ∈ list_of f k → length p ≡ block_count f
  unfolding list_of best_paths several_best
  path_long p m =
      let all = chain_paths (block_words f) (ends_in f.end) (block_count f) 0 f.start in
      let cost = path_distance (word_distance f) 0 in
      (of_paths (block_words f) (ends_in f.end) (block_count f) 0 f.start p
      (of_sort cost all p (take_member k (sort_by cost all) p m))).long

  distances_are_lem : map (path_distance (word_distance f) 0) (list_of f k) ≡ map (λ x. x.paid) (by_paid K.kept)
  distances_are_lem =
      ap (map (path_distance (word_distance f) 0)) list_is ∙ map-map (path_distance (word_distance f) 0) (λ x. x.had) (by_paid K.kept)
      ∙ map_same (λ x. path_distance (word_distance f) 0 x.had) (λ x. x.paid) (by_paid K.kept)
      (λ x m.
      kept_paid (block_words f) (ends_in f.end) (word_distance f) unreached k (block_count f) 0 f.start x
      (subst (λ l. x ∈ l) kept_is (of_sort (λ y. y.paid) K.kept x m)))

  distance_at_lem : (q : ℕ) → q < r → get_or (map (path_distance (word_distance f) 0) (list_of f k)) q 0 ≡ cost_in (get_or sorted q 0)
  distance_at_lem q h =
      ap (λ l. get_or l q 0) distances_are_lem ∙ get_or-map (λ x. x.paid) (by_paid K.kept) q (start [] 0 0)
      ∙ sorted_paid K.are O spent q (start [] 0 0) h

  -- ---- read out

  module _ {distances new_distances labels new_labels goals new_goals : List ℕ} (some : 0 < block_count f)
      (P : PathsRead sorted back (block_count f) distances new_distances labels new_labels goals new_goals r)
      (for_distances : k ≤ length distances) (for_labels : k * block_count f ≤ length labels)
      (for_goals : k * block_count f ≤ length goals) where
    front_of : (g : Word → ℕ) (q i : ℕ) → q < length (list_of f k) → g (word_at (trail_of q) i) ≡ g (word_at (get_or (list_of f k) q []) i)
    front_of g q i h = ap (λ p. g (word_at p i)) (sym (path_at q (omega (arith, list_long))))

    words_long : length (list_of f k) * block_count f ≡ r * block_count f
    words_long = ap (λ m. m * block_count f) list_long

    pub listed : PathsListed f k r distances new_distances labels new_labels goals new_goals
    listed = record {
      many = sym list_long;
      distances_are =
          over_is (map (path_distance (word_distance f) 0) (list_of f k)) distances new_distances
          (omega (arith, long, K.few)) P.long_distances
          (λ q h. P.distance_at q (omega (arith, long)) ∙ sym (distance_at_lem q (omega (arith, long))))
          (λ q h. P.other_distances q (omega (arith, long)));
      labels_are =
          paths_over (λ w. w.label) (block_count f) (list_of f k) labels new_labels some path_long
          (omega (arith, words_long, room_for (block_count f) K.few for_labels)) P.long_labels
          (λ q i h l. P.label_at f.start q i (omega (arith, list_long)) l ∙ front_of (λ w. w.label) q i h)
          (λ j h. P.other_labels j (omega (arith, words_long))) refl;
      goals_are =
          paths_over (λ w. w.goal) (block_count f) (list_of f k) goals new_goals some path_long
          (omega (arith, words_long, room_for (block_count f) K.few for_goals)) P.long_goals
          (λ q i h l. P.goal_at f.start q i (omega (arith, list_long)) l ∙ front_of (λ w. w.goal) q i h)
          (λ j h. P.other_goals j (omega (arith, words_long))) refl;
    }
      where
        long : length (map (path_distance (word_distance f) 0) (list_of f k)) ≡ r
        long = length-map (list_of f k) (path_distance (word_distance f) 0) ∙ list_long
