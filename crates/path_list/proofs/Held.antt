-- What is said of a frame, as the code has it: it widens the states, and behind fault 9 K plays no part, so that what holds of one K holds
-- of any. And how the code begins: with back pointers that are all 0.
use mathlib.Core.Path.{◌≡◌, refl, sym, ap, subst, ◌∙◌}
use mathlib.Core.List.{List}
use Prim.Native.Nat.{ℕ, ◌≤◌, ◌<◌}
use native.Mathlib.Decide.{dec_lt}
use native.Mathlib.Omega.{arith}
use lib.ListN.{length, get_or, replicate, length-replicate, get_or-replicate, get_or-eq_default}
use Rattle.trellis.specs.Bounds.{most_symbols}
use Rattle.trellis.specs.Outcome.{success, no_path}
use Rattle.trellis.specs.Word.{Word}
use Rattle.paths.specs.Chain.{unreached}
use Rattle.section_file.specs.declared.View.{View}
use Rattle.passes.specs.Inner.Chains.{least_from}
use Rattle.beginnings.specs.Inner.Trails.{back_long, NotedWell}
use Rattle.cost_table.specs.Inner.Filled.{EndRow, held_blocks, Filled}
use Rattle.settling.specs.Inner.Settled.{Settling, Settled}
use Rattle.frame.specs.Frame.{frame, block_words, word_distance_by, word_distance}
use Rattle.frame.specs.Inner.Checked.{Checked}
use Rattle.room.specs.Inner.Fitting.{Few, RoomToList}
use Rattle.decoding.specs.Decoding.{table_of}
use Rattle.decoding.proofs.Ends.{distance_to, settling, costs_from, opened}
use Rattle.forward.specs.Inner.Fronts.{Tabled}
use Rattle.path_list.specs.Listing.{left, list_of, found, fitted}
use Rattle.path_list.specs.Inner.Paths.{PathsListed}
use Rattle.path_list.proofs.Ends.{ends_none, ends_paths}

-- back pointers that are all 0 lead to place 0, in state 0
pub blank_noted : NotedWell (replicate back_long 0)
blank_noted = record {
  long = length-replicate {A = ℕ} back_long 0;
  proper = λ i. let z = zeros i in omega arith;
  small = λ i. let z = zeros i in omega arith;
}
  where
    zeros : (i : ℕ) → ◌≡◌ {A = ℕ} (get_or (replicate back_long 0) i 0) 0
    zeros i = go (dec_lt i back_long)
      where
        go : Dec (i < back_long) → ◌≡◌ {A = ℕ} (get_or (replicate back_long 0) i 0) 0
        go (yes h) = get_or-replicate {A = ℕ} back_long i 0 0 h
        go (no h) = get_or-eq_default {A = ℕ} (replicate back_long 0) 0 {n = i} (omega (arith, length-replicate {A = ℕ} back_long 0))

module _ {sections starts : List ℕ} {views : List View} {indices received erased : List ℕ} {start end : ℕ}
    (C : Checked sections starts views indices received erased start end) where
  -- no distance is above 8
  pub near : (b : ℕ) (w : Word) → word_distance (frame sections 0 indices received erased start end) b w ≤ most_symbols
  unfolding word_distance_by
  near b w = distance_to C.checks b w

  module _ {to paths : ℕ} {ends to_pay costs notes distances labels goals : List ℕ} (q : to ≡ end) (E : EndRow to ends) (W : Few paths)
      (R : RoomToList indices paths costs distances labels goals)
      (F : Filled (held_blocks sections starts views indices received erased) ends to_pay costs notes) where
    E_end : EndRow end ends
    E_end = subst (λ x. EndRow x ends) q E

    pub with_notes : Settling sections starts indices ends notes
    with_notes = settling C.checks E_end R.for_costs F

    module _ {from : ℕ} {new : List ℕ} (p : from ≡ start) (S : Settled (length indices) ends notes new) where
      any_k : (i j : ℕ) → fitted (frame sections i indices received erased start end) paths costs distances labels goals
          ≡ fitted (frame sections j indices received erased start end) paths costs distances labels goals
      unfolding fitted found list_of table_of block_words word_distance_by
      any_k i j = refl

      pub with_none : get_or to_pay from 0 ≡ unreached → (k : ℕ)
          → left no_path new distances labels goals
          ≡ fitted (frame sections k indices received erased start end) paths costs distances labels goals
      with_none e k = ends_none C.checks W E_end R F S (ap (λ x. get_or to_pay x 0) (sym p) ∙ e) ∙ any_k C.k k

      module _ (n : get_or to_pay from 0 ≡ unreached → ⊥) where
        n_start : get_or to_pay start 0 ≡ unreached → ⊥
        n_start e = n (ap (λ x. get_or to_pay x 0) p ∙ e)

        pub with_table : Tabled (frame sections 0 indices received erased start end) new
        unfolding least_from block_words word_distance_by
        with_table = record {
          long = omega (arith, S.long, F.long, R.for_costs);
          at = λ b s h l. (costs_from C.checks E_end R.for_costs F S).at b s (omega arith) h l;
          some = opened C.checks E_end R.for_costs F n_start;
        }

        pub with_paths : {r : ℕ} {new_distances new_labels new_goals : List ℕ}
            → PathsListed (frame sections 0 indices received erased start end) paths r distances new_distances labels new_labels goals
            new_goals
            → (k : ℕ) → left (success r) new new_distances new_labels new_goals
            ≡ fitted (frame sections k indices received erased start end) paths costs distances labels goals
        unfolding list_of block_words word_distance_by
        with_paths P k =
            ends_paths C.checks W E_end R F S n_start
            (record { many = P.many; distances_are = P.distances_are; labels_are = P.labels_are; goals_are = P.goals_are })
            ∙ any_k C.k k
