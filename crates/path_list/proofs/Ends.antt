-- What listing leaves behind all checks. The first of the listed paths is the one that decoding gives; so the list is empty exactly where
-- the start state has the mark for no path, and then the cost table alone is left. Elsewhere the paths stand in front of their buffers.
use mathlib.Core.Path.{◌≡◌, refl, sym, ap, ◌∙◌}
use mathlib.Core.List.{List, [], ◌∷◌, map, flat_map}
use Prim.Native.Nat.{ℕ, suc, ◌-◌}
use native.Mathlib.Omega.{arith}
use lib.ListN.{length, get_or}
use Rattle.trellis.specs.Lists.{over}
use Rattle.trellis.specs.Outcome.{success, no_path}
use Rattle.trellis.specs.Word.{Word}
use Rattle.paths.specs.Choice.{none, some}
use Rattle.paths.specs.Chain.{path_distance, unreached, ends_in}
use Rattle.ranking.specs.Several.{best_paths}
use Rattle.ranking.specs.Inner.Bests.{head_of}
use Rattle.ranking.proofs.Chain.{first_is_best}
use Rattle.section_file.specs.declared.View.{View}
use Rattle.cost_table.specs.Inner.Filled.{EndRow, held_blocks, Filled}
use Rattle.settling.specs.Inner.Settled.{Settled}
use Rattle.frame.specs.Frame.{Frame, block_count, block_words, word_distance}
use Rattle.frame.specs.Inner.Checked.{FrameChecked}
use Rattle.room.specs.Inner.Fitting.{Few, RoomToList}
use Rattle.decoding.specs.Decoding.{best_by, best_of, table_of}
use Rattle.decoding.proofs.Ends.{table_over, best_none, best_some}
use Rattle.path_list.specs.Listing.{left, list_of, found, fitted}
use Rattle.path_list.specs.Inner.Paths.{PathsListed}
use Rattle.path_list.proofs.Faults.{past_room}

-- the first is what decoding gives
first_of : (f : Frame) (paths : ℕ) → Few paths → head_of (path_distance (word_distance f) 0) (list_of f paths) ≡ best_of f
unfolding list_of best_by
first_of f paths W =
    let e : paths ≡ suc (paths - 1) = omega (arith, W.some) in
    ap (λ j. head_of (path_distance (word_distance f) 0)
    (best_paths (block_words f) (ends_in f.end) (word_distance f) j (block_count f) 0 f.start)) e
    ∙ first_is_best (block_words f) (ends_in f.end) (word_distance f) (paths - 1) (block_count f) 0 f.start

module _ (f : Frame) (paths : ℕ) (costs distances labels goals : List ℕ) where
  abbrev cost : List Word → ℕ
  cost = path_distance (word_distance f) 0

  found_none : (l : List (List Word)) → head_of cost l ≡ none
      → found f paths costs distances labels goals l ≡ left no_path (over (table_of f) costs) distances labels goals
  unfolding found
  found_none [] e = refl
  found_none (p ∷ ps) e = let z : ◌≡◌ {A = ℕ} 0 1 = cc in absurd (omega arith)

  found_some : {d : ℕ} {p : List Word} (l : List (List Word)) → head_of cost l ≡ some d p
      → found f paths costs distances labels goals l
      ≡ left (success (length l)) (over (table_of f) costs) (over (map cost l) distances) (over (flat_map (map (λ w. w.label)) l) labels)
      (over (flat_map (map (λ w. w.goal)) l) goals)
  unfolding found
  found_some [] e = let z : ◌≡◌ {A = ℕ} 0 1 = cc in absurd (omega arith)
  found_some (p ∷ ps) e = refl

module _ {f : Frame} {starts : List ℕ} {views : List View} {paths : ℕ} {ends to_pay costs notes new distances labels goals : List ℕ}
    (K : FrameChecked f starts views) (W : Few paths) (E : EndRow f.end ends)
    (R : RoomToList f.indices paths costs distances labels goals)
    (F : Filled (held_blocks f.sections starts views f.indices f.received f.erased) ends to_pay costs notes)
    (S : Settled (block_count f) ends notes new) where
  pub ends_none : get_or to_pay f.start 0 ≡ unreached
      → left no_path new distances labels goals ≡ fitted f paths costs distances labels goals
  ends_none e =
      past_room f paths costs distances labels goals R.none_short
      (ap (λ c. left no_path c distances labels goals) (table_over K E R.for_costs F S)
      ∙ sym (found_none f paths costs distances labels goals (list_of f paths) (first_of f paths W ∙ best_none K E R.for_costs F e)))

  pub ends_paths : {r : ℕ} {new_distances new_labels new_goals : List ℕ} → (get_or to_pay f.start 0 ≡ unreached → ⊥)
      → PathsListed f paths r distances new_distances labels new_labels goals new_goals
      → left (success r) new new_distances new_labels new_goals ≡ fitted f paths costs distances labels goals
  ends_paths {r} {new_distances} {new_labels} {new_goals} n P =
      past_room f paths costs distances labels goals R.none_short
      (whole P.many (table_over K E R.for_costs F S) P.distances_are P.labels_are P.goals_are
      ∙ sym (found_some f paths costs distances labels goals (list_of f paths) (first_of f paths W ∙ best_some K E R.for_costs F n)))
    where
      whole : {m : ℕ} {a b c d : List ℕ} → r ≡ m → new ≡ a → new_distances ≡ b → new_labels ≡ c → new_goals ≡ d
          → left (success r) new new_distances new_labels new_goals ≡ left (success m) a b c d
      whole m p q r s = λ i. left (success (m i)) (p i) (q i) (r i) (s i)
