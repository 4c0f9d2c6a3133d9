-- What decoding leaves behind all checks, with the frame's notes, its cost table and the first path of least distance in hand. Where there
-- is no path it leaves the cost table alone. Where there is one, the notes lead along it: its words are of their sections, so their labels
-- have the sections' symbols, from which the masks are made; and what is written of each word stands in front of its buffer.
use mathlib.Core.Path.{◌≡◌, refl, sym, ap, subst, ◌∙◌}
use mathlib.Core.List.{List, map}
use Prim.Native.Nat.{ℕ, ◌^◌, ◌≤◌, ◌<◌}
use native.Mathlib.Nat.{zero-add}
use native.Mathlib.Omega.{arith}
use lib.ListN.{length, get_or, length-map, get_or-map}
use Rattle.trellis.specs.Word.{Word, word, word_at}
use Rattle.trellis.specs.Outcome.{success, no_path}
use Rattle.trellis.specs.Comparing.{differing}
use Rattle.trellis.specs.Layout.{n_of}
use Rattle.trellis.specs.Lists.{◌∈◌, over}
use Rattle.trellis.proofs.Lists.{length_run, each_at}
use Rattle.trellis.proofs.Buffers.{over_is}
use Rattle.paths.specs.Choice.{none}
use Rattle.paths.specs.Chain.{IsChainPath, unreached, ends_in}
use Rattle.paths.proofs.Winner.{best_right, word_of_lem}
use Rattle.section_file.specs.declared.View.{View}
use Rattle.section_file.proofs.Words.{label_short}
use Rattle.masks.specs.Inner.Masks.{MasksAsked, MasksPut}
use Rattle.passes.specs.Inner.Chains.{path_from, Written, Followed, FollowedTo}
use Rattle.cost_table.specs.Inner.Filled.{EndRow, held_blocks, Filled}
use Rattle.settling.specs.Inner.Settled.{Settled}
use Rattle.frame.specs.Frame.{Frame, block_count, block_section, block_words, word_distance, word_mask}
use Rattle.frame.specs.Inner.Checked.{FrameChecked}
use Rattle.room.specs.Inner.Fitting.{RoomToDecode}
use Rattle.decoding.specs.Decoding.{left, best_by, table_of, masks_of, found, fitted}
use Rattle.decoding.proofs.Faults.{past_room}
use Rattle.decoding.proofs.Ends.{chain_of, sound_at, noted, table_over, best_none, opened, best_some}

module _ {f : Frame} {starts : List ℕ} {views : List View} {ends to_pay costs notes labels goals masks : List ℕ}
    (K : FrameChecked f starts views) (E : EndRow f.end ends) (R : RoomToDecode f.indices costs labels goals masks)
    (F : Filled (held_blocks f.sections starts views f.indices f.received f.erased) ends to_pay costs notes) where
  abbrev path : List Word
  path = path_from (chain_of f) 0 f.start

  pub ends_none : get_or to_pay f.start 0 ≡ unreached → {new : List ℕ} → Settled (block_count f) ends notes new
      → left no_path new labels goals masks ≡ fitted f costs labels goals masks
  unfolding found
  ends_none e S =
      let is : left no_path (over (table_of f) costs) labels goals masks ≡ found f costs labels goals masks none = refl in
      past_room f costs labels goals masks R.none_short
      (ap (λ c. left no_path c labels goals masks) (table_over K E R.for_costs F S) ∙ is
      ∙ sym (ap (found f costs labels goals masks) (best_none K E R.for_costs F e)))

  module _ (n : get_or to_pay f.start 0 ≡ unreached → ⊥) where
    pub followed : Followed (block_count f) f.start notes labels goals
    followed = record {
      chain = chain_of f;
      blocks_is = refl;
      noted = noted K E R.for_costs F;
      start_lt = K.framed.start_below;
      some = opened K E R.for_costs F n;
      long = omega (arith, F.long, R.for_costs);
      few = K.framed.many;
      labels_long = R.for_labels;
      goals_long = R.for_goals;
    }

    path_right : IsChainPath (block_words f) (ends_in f.end) (block_count f) 0 f.start path
    unfolding best_by
    path_right = best_right (block_words f) (ends_in f.end) (word_distance f) (block_count f) 0 f.start (best_some K E R.for_costs F n)

    -- its words are of their sections, so their labels have the sections' symbols
    path_short : (b : ℕ) → b < block_count f → (word_at path b).label < 4 ^ n_of (block_section f b)
    unfolding block_words
    path_short b h =
        let m = path_right.long in
        label_short (sound_at K b) (word_at path b)
        (subst (λ x. word_at path b ∈ block_words f x) (zero-add b)
        (word_of_lem (block_words f) (ends_in f.end) 0 f.start path path_right.linked b (omega arith)))

    -- what was written of each word stands in front
    put : (g : Word → ℕ) (old written : List ℕ) → block_count f ≤ length old → length written ≡ length old
        → ((i : ℕ) → i < block_count f → get_or written i 0 ≡ g (word_at path i))
        → ((i : ℕ) → block_count f ≤ i → get_or written i 0 ≡ get_or old i 0)
        → g (word 0 0 0) ≡ 0 → written ≡ over (map g path) old
    put g old written fits same front back blank =
        let l = length-map path g in
        let m = path_right.long in
        over_is (map g path) old written (omega arith) same
        (λ i h. front i (omega arith) ∙ sym (ap (get_or (map g path) i) (sym blank) ∙ get_or-map g path i (word 0 0 0)))
        (λ i h. back i (omega arith))

    module _ {new_labels new_goals : List ℕ} (T : FollowedTo (block_count f) f.start notes labels new_labels goals new_goals) where
      Z : Written (chain_of f) f.start (block_count f) labels new_labels goals new_goals
      Z = T.written (chain_of f) refl (noted K E R.for_costs F) (opened K E R.for_costs F n)

      pub marking : MasksAsked f.received f.erased new_labels masks
      marking =
          let r = K.framed.received_long in
          record {
            erased_long = omega (arith, K.framed.erased_long);
            labels_long = omega (arith, T.labels_long, R.for_labels);
            masks_long = omega (arith, R.for_masks);
          }

      module _ {new new_masks : List ℕ} (M : MasksPut f.received f.erased new_labels masks new_masks (length f.received))
          (S : Settled (block_count f) ends notes new) where
        masks_over : new_masks ≡ over (masks_of f path) masks
        unfolding masks_of word_mask
        masks_over =
            over_is (masks_of f path) masks new_masks (omega (arith, long, R.for_masks)) M.long at
            (λ i h. M.kept i (omega (arith, long, K.framed.received_long)))
          where
            long : length (masks_of f path) ≡ block_count f
            long = length_run _ 0 (block_count f)

            at : (i : ℕ) → i < length (masks_of f path) → get_or new_masks i 0 ≡ get_or (masks_of f path) i 0
            at i h =
                let l : i < block_count f = omega (arith, long) in
                let e = Z.label_at i l in
                M.at i (n_of (block_section f i)) (omega (arith, K.framed.received_long)) (sound_at K i).n_to (K.received_short i l)
                (rw e (path_short i l))
                ∙ ap (differing (n_of (block_section f i)) (get_or f.received i 0) (get_or f.erased i 0)) e
                ∙ sym (each_at (λ b. word_mask f b (word_at path b)) (block_count f) i 0 l)

        pub ends_path : left (success (get_or to_pay f.start 0)) new new_labels new_goals new_masks ≡ fitted f costs labels goals masks
        unfolding found
        ends_path =
            past_room f costs labels goals masks R.none_short
            (whole (table_over K E R.for_costs F S)
            (put (λ w. w.label) labels new_labels R.for_labels T.labels_long Z.label_at Z.labels_kept refl)
            (put (λ w. w.goal) goals new_goals R.for_goals T.goals_long Z.goal_at Z.goals_kept refl)
            masks_over
            ∙ sym (ap (found f costs labels goals masks) (best_some K E R.for_costs F n)))
          where
            whole : {a b c d : List ℕ} → new ≡ a → new_labels ≡ b → new_goals ≡ c → new_masks ≡ d
                → left (success (get_or to_pay f.start 0)) new new_labels new_goals new_masks
                ≡ left (success (get_or to_pay f.start 0)) a b c d
            whole p q r s = λ i. left (success (get_or to_pay f.start 0)) (p i) (q i) (r i) (s i)
