-- What `Ends` and `Best` say of a frame, as the code has it: it widens the states, and behind fault 9 K plays no part, so that what holds
-- of one K holds of any.
use mathlib.Core.Path.{◌≡◌, refl, sym, ap, subst, ◌∙◌}
use mathlib.Core.List.{List}
use Prim.Native.Nat.{ℕ}
use lib.ListN.{length, get_or}
use Rattle.trellis.specs.Outcome.{success, no_path}
use Rattle.paths.specs.Chain.{unreached}
use Rattle.section_file.specs.declared.View.{View}
use Rattle.masks.specs.Inner.Masks.{MasksAsked, MasksPut}
use Rattle.passes.specs.Inner.Chains.{Followed, FollowedTo}
use Rattle.cost_table.specs.Inner.Filled.{EndRow, held_blocks, Filled}
use Rattle.settling.specs.Inner.Settled.{Settling, Settled}
use Rattle.frame.specs.Frame.{frame, block_words, word_distance_by, word_mask}
use Rattle.frame.specs.Inner.Checked.{Checked}
use Rattle.room.specs.Inner.Fitting.{RoomToDecode}
use Rattle.decoding.specs.Decoding.{left, best_by, table_of, masks_of, found, fitted}
use Rattle.decoding.proofs.Ends.{settling}
use Rattle.decoding.proofs.Best.{ends_none, followed, marking, ends_path}

-- behind fault 9 K plays no part
pub any_k : (sections indices received erased : List ℕ) (start end i j : ℕ) (costs labels goals masks : List ℕ)
    → fitted (frame sections i indices received erased start end) costs labels goals masks
    ≡ fitted (frame sections j indices received erased start end) costs labels goals masks
unfolding fitted found best_by table_of masks_of word_mask block_words word_distance_by
any_k sections indices received erased start end i j costs labels goals masks = refl

module _ {sections starts : List ℕ} {views : List View} {indices received erased : List ℕ} {start end from to : ℕ}
    {ends to_pay costs notes labels goals masks : List ℕ} (C : Checked sections starts views indices received erased start end)
    (p : from ≡ start) (q : to ≡ end) (E : EndRow to ends) (R : RoomToDecode indices costs labels goals masks)
    (F : Filled (held_blocks sections starts views indices received erased) ends to_pay costs notes) where
  E_end : EndRow end ends
  E_end = subst (λ x. EndRow x ends) q E

  pub with_notes : Settling sections starts indices ends notes
  with_notes = settling C.checks E_end R.for_costs F

  pub with_none : get_or to_pay from 0 ≡ unreached → {new : List ℕ} → Settled (length indices) ends notes new
      → (k : ℕ) → left no_path new labels goals masks ≡ fitted (frame sections k indices received erased start end) costs labels goals masks
  with_none e S k =
      ends_none C.checks E_end R F (ap (λ x. get_or to_pay x 0) (sym p) ∙ e) S
      ∙ any_k sections indices received erased start end C.k k costs labels goals masks

  module _ (n : get_or to_pay from 0 ≡ unreached → ⊥) where
    n_start : get_or to_pay start 0 ≡ unreached → ⊥
    n_start e = n (ap (λ x. get_or to_pay x 0) p ∙ e)

    pub with_way : Followed (length indices) from notes labels goals
    with_way = subst (λ x. Followed (length indices) x notes labels goals) (sym p) (followed C.checks E_end R F n_start)

    module _ {new_labels new_goals : List ℕ} (T : FollowedTo (length indices) from notes labels new_labels goals new_goals) where
      T_start : FollowedTo (length indices) start notes labels new_labels goals new_goals
      T_start = subst (λ x. FollowedTo (length indices) x notes labels new_labels goals new_goals) p T

      pub with_labels : MasksAsked received erased new_labels masks
      with_labels = marking C.checks E_end R F n_start T_start

      pub with_path : {new new_masks : List ℕ} → MasksPut received erased new_labels masks new_masks (length received)
          → Settled (length indices) ends notes new
          → (k : ℕ) → left (success (get_or to_pay from 0)) new new_labels new_goals new_masks
          ≡ fitted (frame sections k indices received erased start end) costs labels goals masks
      with_path {new} {new_masks} M S k =
          ap (λ x. left (success (get_or to_pay x 0)) new new_labels new_goals new_masks) p
          ∙ ends_path C.checks E_end R F n_start T_start M S
          ∙ any_k sections indices received erased start end C.k k costs labels goals masks
