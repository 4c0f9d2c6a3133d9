-- Decoding answers 0 or 11 only behind all checks. There each block's section is usable, so its words stand in order, and the first path of
-- least distance wins; and where the list of all paths has none that is first, it is empty, while every path is in it.
use mathlib.Core.Path.{◌≡◌, refl, sym, ap, ap₂, subst, ◌∙◌}
use mathlib.Core.Bool.{Bool, true, false}
use mathlib.Core.List.Memᴰ
use mathlib.Core.List.{List, map}
use Prim.Native.Nat.{ℕ, suc, ◌+◌, ◌-◌, ◌*◌, ◌/◌, ◌%◌, ◌≤◌, ◌<◌}
use native.Mathlib.Nat.{zero-add}
use native.Mathlib.Decide.{dec_lt}
use native.Mathlib.Omega.{arith}
use lib.ListN.{length, get_or, length-map, get_or-map}
use Rattle.trellis.specs.Bounds.{most_states, costs_a_block}
use Rattle.trellis.specs.Lists.{◌∈◌, sum, first, over}
use Rattle.trellis.specs.Word.{Word, word, word_at, Before}
use Rattle.trellis.specs.Comparing.{marked_in, Compared}
use Rattle.trellis.specs.Layout.{n_of, section_words}
use Rattle.trellis.specs.Outcome.{Outcome, success, no_path}
use Rattle.trellis.proofs.Lists.{length_run, each_at, sum_eq}
use Rattle.trellis.proofs.Buffers.{over_front}
use Rattle.trellis.proofs.Comparing.{compares}
use Rattle.paths.specs.Choice.{Choice, none, some}
use Rattle.paths.specs.Chain.{ends_in, path_distance, cost_table}
use Rattle.paths.specs.Inner.Ordered.{Ordered}
use Rattle.paths.proofs.Chain.{none_listed}
use Rattle.paths.proofs.Winner.{of_paths, in_paths, word_of_lem, best_right, best_wins, table_drops, distance_sum}
use Rattle.section_file.proofs.Usable.{usable_sound}
use Rattle.section_file.proofs.Words.{words_ascend}
use Rattle.sections.specs.Sections.{sections_bad}
use Rattle.sections.proofs.Sections.{sections_usable}
use Rattle.frame.specs.Frame.{Frame, block_count, frame_bad, block_section, block_words, word_distance_by, word_distance, word_mask, block_bad}
use Rattle.frame.proofs.Checks.{FramePassed, index_good}
use Rattle.room.specs.Room.{needed_to_decode}
use Rattle.decoding.specs.Decoding.{Decoding, best_by, best_of, table_of, masks_of, found, decoding}
use Rattle.decoding.proofs.Faults.{ends_section, ends_frame, ends_block, ends_short, past_sections, past_frame, past_room}
use Rattle.demands.specs.Decoded.{least_distance, Tabled, NoneFound, Won, Meaning}

-- the cost table stands in front of its buffer
pub tabled : (f : Frame) (costs : List ℕ) → Tabled f (over (table_of f) costs)
unfolding table_of
tabled f costs = record { at = at }
  where
    place : ℕ → ℕ
    place i = least_distance f (i / costs_a_block) (i % costs_a_block)

    at : (b s : ℕ) → b < block_count f → s < most_states
        → get_or (over (table_of f) costs) (costs_a_block * b + s) 0
        ≡ least_distance f b s
    at b s h l =
        let n = length_run place 0 (costs_a_block * block_count f) in
        let e : (costs_a_block * b + s) / costs_a_block ≡ b = omega arith in
        let r : (costs_a_block * b + s) % costs_a_block ≡ s = omega arith in
        over_front (table_of f) costs (costs_a_block * b + s) (omega arith)
        ∙ each_at place (costs_a_block * block_count f) (costs_a_block * b + s) 0 (omega arith)
        ∙ ap₂ (least_distance f) e r

-- the words of a block stand in order, since its section is usable
pub words_ordered : (f : Frame) → sections_bad f.sections f.k ≡ false → FramePassed f → (b : ℕ) → b < block_count f
    → Ordered Before (block_words f b)
unfolding block_words
words_ordered f s P b h =
    words_ascend (usable_sound (block_section f b)
    (sections_usable f.sections f.k s (get_or f.indices b 0) (index_good P b h)))

module _ (f : Frame) (costs labels goals masks : List ℕ) where
  abbrev decoded : Decoding
  decoded = decoding f costs labels goals masks

  abbrev best : Choice (List Word)
  best = best_of f

  abbrev found_with : Choice (List Word) → Decoding
  found_with = found f costs labels goals masks

  abbrev words : ℕ → List Word
  words = block_words f

  abbrev dist : ℕ → Word → ℕ
  dist = word_distance f

  -- ---- behind all checks

  record Passed : Type 0 where
    sections_good : sections_bad f.sections f.k ≡ false
    frame_passed : FramePassed f
    is : decoded ≡ found_with best

  passed : ((n : ℕ) → 8 ≤ n → n ≤ 10 → n ≡ decoded.answer.number → ⊥) → Passed
  passed clear = by_sections (sections_bad f.sections f.k) refl
    where
      number : Decoding → ℕ
      number m = m.answer.number

      by_room : sections_bad f.sections f.k ≡ false → FramePassed f
          → Dec (0 < needed_to_decode (block_count f) (length costs) (length labels) (length goals) (length masks)) → Passed
      by_room s P (yes h) =
          absurd (clear 10 (omega arith) (omega arith) (ap number
          (past_sections f costs labels goals masks s
          (past_frame f costs labels goals masks P
          (ends_short f costs labels goals masks refl h)))))
      by_room s P (no h) = record {
        sections_good = s;
        frame_passed = P;
        is = sym (past_sections f costs labels goals masks s
            (past_frame f costs labels goals masks P
            (past_room f costs labels goals masks (omega arith) refl)));
      }

      by_blocks : sections_bad f.sections f.k ≡ false → frame_bad f ≡ false
          → Dec (first (block_bad f) (block_count f) < block_count f) → Passed
      by_blocks s g (yes h) =
          absurd (clear 9 (omega arith) (omega arith) (ap number
          (past_sections f costs labels goals masks s
          (ends_block f costs labels goals masks refl g refl h))))
      by_blocks s g (no h) =
          by_room s (record { frame_good = g; blocks_good = omega arith })
          (dec_lt 0 (needed_to_decode (block_count f) (length costs) (length labels) (length goals) (length masks)))

      by_frame : sections_bad f.sections f.k ≡ false → (b : Bool) → frame_bad f ≡ b → Passed
      by_frame s true e =
          absurd (clear 9 (omega arith) (omega arith) (ap number
          (past_sections f costs labels goals masks s
          (ends_frame f costs labels goals masks refl e))))
      by_frame s false e = by_blocks s e (dec_lt (first (block_bad f) (block_count f)) (block_count f))

      by_sections : (b : Bool) → sections_bad f.sections f.k ≡ b → Passed
      by_sections true e =
          absurd (clear 8 (omega arith) (omega arith) (ap number
          (ends_section f costs labels goals masks e refl)))
      by_sections false e = by_frame e (frame_bad f) refl

  -- ---- no path

  none_right : best ≡ none → NoneFound f (found_with none)
  unfolding found best_by
  none_right e = record {
    none = λ p I.
        let a = none_listed words (ends_in f.end) dist (block_count f) 0 f.start e in
        Memᴰ.not-nil (subst (λ ps. p ∈ ps) a (in_paths words (ends_in f.end) (block_count f) 0 f.start p I));
    table = tabled f costs;
  }

  -- ---- the winner

  -- what is written of a word
  written : (f : Word → ℕ) → f (word 0 0 0) ≡ 0 → (ws : List Word) (old : List ℕ) (b : ℕ) → b < length ws
      → get_or (over (map f ws) old) b 0 ≡ f (word_at ws b)
  written f blank ws old b h =
      let l = length-map ws f in
      over_front (map f ws) old b (omega arith) ∙ ap (get_or (map f ws) b) (sym blank) ∙ get_or-map f ws b (word 0 0 0)

  -- the mask written for a block compares its word with what was received
  mask_at_lem : (ws : List Word) (b : ℕ) → b < block_count f
      → Compared (n_of (block_section f b)) (get_or f.received b 0) (get_or f.erased b 0) (word_at ws b).label
      (get_or (over (masks_of f ws) masks) b 0) (word_distance f b (word_at ws b))
  unfolding masks_of word_mask word_distance_by
  mask_at_lem ws b h =
      let l = length_run (λ b. word_mask f b (word_at ws b)) 0 (block_count f) in
      let e = over_front (masks_of f ws) masks b (omega arith) ∙ each_at (λ b. word_mask f b (word_at ws b)) (block_count f) b 0 h in
      let x = get_or f.received b 0 in
      let erased = get_or f.erased b 0 in
      let label = (word_at ws b).label in
      subst (λ m. Compared (n_of (block_section f b)) x erased label m (word_distance f b (word_at ws b))) (sym e)
      (compares (n_of (block_section f b)) x erased label)

  -- so the ones in all masks are the distance of the path
  ones_are : (ws : List Word) → length ws ≡ block_count f
      → sum (λ b. marked_in (n_of (block_section f b)) (get_or (over (masks_of f ws) masks) b 0)) 0 (block_count f) ≡ path_distance dist 0 ws
  ones_are ws l =
      let marked : ℕ → ℕ = λ b. marked_in (n_of (block_section f b)) (get_or (over (masks_of f ws) masks) b 0) in
      sum_eq marked (λ b. dist (0 + b) (word_at ws b)) 0 (block_count f)
      (λ b k h. (mask_at_lem ws b (omega arith)).ones ∙ ap (λ c. dist c (word_at ws b)) (sym (zero-add b)))
      ∙ ap (sum (λ b. dist (0 + b) (word_at ws b)) 0) (sym l) ∙ sym (distance_sum dist 0 ws)

  some_right : Passed → {d : ℕ} {ws : List Word} → best ≡ some d ws
      → Won f d (found_with (some d ws))
  unfolding found best_by block_words
  some_right P {d} {ws} e =
      let I = best_right words (ends_in f.end) dist (block_count f) 0 f.start e in
      let l = I.long in
      let B = best_wins words (ends_in f.end) (block_count f) (words_ordered f P.sections_good P.frame_passed) dist (block_count f) 0 f.start (omega arith) e in
      record {
        words = ws;
        wins = B.0;
        distance_is = B.1;
        label_at = λ b h. written (λ w. w.label) refl ws labels b (omega arith);
        goal_at = λ b h. written (λ w. w.goal) refl ws goals b (omega arith);
        mask_at = mask_at_lem ws;
        ones = ones_are ws l ∙ sym B.1;
        in_section = λ b h. subst (λ x. word_at ws b ∈ section_words (block_section f x)) (zero-add b)
            (word_of_lem words (ends_in f.end) 0 f.start ws I.linked b (omega arith));
        table = tabled f costs;
        drops = λ b h.
            let j : block_count f - b ≡ suc (block_count f - suc b) = omega arith in
            ap (λ x. cost_table words (ends_in f.end) dist x b (word_at ws b).root) j
            ∙ table_drops words (ends_in f.end) dist (block_count f) 0 f.start e b (block_count f - suc b) b (omega arith) (zero-add b);
      }

  -- ---- by the answer

  none_means : decoded.answer ≡ no_path → NoneFound f decoded
  unfolding found
  none_means a = go best refl
    where
      eleven : decoded.answer.number ≡ 11
      eleven = ap (λ (o : Outcome). o.number) a

      P : Passed
      P = passed (λ n x y e. absurd (omega (arith, eleven)))

      go : (o : Choice (List Word)) → best ≡ o → NoneFound f decoded
      go none e = subst (NoneFound f) (sym (P.is ∙ ap found_with e)) (none_right e)
      go (some d ws) e =
          let z : ◌≡◌ {A = ℕ} 0 11 = ap (λ (m : Decoding). m.answer.number) (sym (P.is ∙ ap found_with e)) ∙ eleven in
          absurd (omega arith)

  best_means : (d : ℕ) → decoded.answer ≡ success d → Won f d decoded
  unfolding found
  best_means d a = go best refl
    where
      naught : decoded.answer.number ≡ 0
      naught = ap (λ (o : Outcome). o.number) a

      P : Passed
      P = passed (λ n x y e. absurd (omega (arith, naught)))

      go : (o : Choice (List Word)) → best ≡ o → Won f d decoded
      go none e =
          let z : ◌≡◌ {A = ℕ} 11 0 = ap (λ (m : Decoding). m.answer.number) (sym (P.is ∙ ap found_with e)) ∙ naught in
          absurd (omega arith)
      go (some c ws) e =
          let i = P.is ∙ ap found_with e in
          let z : c ≡ d = ap (λ (m : Decoding). get_or m.answer.values 0 0) (sym i) ∙ ap (λ (o : Outcome). get_or o.values 0 0) a in
          subst (Won f d) (sym i)
          (subst (λ x. Won f x (found_with (some c ws))) z (some_right P e))

  pub meaning : Meaning f decoded
  meaning = record {
    paths = λ p. (
      in_paths words (ends_in f.end) (block_count f) 0 f.start p,
      of_paths words (ends_in f.end) (block_count f) 0
          f.start p,
    );
    none = none_means;
    best = best_means;
  }
