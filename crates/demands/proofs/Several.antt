-- Listing paths answers 0 or 11 only behind all checks. There each block's section is usable, so all paths of the frame stand in word
-- order, and the laws of the k best hold of their list: sorted by distance it has each path once, the first k are sooner than the others,
-- and its first is the first of least distance. Every path has as many words as there are blocks, so word b of path q stands at q·B + b.
use mathlib.Core.Path.{◌≡◌, refl, sym, ap, subst, ◌∙◌}
use mathlib.Core.Bool.{Bool, true, false, not}
use mathlib.Core.Logic.{⊎_elim}
use mathlib.Core.List.Memᴰ
use mathlib.Core.List.{List, [], ◌∷◌, map, flat_map}
use Prim.Native.Nat.{ℕ, suc, ◌+◌, ◌*◌, ◌≤◌, ◌<◌}
use native.Mathlib.Decide.{dec_lt}
use native.Mathlib.Nat.{mul-le-mul_right, suc-mul}
use native.Mathlib.Omega.{arith}
use lib.ListN.{length, get_or, length-map, get_or-map}
use Rattle.trellis.specs.Bounds.{most_paths}
use Rattle.trellis.specs.Lists.{◌∈◌, first, over, within}
use Rattle.trellis.specs.Word.{Word, word, word_at}
use Rattle.trellis.specs.Outcome.{Outcome, success, no_path}
use Rattle.trellis.proofs.Buffers.{over_front}
use Rattle.paths.specs.Chain.{ends_in, path_distance, ChainBefore}
use Rattle.paths.proofs.Winner.{of_paths, in_paths}
use Rattle.ranking.specs.Inner.Bests.{Bests, head_of as head_by}
use Rattle.ranking.proofs.Chain.{first_is_best, start_of_more, paths_best}
use Rattle.ranking.proofs.Apart.{in_order, paths_apart}
use Rattle.sections.specs.Sections.{sections_bad}
use Rattle.frame.specs.Frame.{Frame, block_count, frame_bad, block_words, word_distance, block_bad}
use Rattle.frame.proofs.Checks.{FramePassed}
use Rattle.room.specs.Room.{needed_to_list}
use Rattle.decoding.specs.Decoding.{best_by}
use Rattle.path_list.specs.Listing.{Listing, list_of, found, listing}
use Rattle.path_list.proofs.Faults.{ends_section, ends_frame, ends_block, ends_count, ends_short, past_sections, past_frame, past_count}
use Rattle.path_list.proofs.Faults.{past_room, few_of}
use Rattle.path_list.proofs.Joined.{joined_long, joined_at}
use Rattle.demands.specs.Decoded.{IsFramePath, frame_paths, frame_distance}
use Rattle.demands.specs.Several.{head_of, Best, FirstDecoded, StartOfLonger, NoneListed, Several, ListMeaning}
use Rattle.demands.proofs.Decoded.{tabled, words_ordered}

-- ---- the list

module _ (f : Frame) where
  pub first_decoded_lem : FirstDecoded f
  unfolding list_of best_by
  first_decoded_lem paths =
      same (list_of f (suc paths)) ∙ first_is_best (block_words f) (ends_in f.end) (word_distance f) paths (block_count f) 0 f.start
    where
      same : (ps : List (List Word)) → head_of f ps ≡ head_by (frame_distance f) ps
      same [] = refl
      same (p ∷ ps) = refl

  pub start_of_longer_lem : StartOfLonger f
  unfolding list_of
  start_of_longer_lem fewer paths h =
      sym (start_of_more (block_words f) (ends_in f.end) (word_distance f) fewer paths (block_count f) 0 f.start h)

  module _ (s : sections_bad f.sections f.k ≡ false) (P : FramePassed f) (paths : ℕ) where
    bests : Bests (frame_distance f) ChainBefore paths (frame_paths f) (list_of f paths)
    unfolding list_of
    bests =
        paths_best (block_words f) (ends_in f.end) (word_distance f) (block_count f) (words_ordered f s P) paths (block_count f) 0 f.start
        (omega arith)

    pub best : Best f paths
    unfolding list_of
    best = record {
      right = λ p m. of_paths (block_words f) (ends_in f.end) (block_count f) 0 f.start p (bests.listed p m);
      many = bests.many;
      sooner = λ i j h l. in_order bests.ordered [] i j h l;
      apart = λ i j h l. paths_apart (block_words f) (ends_in f.end) (word_distance f) (block_count f) (words_ordered f s P) paths
          (block_count f) 0 f.start (omega arith) [] i j h l;
      others = λ p I n q m.
          ⊎_elim (λ k. absurd (n k)) (λ g. g q m)
          (bests.before p (in_paths (block_words f) (ends_in f.end) (block_count f) 0 f.start p I));
    }

-- ---- the buffers

module _ (f : Frame) (paths : ℕ) (costs distances labels goals : List ℕ) where
  abbrev listed : Listing
  listed = listing f paths costs distances labels goals

  abbrev found_with : List (List Word) → Listing
  found_with = found f paths costs distances labels goals

  -- behind all checks
  record Passed : Type 0 where
    sections_good : sections_bad f.sections f.k ≡ false
    frame_passed : FramePassed f
    some : 0 < paths
    is : listed ≡ found_with (list_of f paths)

  abbrev needed : ℕ
  needed = needed_to_list (block_count f) paths (length costs) (length distances) (length labels) (length goals)

  passed : ((n : ℕ) → 8 ≤ n → (n ≡ 11 → ⊥) → n ≡ listed.answer.number → ⊥) → Passed
  passed clear = by_sections (sections_bad f.sections f.k) refl
    where
      number : Listing → ℕ
      number m = m.answer.number

      by_room : sections_bad f.sections f.k ≡ false → FramePassed f → not (within 1 most_paths paths) ≡ false → Dec (0 < needed)
          → Passed
      by_room s P w (yes h) =
          absurd (clear 10 (omega arith) (λ e. absurd (omega arith)) (ap number
          (past_sections f paths costs distances labels goals s
          (past_frame f paths costs distances labels goals P
          (past_count f paths costs distances labels goals refl w
          (ends_short f paths costs distances labels goals refl h))))))
      by_room s P w (no h) = record {
        sections_good = s;
        frame_passed = P;
        some = (few_of refl w).some;
        is = sym (past_sections f paths costs distances labels goals s
            (past_frame f paths costs distances labels goals P
            (past_count f paths costs distances labels goals refl w
            (past_room f paths costs distances labels goals (omega arith) refl))));
      }

      by_count : sections_bad f.sections f.k ≡ false → FramePassed f → (b : Bool) → not (within 1 most_paths paths) ≡ b → Passed
      by_count s P true e =
          absurd (clear 13 (omega arith) (λ z. absurd (omega arith)) (ap number
          (past_sections f paths costs distances labels goals s
          (past_frame f paths costs distances labels goals P
          (ends_count f paths costs distances labels goals refl e)))))
      by_count s P false e = by_room s P e (dec_lt 0 needed)

      by_blocks : sections_bad f.sections f.k ≡ false → frame_bad f ≡ false
          → Dec (first (block_bad f) (block_count f) < block_count f) → Passed
      by_blocks s g (yes h) =
          absurd (clear 9 (omega arith) (λ z. absurd (omega arith)) (ap number
          (past_sections f paths costs distances labels goals s
          (ends_block f paths costs distances labels goals refl g refl h))))
      by_blocks s g (no h) = by_count s (record { frame_good = g; blocks_good = omega arith }) (not (within 1 most_paths paths)) refl

      by_frame : sections_bad f.sections f.k ≡ false → (b : Bool) → frame_bad f ≡ b → Passed
      by_frame s true e =
          absurd (clear 9 (omega arith) (λ z. absurd (omega arith)) (ap number
          (past_sections f paths costs distances labels goals s
          (ends_frame f paths costs distances labels goals refl e))))
      by_frame s false e = by_blocks s e (dec_lt (first (block_bad f) (block_count f)) (block_count f))

      by_sections : (b : Bool) → sections_bad f.sections f.k ≡ b → Passed
      by_sections true e =
          absurd (clear 8 (omega arith) (λ z. absurd (omega arith)) (ap number
          (ends_section f paths costs distances labels goals e refl)))
      by_sections false e = by_frame e (frame_bad f) refl

  -- ---- no path

  -- nothing is listed only where there is nothing
  none_right : Best f paths → 0 < paths → list_of f paths ≡ [] → NoneListed f (found_with [])
  unfolding found
  none_right B h e = record { none = λ p I. none (frame_paths f) refl p (in_frame p I); table = tabled f costs }
    where
      in_frame : (p : List Word) → IsFramePath f p → p ∈ frame_paths f
      in_frame p I = in_paths (block_words f) (ends_in f.end) (block_count f) 0 f.start p I

      none : (ps : List (List Word)) → frame_paths f ≡ ps → (p : List Word) → p ∈ frame_paths f → ⊥
      none [] d p m = Memᴰ.not-nil (subst (λ ps. p ∈ ps) d m)
      none (q ∷ qs) d p m =
          let a : length (list_of f paths) ≡ 0 = ap length e in
          let b : length (frame_paths f) ≡ suc (length qs) = ap length d in
          let c = B.many in
          absurd (omega arith)

  -- ---- some paths

  -- word b of path q stands at its place
  written : (g : Word → ℕ) → g (word 0 0 0) ≡ 0 → (ps : List (List Word)) → ((p : List Word) → p ∈ ps → length p ≡ block_count f)
      → (old : List ℕ) (q b : ℕ) → q < length ps → b < block_count f
      → get_or (over (flat_map (map g) ps) old) (q * block_count f + b) 0 ≡ g (word_at (get_or ps q []) b)
  written g blank ps long old q b h k =
      let each : (p : List Word) → p ∈ ps → length (map g p) ≡ block_count f = λ p m. length-map p g ∙ long p m in
      let l = joined_long (map g) (block_count f) ps each in
      let c : suc q * block_count f ≤ length ps * block_count f = mul-le-mul_right (block_count f) h in
      over_front (flat_map (map g) ps) old (q * block_count f + b) (omega (arith, suc-mul q (block_count f)))
      ∙ joined_at (map g) (block_count f) ps [] 0 each q b h k
      ∙ ap (get_or (map g (get_or ps q [])) b) (sym blank) ∙ get_or-map g (get_or ps q []) b (word 0 0 0)

  some_right : Best f paths → {p : List Word} {ps : List (List Word)} → list_of f paths ≡ p ∷ ps
      → Several f paths (length (p ∷ ps)) (found_with (p ∷ ps))
  unfolding found path_distance
  some_right B {p} {ps} e =
      record {
        best = B;
        count_is = sym (ap length e);
        distance_at = λ q h.
            let l = length-map (p ∷ ps) (frame_distance f) in
            over_front (map (frame_distance f) (p ∷ ps)) distances q (omega arith)
            ∙ get_or-map (frame_distance f) (p ∷ ps) q [] ∙ ap (λ xs. frame_distance f (get_or xs q [])) (sym e);
        label_at = λ q b h k. at (λ w. w.label) refl labels q b h k;
        goal_at = λ q b h k. at (λ w. w.goal) refl goals q b h k;
        table = tabled f costs;
      }
    where
      at : (g : Word → ℕ) → g (word 0 0 0) ≡ 0 → (old : List ℕ) (q b : ℕ) → q < length (p ∷ ps) → b < block_count f
          → get_or (over (flat_map (map g) (p ∷ ps)) old) (q * block_count f + b) 0 ≡ g (word_at (get_or (list_of f paths) q []) b)
      at g blank old q b h k =
          written g blank (p ∷ ps) (λ r m. (B.right r (subst (λ xs. r ∈ xs) (sym e) m)).long) old q b h k
          ∙ ap (λ xs. g (word_at (get_or xs q []) b)) (sym e)

  -- ---- by the answer

  best_of : Passed → Best f paths
  best_of P = best f P.sections_good P.frame_passed paths

  none_means : listed.answer ≡ no_path → NoneListed f listed
  unfolding found
  none_means a = go (list_of f paths) refl
    where
      eleven : listed.answer.number ≡ 11
      eleven = ap (λ (o : Outcome). o.number) a

      P : Passed
      P = passed (λ n x y e. y (e ∙ eleven))

      go : (ps : List (List Word)) → list_of f paths ≡ ps → NoneListed f listed
      go [] e = subst (NoneListed f) (sym (P.is ∙ ap found_with e)) (none_right (best_of P) P.some e)
      go (p ∷ ps) e =
          let z : ◌≡◌ {A = ℕ} 0 11 = ap (λ (m : Listing). m.answer.number) (sym (P.is ∙ ap found_with e)) ∙ eleven in
          absurd (omega arith)

  some_means : (count : ℕ) → listed.answer ≡ success count → Several f paths count listed
  unfolding found
  some_means count a = go (list_of f paths) refl
    where
      naught : listed.answer.number ≡ 0
      naught = ap (λ (o : Outcome). o.number) a

      P : Passed
      P = passed (λ n x y e. absurd (omega (arith, naught)))

      go : (ps : List (List Word)) → list_of f paths ≡ ps → Several f paths count listed
      go [] e =
          let z : ◌≡◌ {A = ℕ} 11 0 = ap (λ (m : Listing). m.answer.number) (sym (P.is ∙ ap found_with e)) ∙ naught in
          absurd (omega arith)
      go (p ∷ ps) e =
          let i = P.is ∙ ap found_with e in
          let z : length (p ∷ ps) ≡ count
          = ap (λ (m : Listing). get_or m.answer.values 0 0) (sym i) ∙ ap (λ (o : Outcome). get_or o.values 0 0) a in
          subst (Several f paths count) (sym i)
          (subst (λ x. Several f paths x (found_with (p ∷ ps))) z (some_right (best_of P) e))

  pub list_meaning : ListMeaning f paths listed
  list_meaning = record {
    none = none_means;
    several = some_means;
    first_decoded = first_decoded_lem f;
    start_of_longer = start_of_longer_lem f;
  }
