-- The winning path is untouched by what an erased symbol costs: c for each erased symbol of a block is the same for every word of it
-- (`distance-by`), a number that all words of a block cost more leaves the first path of least distance where it was
-- (`best-path-dearer`), and over all blocks it comes to c times the frame's erased symbols.
use mathlib.Core.Path.{◌≡◌, refl, ap, ◌∙◌}
use Prim.Native.Nat.{ℕ, ◌+◌, ◌*◌}
use lib.ListN.{get_or}
use Rattle.trellis.specs.Comparing.{marked_in}
use Rattle.trellis.specs.Word.{Word}
use Rattle.trellis.specs.Layout.{n_of}
use Rattle.trellis.proofs.Lists.{sum_mul}
use Rattle.trellis.proofs.Erasures.{distance_by_lem}
use Rattle.paths.specs.Choice.{Choice, none, some}
use Rattle.paths.specs.Chain.{ends_in}
use Rattle.paths.proofs.Choose.{extend}
use Rattle.paths.proofs.Dearer.{best_path_dearer}
use Rattle.frame.specs.Frame.{Frame, block_count, block_section, block_words, word_distance_by, word_distance}
use Rattle.decoding.specs.Decoding.{best_by, best_of}
use Rattle.demands.specs.Decoded.{dearer, erasures, Untouched}

dearer_is : {P : Type 0} (d : ℕ) (a : Choice P) → extend d (λ p. p) a ≡ dearer d a
unfolding dearer extend
dearer_is d none = refl
dearer_is d (some c p) = refl

module _ (f : Frame) where
  abbrev erased_of : ℕ → ℕ
  erased_of b = marked_in (n_of (block_section f b)) (get_or f.erased b 0)

  word_by : (c b : ℕ) (w : Word) → word_distance_by f c b w ≡ c * erased_of b + word_distance f b w
  unfolding word_distance_by
  word_by c b w = distance_by_lem (n_of (block_section f b)) (get_or f.received b 0) (get_or f.erased b 0) c w.label

  pub untouched : Untouched f
  unfolding best_by erasures
  untouched c =
      best_path_dearer (word_distance f) (word_distance_by f c) (λ b. c * erased_of b) (word_by c)
      (block_words f) (ends_in f.end) (block_count f) 0 f.start
      ∙ dearer_is _ (best_of f) ∙ ap (λ d. dearer d (best_of f)) (sum_mul c erased_of 0 (block_count f))
