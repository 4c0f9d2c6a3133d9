-- The text of an answer: the sizes where measuring refuses only the section, for which no buffer was lent, else the line of the refusal.
use mathlib.Core.Path.{◌≡◌, refl}
use mathlib.Core.List.{List}
use Prim.Native.Nat.{ℕ}
use Rattle.std.specs.Prelude.{Result, Ok, Err}
use Rattle.answers.specs.Answers.{merged_outcome}
use Rattle.answers.specs.declared.merge.MergeRefusal.{MergeRefusal}
use Rattle.answers.specs.declared.merge.MergeRefusal.TheVariants.{Length, Size, Word, Order, ShortMap, NotRectangular, ShortSection}
use Rattle.text.specs.Inner.Put.{Put}
use Rattle.lines.specs.Text.{sizes_of, refusal_line}
use Rattle.listing.specs.Inner.Made.{text_from}

module _ (words : ℕ) (sizes : List ℕ) where
  text_of_other : (e : MergeRefusal) → ((k : ℕ) → e ≡ ShortSection k → ⊥)
      → text_from words (merged_outcome (Err e)) sizes ≡ refusal_line (merged_outcome (Err e))
  unfolding text_from
  text_of_other (Length k) h = refl
  text_of_other (Size k) h = refl
  text_of_other (Word k) h = refl
  text_of_other (Order k) h = refl
  text_of_other (ShortMap k) h = refl
  text_of_other (NotRectangular t i j k) h = refl
  text_of_other (ShortSection k) h = absurd (h k refl)

  module _ {r : Result ℕ MergeRefusal} {old new : List ℕ} {end : ℕ} where
    pub section_answered : {length : ℕ} → r ≡ Ok length → Put old 0 (refusal_line (merged_outcome r)) new end
        → Put old 0 (text_from words (merged_outcome r) sizes) new end
    unfolding text_from
    section_answered e p = rw e (rw e at p)

    pub sizes_answered : {k : ℕ} → r ≡ Err (ShortSection k) → Put old 0 (sizes_of words sizes) new end
        → Put old 0 (text_from words (merged_outcome r) sizes) new end
    unfolding text_from
    sizes_answered e p = rw e p

    pub refusal_answered : {refusal : MergeRefusal} → r ≡ Err refusal → ((k : ℕ) → refusal ≡ ShortSection k → ⊥)
        → Put old 0 (refusal_line (merged_outcome r)) new end → Put old 0 (text_from words (merged_outcome r) sizes) new end
    refusal_answered {refusal} e h p = rw e (rw (text_of_other refusal h) (rw e at p))
