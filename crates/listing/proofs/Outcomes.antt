-- What the two ways out leave: the text that was made in a buffer of its own is the file's text, whole, since it is short; so its length is
-- known, and copied to the front of the lent buffer it is there.
use mathlib.Core.Path.{◌≡◌, sym, ap, ap₂, subst, ◌∙◌}
use mathlib.Core.Bool.{Bool, true, false}
use mathlib.Core.List.{List, []}
use Prim.Native.Nat.{ℕ, ◌+◌, ◌<◌, ◌≤◌}
use native.Mathlib.Omega.{arith}
use native.Mathlib.Nat.{le_of_eq}
use lib.ListN.{length, get_or, take, drop, replicate, length-append, length-replicate}
use lib.Seq.{length-take-le}
use lib.Dec.{ltb}
use borrow.Author.Tests.{lt-ltb, le-ltb}
use Rattle.answers.specs.declared.listing.ListingRefusal.{ListingRefusal}
use Rattle.answers.specs.declared.merge.MergeRefusal.{MergeRefusal}
use Rattle.std.specs.Prelude.{Result}
use Rattle.trellis.specs.Lists.{over}
use Rattle.trellis.specs.Outcome.{bad_length, success}
use Rattle.trellis.specs.Bounds.{most_bytes}
use Rattle.answers.specs.Answers.{merged_outcome, listed_outcome}
use Rattle.std.specs.Prelude.{Ok}
use Rattle.fields.specs.Fields.{word_count}
use Rattle.table.specs.File.{table_file}
use Rattle.merging.specs.Merging.{merging}
use Rattle.merging.specs.Inner.Sizes.{sizing, Measured}
use Rattle.text.specs.Inner.Put.{Put}
use Rattle.text.proofs.Putting.{front_holds, front_end}
use Rattle.lines.specs.Text.{refusal_line, file_text, text_of}
use Rattle.text_buffer.proofs.Buffer.{leaves}
use Rattle.text_buffer.specs.Listing.{Listing, left, in_buffer, listing}
use Rattle.listing.specs.Inner.Made.{text_from, any_text, TextMade}
use Rattle.listing.proofs.Room.{any_map}
use Rattle.listing.proofs.Short.{text_short}
use Rattle.listing.proofs.Merged.{measured_text}

module _ (file : List ℕ) {old new : List ℕ} {end : ℕ} where
  pub made_long : most_bytes < length file → Put old 0 (refusal_line (bad_length (most_bytes + 1))) new end → TextMade file old new end
  unfolding text_of
  made_long h p =
      let e : text_of file ≡ refusal_line (bad_length (most_bytes + 1)) = simp (lt-ltb most_bytes (length file) h) in
      record {
        put = subst (λ r. Put old 0 r new end) (sym e) p;
        short = text_short file;
      }

  pub made_measured : {r : Result ℕ MergeRefusal} {map none sizes : List ℕ} {words x : ℕ} → length file ≤ most_bytes
      → Measured file (replicate any_map 0) none r map sizes → x ≡ word_count file → words ≡ x
      → Put old 0 (text_from words (merged_outcome r) sizes) new end → TextMade file old new end
  unfolding text_of
  made_measured {r} {map} {none} {sizes} {words} {x} h M x_is w_is p =
      let e : text_of file ≡ file_text (table_file file) = simp (le-ltb most_bytes (length file) h) in
      let f : text_from words (merged_outcome r) sizes
      ≡ text_from (word_count file) (merging file (replicate any_map 0) []).answer (sizing file (replicate any_map 0) none) =
      ap (λ k. text_from k (merged_outcome r) sizes) (w_is ∙ x_is)
      ∙ ap₂ (λ o l. text_from (word_count file) o l) M.answer_is M.sizes_are in
      let g = measured_text (replicate any_map 0) none (le_of_eq (sym (length-replicate {A = ℕ} any_map 0))) file (omega arith) in
      record { put = subst (λ t. Put old 0 t new end) (f ∙ g ∙ sym e) p; short = text_short file }

module _ {vs old made : List ℕ} {end : ℕ} (p : Put old 0 vs made end) (fits : length vs ≤ length old) where
  pub end_inside : end ≤ length made
  end_inside = omega (arith, p.len, front_end p fits, fits)

  pub end_taken : end ≡ length (take end made)
  end_taken = sym (length-take-le end made end_inside)

  pub taken_whole : (text : List ℕ) → in_buffer (take end made) text ≡ in_buffer vs text
  taken_whole text = ap (λ t. in_buffer t text) (front_holds p fits)

pub listed : (file text : List ℕ) {old made : List ℕ} {end : ℕ} → TextMade file old made end → any_text ≤ length old → {l : Listing}
    → l ≡ in_buffer (take end made) text → l ≡ listing file text
unfolding listing
listed file text M room e = e ∙ taken_whole M.put (omega (arith, M.short)) text

-- what callers know: a text that was written stands in the buffer
pub written_inside : (made text : List ℕ) {new : List ℕ} {r : Result ℕ ListingRefusal} {k : ℕ}
    → left (listed_outcome r) new ≡ in_buffer made text → r ≡ Ok k → k ≤ length new
unfolding in_buffer
written_inside made text {new} {r} {k} e f =
    go (ltb (length text) (length made)) (ap (λ x. left (listed_outcome x) new) (sym f) ∙ e)
  where
    go : (b : Bool) → left (success k) new ≡ leaves made text b → k ≤ length new
    go true e = absurd (omega (arith, ap (λ (m : Listing). m.outcome.number) e))
    go false e =
        let v : k ≡ length made = ap (λ (m : Listing). get_or m.outcome.values 0 0) e in
        let n : length new ≡ length (over made text) = ap (λ (m : Listing). length m.text) e in
        omega (arith, length-append made (drop (length made) text))

pub listed_inside : (file text : List ℕ) {new : List ℕ} {r : Result ℕ ListingRefusal} {k : ℕ}
    → left (listed_outcome r) new ≡ listing file text → r ≡ Ok k → k ≤ length new
unfolding listing
listed_inside file text e f = written_inside (text_of file) text e f
