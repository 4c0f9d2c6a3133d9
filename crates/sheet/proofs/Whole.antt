-- What was made is the text of the input: the line of its refusal, or the lines of its records. Either is short, so it stands whole in a
-- buffer of the code's own, and is copied from there.
use mathlib.Core.Path.{◌≡◌, sym, ap, subst, ◌∙◌}
use mathlib.Core.List.{List}
use Prim.Native.Nat.{ℕ, ◌≤◌}
use native.Mathlib.Omega.{arith}
use lib.ListN.{length, take}
use borrow.Author.Tests.{eq-eqb, ne_eqb}
use Rattle.answers.specs.declared.listing.ListingRefusal.{ListingRefusal}
use Rattle.trellis.specs.Bounds.{most_blocks}
use Rattle.trellis.specs.Outcome.{Outcome}
use Rattle.outcomes.specs.declared.Returned.{Returned}
use Rattle.answers.specs.Answers.{listed_outcome}
use Rattle.std.specs.Prelude.{Ok, Result}
use Rattle.text.specs.Inner.Put.{Put}
use Rattle.lines.specs.Text.{refusal_line}
use Rattle.text_buffer.specs.Listing.{Listing, left, in_buffer}
use Rattle.listing.proofs.Short.{line_of_few}
use Rattle.listing.proofs.Outcomes.{taken_whole, written_inside}
use Rattle.records.specs.declared.BlockRecord.{BlockRecord}
use Rattle.input_parts.specs.Input.{input_blocks, input_outcome}
use Rattle.input_parts.specs.Inner.Read.{Fault, Read}
use Rattle.input_parts.proofs.Head.{few_sections_lem}
use Rattle.sheet_input.proofs.Right.{InputRight, input_right, index_below_lem}
use Rattle.sheet_records.specs.Sheet.{records_of, sheet_lines, sheet_text, sheet}
use Rattle.sheet_records.specs.Inner.Made.{Drawn, Holding, any_sheet, SheetMade}
use Rattle.sheet.proofs.Short.{few_blocks_lem, sheet_short}

module _ (input : List ℕ) where
  pub made_refused : {r : Returned} → Fault (input_outcome input) r → {old new : List ℕ} {end : ℕ}
      → Put old 0 (refusal_line (input_outcome input)) new end → SheetMade input old new end
  unfolding sheet_text
  made_refused F {old} {new} {end} p =
      let T = F.told in
      let some : (input_outcome input).number ≡ 0 → ⊥ = λ z. F.some (T.holds.number_is ∙ z) in
      let e : sheet_text input ≡ refusal_line (input_outcome input) = simp (ne_eqb (input_outcome input).number 0 some) in
      let few : length (input_outcome input).values ≤ 4 = omega (arith, T.holds.count_is, T.holds.few) in
      record {
        put = subst (λ t. Put old 0 t new end) (sym e) p;
        short = omega (arith, ap length e, line_of_few (input_outcome input) T.small few);
      }

  module _ {added selected : List ℕ} (R : Read input added selected) where
    none : (input_outcome input).number ≡ 0
    none = ap (λ (o : Outcome). o.number) R.outcome_is

    right : InputRight input
    right = input_right input none

    pub few_asked : {blocks : ℕ} → blocks ≡ input_blocks input → blocks ≤ most_blocks
    few_asked b_is = omega (arith, b_is, few_blocks_lem input right)

    pub drawn : {blocks : ℕ} → blocks ≡ input_blocks input → Drawn input blocks added selected
    drawn b_is = record {
      blocks_are = b_is;
      few_blocks = few_asked b_is;
      few_sections = few_sections_lem input right.head;
      indices_below = λ b h. index_below_lem input right.head b (omega (arith, b_is));
      costs = R.costs;
    }

    pub blocks_inside : {blocks : ℕ} {items : List BlockRecord} → blocks ≡ input_blocks input → Holding (records_of input) blocks items
        → blocks ≤ length items
    blocks_inside b_is H = omega (arith, few_asked b_is, H.places)

    pub made_lines : {old new : List ℕ} {end : ℕ} → Put old 0 (sheet_lines (records_of input)) new end → SheetMade input old new end
    unfolding sheet_text
    made_lines {old} {new} {end} p =
        let e : sheet_text input ≡ sheet_lines (records_of input) = simp (eq-eqb (input_outcome input).number 0 none) in
        record { put = subst (λ t. Put old 0 t new end) (sym e) p; short = omega (arith, ap length e, sheet_short input right) }

pub copied : (input text : List ℕ) {old made : List ℕ} {end : ℕ} → SheetMade input old made end → any_sheet ≤ length old → {l : Listing}
    → l ≡ in_buffer (take end made) text → l ≡ sheet input text
unfolding sheet
copied input text M room e = e ∙ taken_whole M.put (omega (arith, M.short)) text

-- what callers know: a sheet that was written stands in the buffer
pub sheet_inside : (input text : List ℕ) {new : List ℕ} {r : Result ℕ ListingRefusal} {k : ℕ}
    → left (listed_outcome r) new ≡ sheet input text → r ≡ Ok k → k ≤ length new
unfolding sheet
sheet_inside input text e f = written_inside (sheet_text input) text e f
