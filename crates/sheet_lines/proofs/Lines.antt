-- The lines put one behind another are the sheet's: a line for each record in turn, and the sums that counting the same records gives.
use mathlib.Core.Path.{◌≡◌, refl, sym, ap, subst, ◌∙◌}
use mathlib.Core.List.{List, [], ◌∷◌, flat_map}
use Prim.Native.Nat.{ℕ, ◌≤◌}
use native.Mathlib.Omega.{arith}
use lib.ListN.{length, take}
use lib.Seq.{length-take-le}
use borrow.Author.Tests.{le-ltb}
use Rattle.std.specs.Prelude.{Result, Ok, Err}
use Rattle.trellis.specs.Bounds.{most_blocks}
use Rattle.trellis.specs.Outcome.{Outcome}
use Rattle.text.specs.Line.{line}
use Rattle.text.specs.Inner.Put.{Put}
use Rattle.text.proofs.Putting.{put_then}
use Rattle.records.specs.Records.{additions_sum, selections_sum, counted_outcome, counting}
use Rattle.records.specs.declared.BlockRecord.{BlockRecord}
use Rattle.records.specs.declared.Sums.{Sums}
use Rattle.records.specs.declared.TooMany.{TooMany}
use Rattle.sheet_records.specs.Sheet.{block_word, total_word, block_line, total_line, sheet_lines}
use Rattle.sheet_records.specs.Inner.Made.{Holding}

-- ---- the records' lines

pub block_put : (r : BlockRecord) {old new : List ℕ} {at end : ℕ}
    → Put old at (line block_word (r.index ∷ r.section ∷ r.additions ∷ r.selections ∷ [])) new end → Put old at (block_line r) new end
unfolding block_line
block_put r p = p

-- ---- the sums

module _ (all : List BlockRecord) {blocks : ℕ} (inside : blocks ≤ length all) (few : blocks ≤ most_blocks) (r : Result Sums TooMany)
    (e : counted_outcome r ≡ counting (take blocks all)) where
  abbrev items : List BlockRecord
  items = take blocks all

  counts : counted_outcome r ≡ record { number = 0; values = additions_sum items ∷ selections_sum items ∷ [] }
  unfolding counting
  counts = e ∙ simp (le-ltb most_blocks (length items) (omega (arith, length-take-le blocks all inside))) refl

  pub total_put : {sums : Sums} → r ≡ Ok sums → {old new : List ℕ} {at end : ℕ}
      → Put old at (line total_word (sums.additions ∷ sums.selections ∷ [])) new end → Put old at (total_line items) new end
  unfolding total_line
  total_put {sums} t {old} {new} {at} {end} p =
      let v : sums.additions ∷ sums.selections ∷ [] ≡ additions_sum items ∷ selections_sum items ∷ [] =
      ap (λ (o : Outcome). o.values) (ap counted_outcome (sym t) ∙ counts) in
      subst (λ l. Put old at (line total_word l) new end) v p

  pub not_many : {many : TooMany} → r ≡ Err many → ⊥
  not_many t = omega (arith, ap (λ (o : Outcome). o.number) (ap counted_outcome (sym t) ∙ counts))

-- ---- both

pub lines_put : (records : List BlockRecord) {blocks : ℕ} {items : List BlockRecord} → Holding records blocks items
    → {old mid new : List ℕ} {m end : ℕ} → Put old 0 (flat_map block_line (take blocks items)) mid m
    → Put mid m (total_line (take blocks items)) new end → Put old 0 (sheet_lines records) new end
unfolding sheet_lines
lines_put records H {old} {mid} {new} {m} {end} p q =
    put_then (subst (λ l. Put old 0 (flat_map block_line l) mid m) H.are p) (subst (λ l. Put mid m (total_line l) new end) H.are q)
