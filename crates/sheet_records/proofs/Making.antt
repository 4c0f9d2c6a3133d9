-- The records made one by one. The loop's invariant: the records of the blocks before b stand in front. What a section costs was read off
-- its table, so the record that a turn puts behind them is the definition's.
use mathlib.Core.Path.{◌≡◌, refl, sym, ap, ap₂, ◌∙◌}
use mathlib.Core.List.{List, [], ◌∷◌, ◌++◌}
use Prim.Native.Nat.{ℕ, suc, ◌+◌, ◌<◌, ◌≤◌}
use native.Mathlib.Omega.{arith}
use lib.ListN.{length, get_or, set, take, length-set}
use lib.Seq.{take-suc-set}
use Rattle.trellis.specs.Bounds.{most_sections, most_blocks}
use Rattle.trellis.specs.Lists.{run, each}
use Rattle.trellis.proofs.Lists.{run_snoc}
use Rattle.records.specs.declared.BlockRecord.{BlockRecord}
use Rattle.input_parts.specs.Input.{input_index}
use Rattle.input_parts.specs.Inner.Read.{additions_of, selections_of}
use Rattle.sheet_records.specs.Sheet.{section_numbers, block_record, records_of}
use Rattle.sheet_records.specs.Inner.Made.{Drawn, Holding}

pub record InRecords (input : List ℕ) (blocks : ℕ) (items : List BlockRecord) (b : ℕ) : Type 0 where
  pub within : b ≤ blocks
  pub places : length items ≡ most_blocks
  pub are : take b items ≡ each (block_record input) b

pub records_start : {input : List ℕ} {blocks : ℕ} {items : List BlockRecord} → length items ≡ most_blocks → InRecords input blocks items 0
unfolding run
records_start e = record { within = omega arith; places = e; are = refl }

module _ {input added selected : List ℕ} {blocks : ℕ} (D : Drawn input blocks added selected) where
  pub section_below : {b s : ℕ} → b < blocks → s ≡ input_index input b → s < most_sections
  section_below {b} h e = omega (arith, e, D.indices_below b h, D.few_sections)

  module _ {items : List BlockRecord} {b s : ℕ} (I : InRecords input blocks items b) (h : b < blocks) (s_is : s ≡ input_index input b) where
    abbrev new : BlockRecord
    new = record { index = b; section = s; additions = get_or added s 0; selections = get_or selected s 0 }

    added_is : get_or added s 0 ≡ additions_of (section_numbers input b)
    added_is = ap (λ k. get_or added k 0) s_is ∙ D.costs.additions_at (input_index input b) (D.indices_below b h)

    selected_is : get_or selected s 0 ≡ selections_of (section_numbers input b)
    selected_is = ap (λ k. get_or selected k 0) s_is ∙ D.costs.selections_at (input_index input b) (D.indices_below b h)

    new_is : new ≡ block_record input b
    new_is = λ k. record { index = b; section = s_is k; additions = added_is k; selections = selected_is k }

    pub records_next : InRecords input blocks (set items b new) (b + 1)
    records_next = record {
      within = omega arith;
      places = length-set items b new ∙ I.places;
      are =
          let e : b + 1 ≡ suc b = omega arith in
          let z : b ≡ 0 + b = omega arith in
          ap (λ k. take k (set items b new)) e ∙ take-suc-set items b new (omega (arith, I.places, D.few_blocks))
          ∙ ap₂ (λ l v. l ++ (v ∷ [])) I.are (new_is ∙ ap (block_record input) z)
          ∙ sym (run_snoc (block_record input) 0 b) ∙ ap (each (block_record input)) (sym e);
    }

  pub records_all : {items : List BlockRecord} {b : ℕ} → InRecords input blocks items b → blocks ≤ b
      → Holding (records_of input) blocks items
  unfolding records_of
  records_all {items} {b} I h =
      let e : b ≡ blocks = omega (arith, I.within) in
      record { places = I.places; are = ap (λ k. take k items) (sym e) ∙ I.are ∙ ap (each (block_record input)) (e ∙ D.blocks_are) }
