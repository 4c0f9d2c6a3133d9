-- The totals are sums, block by block, and a record's numbers are those of the section that merging writes, whose counts stand in the front
-- of the buffer. Bytes behind the first `most_input` change nothing: a longer input has the outcome of its front, and it is refused, since
-- tables that are not refused end long before.
use mathlib.Core.Path.{◌≡◌, refl, sym, ap, ap₂, subst, ◌∙◌}
use mathlib.Core.Bool.{Bool, true, false, cond}
use mathlib.Core.List.{List, [], ◌∷◌, ◌++◌, flat_map}
use Prim.Native.Nat.{ℕ, zero, suc, ◌+◌, ◌*◌, ◌<◌}
use native.Mathlib.Omega.{arith}
use native.Mathlib.Decide.{dec_lt}
use lib.ListN.{length, get_or, take}
use lib.Dec.{ltb}
use lib.Seq.{take_all}
use borrow.Author.Tests.{eq-eqb, ne_eqb}
use Rattle.trellis.specs.Lists.{run, each, sum, over}
use Rattle.trellis.specs.Word.{Word}
use Rattle.trellis.specs.Witness.{Witness, found, nothing, witness}
use Rattle.trellis.specs.Outcome.{Outcome, success, short_map, short_section}
use Rattle.trellis.specs.Layout.{n_of, section_of}
use Rattle.trellis.proofs.Buffers.{over_front}
use Rattle.table.specs.File.{accepted, table_file}
use Rattle.table.proofs.Accepted.{passes_accepted}
use Rattle.merging.specs.Merging.{Merging, left, map_of, map_length, written, merged, merged_table, merged_file, merging}
use Rattle.merging.proofs.Success.{by_nothing}
use Rattle.text.specs.Line.{line}
use Rattle.lines.specs.Text.{refusal_line}
use Rattle.text_buffer.specs.Listing.{in_buffer}
use Rattle.listing.proofs.Room.{long_enough}
use Rattle.listing.proofs.Merged.{counts_inside, same_additions, same_selections}
use Rattle.records.specs.Records.{sum_over}
use Rattle.records.specs.declared.BlockRecord.{BlockRecord}
use Rattle.input_parts.specs.Input.{input_blocks, input_index, table_at, most_input, witness_outcome, table_outcome, section_in, input_outcome}
use Rattle.sheet_input.proofs.Far.{ends_near, outcome_same}
use Rattle.sheet_input.proofs.Right.{InputRight, input_right, index_below_lem, table_passes}
use Rattle.sheet_records.specs.Sheet.{record_of, block_record, records_of, total_word, block_line, total_line, sheet_lines, sheet_text, sheet}
use Rattle.sheet.specs.Printed.{IsRecord, AllPrinted, FrontIsEnough}

-- ---- sums

sum_run : (cost : BlockRecord → ℕ) (f : ℕ → BlockRecord) (at count : ℕ) → sum_over cost (run f at count) ≡ sum (λ b. cost (f b)) at count
unfolding sum_over run sum
sum_run cost f at zero = refl
sum_run cost f at (suc count) = ap (λ k. cost (f at) + k) (sum_run cost f (suc at) count)

-- ---- what merging writes for an accepted table

no_witness : (w : Witness) → (witness_outcome w).number ≡ 0 → w ≡ nothing
no_witness (found t i j k) e = absurd (omega arith)
no_witness nothing e = refl

module _ (q n states : ℕ) (table : List Word) (map section : List ℕ) where
  abbrev own : List ℕ
  own = section_of q n states table

  wrote : (merged_table q n states table map section).answer.number ≡ 0
      → (merged_table q n states table map section).section ≡ over own section
  unfolding merged_table merged written
  wrote e = go (ltb (length map) (map_length n table)) (witness n table) e
    where
      last : (b : Bool)
          → (cond b (left (short_section (length own)) (over (map_of n table) map) section)
          (left (success (length own)) (over (map_of n table) map) (over own section))).answer.number ≡ 0
          → (cond b (left (short_section (length own)) (over (map_of n table) map) section)
          (left (success (length own)) (over (map_of n table) map) (over own section))).section ≡ over own section
      last true e = absurd (omega arith)
      last false e = refl

      go : (a : Bool) (w : Witness)
          → (cond a (left (short_map (map_length n table)) map section) (merged q n states table map section w)).answer.number ≡ 0
          → (cond a (left (short_map (map_length n table)) map section) (merged q n states table map section w)).section ≡ over own section
      go true w e = absurd (omega arith)
      go false (found t i j k) e = absurd (omega arith)
      go false nothing e = last (ltb (length section) (length own)) e

  -- the counts stand in the front of what was written
  same_front : (i : ℕ) → i < 4 + 2 * n_of own → get_or (over own section) i 0 ≡ get_or own i 0
  same_front i h = over_front own section i (omega (arith, counts_inside q n states table))

-- ---- a record and its section

module _ (input : List ℕ) (R : InputRight input) (b : ℕ) (below : b < input_blocks input) where
  abbrev file : List ℕ
  file = table_at input (input_index input b)

  fine : (table_outcome (table_file file)).number ≡ 0
  fine = R.tables (input_index input b) (index_below_lem input R.head b below)

  -- by what the file's checks come to
  module _ {q n states : ℕ} {table : List Word} (e : table_file file ≡ accepted q n states table) where
    merging_is : (map section : List ℕ) → merging file map section ≡ merged_table q n states table map section
    unfolding merging merged_file
    merging_is map section = ap (merged_file map section) e

    written_is : (map section : List ℕ) → (merging file map section).answer.number ≡ 0
        → (merging file map section).section ≡ over (section_of q n states table) section
    written_is map section h =
        ap (λ (m : Merging). m.section) (merging_is map section)
        ∙ wrote q n states table map section (ap (λ (m : Merging). m.answer.number) (sym (merging_is map section)) ∙ h)

    abbrev l : List ℕ
    l = section_of q n states table

    -- the same counts give the same record
    same_record : (m : List ℕ) → ((i : ℕ) → i < 4 + 2 * n_of l → get_or m i 0 ≡ get_or l i 0)
        → record_of b (input_index input b) l ≡ record_of b (input_index input b) m
    same_record m same = sym (λ k. record {
      index = b;
      section = input_index input b;
      additions = same_additions l m same k;
      selections = same_selections l m same k;
    })

    own_record : IsRecord input b (record_of b (input_index input b) l)
    own_record = record {
      merges = λ map section m s.
          let L = long_enough file e in
          let w = no_witness (witness n table) (ap (λ f. (table_outcome f).number) (sym e) ∙ fine) in
          ap (λ (r : Merging). r.answer.number) (by_nothing file map section e (omega (arith, L.0)) (omega (arith, L.1)) w);
      counts = λ map section h. same_record (over l section) (same_front q n states table map section)
          ∙ ap (record_of b (input_index input b)) (sym (written_is map section h));
    }

  pub is_record : IsRecord input b (block_record input b)
  is_record =
      let a = passes_accepted file (table_passes file fine) in
      subst (λ f. IsRecord input b (record_of b (input_index input b) (section_in f))) (sym a) (own_record a)

-- ---- the sheet

pub all_printed : AllPrinted
unfolding sheet_text sheet_lines records_of total_line
all_printed input none =
    let f : ℕ → BlockRecord = block_record input in
    record {
      record_at = f;
      are_records = is_record input (input_right input none);
      lines =
          simp (eq-eqb (input_outcome input).number 0 none)
          (ap₂ (λ a s. flat_map block_line (each f (input_blocks input)) ++ line total_word (a ∷ s ∷ []))
          (sum_run (λ r. r.additions) f 0 (input_blocks input)) (sum_run (λ r. r.selections) f 0 (input_blocks input)));
    }

far_refused : (input : List ℕ) → most_input < length input → (input_outcome input).number ≡ 0 → ⊥
far_refused input long none = omega (arith, ends_near input (input_right input none), (input_right input none).ends)

pub front_is_enough : FrontIsEnough
unfolding sheet sheet_text
front_is_enough input buffer bytes = go (dec_lt most_input (length input))
  where
    go : Dec (most_input < length input) → sheet (take most_input input) buffer ≡ sheet input buffer
    go (no h) = ap (λ l. sheet l buffer) (take_all most_input input (omega arith))
    go (yes h) =
        let e = outcome_same input bytes h in
        let n : (input_outcome input).number ≡ 0 → ⊥ = far_refused input h in
        let a : sheet_text (take most_input input) ≡ refusal_line (input_outcome (take most_input input)) =
        simp (ne_eqb (input_outcome (take most_input input)).number 0 (λ z. n (ap (λ (o : Outcome). o.number) (sym e) ∙ z))) refl in
        let b : sheet_text input ≡ refusal_line (input_outcome input) = simp (ne_eqb (input_outcome input).number 0 n) refl in
        ap (λ t. in_buffer t buffer) (a ∙ ap refusal_line e ∙ sym b)
