-- The block sheet of document 02's request 3: a record for each block, a line for each record, and a line of their sums. Everything here
-- computes.
use Rattle.std.specs.Prelude.{cond, ℕ, eqb}
use mathlib.Core.List.{List, [], ◌∷◌, ◌++◌, flat_map}
use Rattle.trellis.specs.Lists.{each}
use Rattle.trellis.specs.Selections.{additions, selections}
use Rattle.trellis.specs.Layout.{n_of, vertex_count_of, edge_count_of}
use Rattle.table.specs.File.{table_file}
use Rattle.text.specs.Line.{line}
use Rattle.lines.specs.Text.{refusal_line}
use Rattle.text_buffer.specs.Listing.{Listing, in_buffer}
use Rattle.records.specs.Records.{additions_sum, selections_sum}
use Rattle.records.specs.declared.BlockRecord.{BlockRecord}
use Rattle.input_parts.specs.Input.{input_blocks, input_index, table_at, section_in, input_outcome}

-- the record of block b whose section is the one with index j, in numbers l: its additions and selections are those of the counts in l
abbrev pub record_of : ℕ → ℕ → List ℕ → BlockRecord
record_of b j l = record {
  index = b;
  section = j;
  additions = additions (n_of l) (edge_count_of l);
  selections = selections (n_of l) (vertex_count_of l) (edge_count_of l);
}

-- the numbers of the section of block b
abbrev pub section_numbers : List ℕ → ℕ → List ℕ
section_numbers input b = section_in (table_file (table_at input (input_index input b)))

-- one record for each block
abbrev pub block_record : List ℕ → ℕ → BlockRecord
block_record input b = record_of b (input_index input b) (section_numbers input b)

unfoldable pub records_of : List ℕ → List BlockRecord
records_of input = each (block_record input) (input_blocks input)

-- the fixed words in bytes: block, total
abbrev pub block_word : List ℕ
block_word = 98 ∷ 108 ∷ 111 ∷ 99 ∷ 107 ∷ []

abbrev pub total_word : List ℕ
total_word = 116 ∷ 111 ∷ 116 ∷ 97 ∷ 108 ∷ []

unfoldable pub block_line : BlockRecord → List ℕ
block_line r = line block_word (r.index ∷ r.section ∷ r.additions ∷ r.selections ∷ [])

unfoldable pub total_line : List BlockRecord → List ℕ
total_line records = line total_word (additions_sum records ∷ selections_sum records ∷ [])

-- a line for each record, then their sums
unfoldable pub sheet_lines : List BlockRecord → List ℕ
sheet_lines records = flat_map block_line records ++ total_line records

-- what is printed for an input
unfoldable pub sheet_text : List ℕ → List ℕ
sheet_text input = cond (eqb (input_outcome input).number 0) (sheet_lines (records_of input)) (refusal_line (input_outcome input))

-- what a call leaves: the text in a lent buffer
unfoldable pub sheet : List ℕ → List ℕ → Listing
sheet input buffer = in_buffer (sheet_text input) buffer
