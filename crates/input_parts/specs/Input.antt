-- The input of a block sheet, as document 02's request 3 has it: K in one byte, B in two, B section indices of one byte, then K tables one
-- behind another. What stands where, and what the input is refused for. Everything here computes.
use Rattle.std.specs.Prelude.{Bool, cond, not, ◌||◌, List, [], ℕ, zero, suc, ◌+◌, ◌-◌, ◌*◌, length, take, drop, ltb, eqb}
use Rattle.trellis.specs.Bounds.{most_sections, most_blocks, most_words}
use Rattle.trellis.specs.Lists.{first, within}
use Rattle.trellis.specs.Layout.{section_of}
use Rattle.trellis.specs.Witness.{Witness, found, nothing, witness}
use Rattle.trellis.specs.Outcome.{Outcome, outcome, not_rectangular, bad_section, bad_block}
use Rattle.fields.specs.Fields.{byte_at, two_bytes, word_count}
use Rattle.table.specs.File.{TableFile, refused, accepted, table_file}

-- K and B; a missing byte counts as 0
abbrev pub input_sections : List ℕ → ℕ
input_sections input = byte_at input 0

abbrev pub input_blocks : List ℕ → ℕ
input_blocks input = two_bytes (byte_at input 1) (byte_at input 2)

-- the section of block b
abbrev pub input_index : List ℕ → ℕ → ℕ
input_index input b = byte_at input (3 + b)

-- how many bytes a table has by its own W
abbrev pub table_length : List ℕ → ℕ
table_length file = 5 + 4 * word_count file

-- the table at the front of bytes: as many as it has by its W, or all of them
abbrev pub table_part : List ℕ → List ℕ
table_part rest = take (table_length rest) rest

-- where table j begins
unfoldable pub table_start : List ℕ → ℕ → ℕ
table_start input zero = 3 + input_blocks input
table_start input (suc j) = table_start input j + table_length (drop (table_start input j) input)

unfoldable pub table_at : List ℕ → ℕ → List ℕ
table_at input j = table_part (drop (table_start input j) input)

-- no table has more bytes: two bytes state no larger W
abbrev pub any_table : ℕ
any_table = 5 + 4 * 65535

-- the longest input whose answer can depend on its last byte: as many blocks and sections as there can be, each table but the last with as
-- many words as it can have, and a last one that is refused for its W once all its bytes are there, and cut short before
abbrev pub most_input : ℕ
most_input = 3 + most_blocks + (most_sections - 1) * (5 + 4 * most_words) + any_table

-- ---- what a table comes to

abbrev pub witness_outcome : Witness → Outcome
witness_outcome (found t i j k) = not_rectangular t i j k
witness_outcome nothing = outcome 0 []

-- a table's own refusal, 1 to 4, or 6 where it is not rectangular; number 0 where there is none
abbrev pub table_outcome : TableFile → Outcome
table_outcome (refused o) = o
table_outcome (accepted q n states table) = witness_outcome (witness n table)

-- the numbers of the section that merging writes for a table
abbrev pub section_in : TableFile → List ℕ
section_in (refused o) = []
section_in (accepted q n states table) = section_of q n states table

-- ---- what is at fault

-- B is outside its bounds, or the list of indices is short
unfoldable pub lengths_bad : List ℕ → Bool
lengths_bad input = not (within 1 most_blocks (input_blocks input)) || ltb (length input) (3 + input_blocks input)

-- the first block whose index is not below K, or B
unfoldable pub index_bad : List ℕ → ℕ → Bool
index_bad input b = not (ltb (input_index input b) (input_sections input))

unfoldable pub first_index : List ℕ → ℕ
first_index input = first (index_bad input) (input_blocks input)

-- the first table that is refused, or K
unfoldable pub table_refused : List ℕ → ℕ → Bool
table_refused input j = not (eqb (table_outcome (table_file (table_at input j))).number 0)

unfoldable pub first_refused : List ℕ → ℕ
first_refused input = first (table_refused input) (input_sections input)

-- the first fault, in the order K, B, the indices, the tables, bytes left over; number 0 where there is none
unfoldable pub input_outcome : List ℕ → Outcome
input_outcome input =
    cond (not (within 1 most_sections (input_sections input))) (bad_section (input_sections input))
    (cond (lengths_bad input) (bad_block (input_blocks input))
    (cond (ltb (first_index input) (input_blocks input)) (bad_block (first_index input))
    (cond (ltb (first_refused input) (input_sections input)) (table_outcome (table_file (table_at input (first_refused input))))
    (cond (ltb (table_start input (input_sections input)) (length input)) (bad_section (input_sections input))
    (outcome 0 [])))))
