-- What document 02's request 3 says of a sheet beyond how it is printed, each sentence with its statement; proofs/Printed has the proofs.
use Rattle.std.specs.Prelude.{◌≡◌, ℕ, ◌+◌, ◌*◌, ◌<◌, ◌≤◌, length, get_or, take}
use mathlib.Core.List.{List, [], ◌∷◌, ◌++◌, flat_map}
use Rattle.trellis.specs.Bounds.{most_symbols, most_states, most_words}
use Rattle.trellis.specs.Lists.{each, sum}
use Rattle.merging.specs.Merging.{merging}
use Rattle.text.specs.Line.{line}
use Rattle.records.specs.declared.BlockRecord.{BlockRecord}
use Rattle.input_parts.specs.Input.{input_blocks, input_index, table_at, most_input, input_outcome}
use Rattle.sheet_records.specs.Sheet.{record_of, total_word, block_line, sheet_text, sheet}

-- "each record equals its section's edges and selections": r is the record of block b. Merging the table of its section succeeds in all
-- buffers that are long enough for every table, and wherever it does, r is the record of the section that it wrote.
pub record IsRecord (input : List ℕ) (b : ℕ) (r : BlockRecord) : Type 0 where
  pub merges : (map section : List ℕ) → (most_symbols + 1) * most_words ≤ length map
      → 4 + 2 * most_symbols + 2 * most_states + 3 * most_symbols * most_words ≤ length section
      → (merging (table_at input (input_index input b)) map section).answer.number ≡ 0
  pub counts : (map section : List ℕ) → (merging (table_at input (input_index input b)) map section).answer.number ≡ 0
      → r ≡ record_of b (input_index input b) (merging (table_at input (input_index input b)) map section).section

-- "one record for each block"; "The totals are the sums over the records printed above them"
pub record Printed (input text : List ℕ) : Type 0 where
  pub record_at : ℕ → BlockRecord
  pub are_records : (b : ℕ) → b < input_blocks input → IsRecord input b (record_at b)
  pub lines : text ≡ flat_map block_line (each record_at (input_blocks input))
      ++ line total_word
      (sum (λ b. (record_at b).additions) 0 (input_blocks input) ∷ sum (λ b. (record_at b).selections) 0 (input_blocks input) ∷ [])

abbrev pub AllPrinted : Type 0
AllPrinted = (input : List ℕ) → (input_outcome input).number ≡ 0 → Printed input (sheet_text input)

-- "has no limit of 65,535 bytes": whatever follows the first `most_input` bytes changes nothing, so that a program need not read it
abbrev pub FrontIsEnough : Type 0
FrontIsEnough = (input buffer : List ℕ) → ((i : ℕ) → get_or input i 0 < 256) → sheet (take most_input input) buffer ≡ sheet input buffer
