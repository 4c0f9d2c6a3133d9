-- What the steps of making a sheet ask and leave.
use Rattle.std.specs.Prelude.{◌≡◌, List, ℕ, ◌<◌, ◌≤◌, length, take}
use Rattle.trellis.specs.Bounds.{most_sections, most_blocks}
use Rattle.text.specs.Inner.Put.{Put}
use Rattle.records.specs.declared.BlockRecord.{BlockRecord}
use Rattle.input_parts.specs.Input.{input_sections, input_blocks, input_index}
use Rattle.input_parts.specs.Inner.Read.{SectionCosts}
use Rattle.sheet_records.specs.Sheet.{sheet_text}

-- B blocks, each with a section below K, and both costs of all K sections
pub record Drawn (input : List ℕ) (blocks : ℕ) (added selected : List ℕ) : Type 0 where
  pub blocks_are : blocks ≡ input_blocks input
  pub few_blocks : blocks ≤ most_blocks
  pub few_sections : input_sections input ≤ most_sections
  pub indices_below : (b : ℕ) → b < blocks → input_index input b < input_sections input
  pub costs : SectionCosts input (input_sections input) added selected

-- the first `blocks` places of an array hold the records
pub record Holding (records : List BlockRecord) (blocks : ℕ) (items : List BlockRecord) : Type 0 where
  pub places : length items ≡ most_blocks
  pub are : take blocks items ≡ records

-- bytes that are enough for every sheet
abbrev pub any_sheet : ℕ
any_sheet = 8192

-- the text of an input is put at the front of a buffer, and fits where there are these bytes
pub record SheetMade (input old new : List ℕ) (end : ℕ) : Type 0 where
  pub put : Put old 0 (sheet_text input) new end
  pub short : length (sheet_text input) ≤ any_sheet
