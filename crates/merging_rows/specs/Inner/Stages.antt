-- What the stages of merging generator rows ask and leave.
use Rattle.answers.specs.declared.merge_rows.MergeRowsRefusal.{MergeRowsRefusal}
use Rattle.std.specs.Prelude.{◌≡◌, List, ℕ, ◌+◌, ◌*◌, ◌≤◌, ◌<◌, length, Result}
use Rattle.trellis.specs.Bounds.{most_symbols, most_state_bits, most_rows}
use Rattle.answers.specs.Answers.{merged_rows_outcome}
use Rattle.rows.specs.Table.{row_width}
use Rattle.rows.specs.Inner.Reduced.{Narrow, Echelon}
use Rattle.row_map.specs.Inner.Maps.{MapAsked}
use Rattle.merging_rows.specs.MergingRows.{MergingRows}

-- rows in reduced form within the bounds, with their check
pub record BaseAsked (s n : ℕ) (rows columns : List ℕ) : Type 0 where
  pub echelon : Echelon 16 rows columns
  pub narrow : Narrow (row_width s n) rows
  pub few : length rows ≤ most_rows
  pub states : s ≤ most_state_bits
  pub some : 0 < n
  pub symbols : n ≤ most_symbols

-- and file and map with room for their w words
pub record BuildAsked (s n : ℕ) (rows columns : List ℕ) (w : ℕ) (file map : List ℕ) : Type 0 where
  pub asked : MapAsked s n rows columns w map
  pub file_room : 5 + 4 * w ≤ length file

-- the answer and the three buffers are those of m
pub record RowsEnd (m : MergingRows) (r : Result ℕ MergeRowsRefusal) (file map section : List ℕ) : Type 0 where
  pub answer_is : merged_rows_outcome r ≡ m.answer
  pub file_is : file ≡ m.file
  pub map_is : map ≡ m.map
  pub section_is : section ≡ m.section
