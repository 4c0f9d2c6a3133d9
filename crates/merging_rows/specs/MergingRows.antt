-- What merging generator rows leaves, by document 02's request 7: the answer and the whole content of the three buffers, from the
-- arguments and the buffers before the call. The words are the sums of the rows, and map and section are those of merging their table.
-- Everything here computes.
use Rattle.std.specs.Prelude.{cond, List, ◌≡◌, ℕ, ◌^◌, length, ltb, eqb}
use Rattle.trellis.specs.Lists.{over}
use Rattle.trellis.specs.Outcome.{Outcome, short_map, short_buffer, bad_rows, dependent_row}
use Rattle.outcomes.specs.Numbered.{Numbered}
use Rattle.merging.specs.Merging.{Merging, map_length, written}
use Rattle.word_file.specs.TableBytes.{table_bytes}
use Rattle.rows.specs.Sums.{first_dependent}
use Rattle.rows.specs.Table.{row_width, table_of, sizes_fit, first_wide}

pub record MergingRows : Type 0 where
  pub answer : Outcome
  pub file : List ℕ
  pub map : List ℕ
  pub section : List ℕ

abbrev pub left : Outcome → List ℕ → List ℕ → List ℕ → MergingRows
left o file map section = record { answer = o; file = file; map = map; section = section }

-- the file of the table whose words are the sums of the rows; q is 2, and S is 2 to the number of state bits
unfoldable pub rows_file : ℕ → ℕ → List ℕ → List ℕ
rows_file s n rows = table_bytes 2 n (2 ^ s) (table_of s n rows)

module _ (s n : ℕ) (rows file map section : List ℕ) where
  abbrev as_before : Outcome → MergingRows
  as_before o = left o file map section

  -- what merging leaves in map and section, and on success the table's file
  unfoldable pub with_file : Merging → MergingRows
  with_file m = left m.answer (cond (eqb m.answer.number 0) (over (rows_file s n rows) file) file) m.map m.section

  -- 10 for the file buffer, then 5, then 7 or success as in merging the table
  unfoldable pub merged_rows : MergingRows
  merged_rows =
      cond (ltb (length file) (length (rows_file s n rows))) (as_before (short_buffer (length (rows_file s n rows))))
      (cond (ltb (length map) (map_length n (table_of s n rows))) (as_before (short_map (map_length n (table_of s n rows))))
      (with_file (written 2 n (2 ^ s) (table_of s n rows) map section)))

  -- 14 for the sizes, then 14 for a row, then 15
  unfoldable pub merging_rows : MergingRows
  merging_rows =
      cond (sizes_fit s n (length rows))
      (cond (ltb (first_wide (row_width s n) rows) (length rows)) (as_before (bad_rows (first_wide (row_width s n) rows)))
      (cond (ltb (first_dependent rows) (length rows)) (as_before (dependent_row (first_dependent rows))) merged_rows))
      (as_before (bad_rows (length rows)))

-- the same with the answer in numbers, as the function for C leaves it
pub record MergeRowsLeft (m : MergingRows) (number : ℕ) (file map section values : List ℕ) : Type 0 where
  pub answer_is : Numbered m.answer number values
  pub file_is : file ≡ m.file
  pub map_is : map ≡ m.map
  pub section_is : section ≡ m.section
