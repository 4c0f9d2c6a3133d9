-- How `merging_rows` computes along each of its ways: the first test that fails gives a refusal that keeps all three buffers, and where none
-- fails map and section are what merging the table writes. The rows count only by their table.
use mathlib.Core.Path.{◌≡◌, refl}
use mathlib.Core.Bool.{true, false}
use mathlib.Core.List.{List}
use Prim.Native.Nat.{ℕ, ◌+◌, ◌*◌, ◌^◌, ◌≤◌, ◌<◌}
use native.Mathlib.Omega.{arith}
use lib.ListN.{length}
use borrow.Author.Tests.{lt-ltb, le-ltb}
use Rattle.trellis.specs.Outcome.{Outcome, short_map, short_buffer, bad_rows, dependent_row}
use Rattle.merging.specs.Merging.{map_length, written}
use Rattle.word_file.proofs.Writing.{table_length}
use Rattle.rows.specs.Sums.{first_dependent}
use Rattle.rows.specs.Table.{row_width, table_of, sizes_fit, first_wide}
use Rattle.merging_rows.specs.MergingRows.{MergingRows, left, rows_file, with_file, merged_rows, merging_rows}

pub file_length : (s n : ℕ) (rows : List ℕ) → length (rows_file s n rows) ≡ 5 + 4 * length (table_of s n rows)
unfolding rows_file
file_length s n rows = table_length 2 n (2 ^ s) (table_of s n rows)

module _ (s n : ℕ) (rows file map section : List ℕ) where
  -- all three buffers as they were
  abbrev pub unchanged : Outcome → MergingRows
  unchanged o = left o file map section

  -- ---- the checks

  pub by_sizes : sizes_fit s n (length rows) ≡ false → merging_rows s n rows file map section ≡ unchanged (bad_rows (length rows))
  unfolding merging_rows
  by_sizes e = rw e refl

  module _ (fit : sizes_fit s n (length rows) ≡ true) where
    pub by_width : first_wide (row_width s n) rows < length rows
        → merging_rows s n rows file map section ≡ unchanged (bad_rows (first_wide (row_width s n) rows))
    unfolding merging_rows
    by_width h = rw (fit, lt-ltb (first_wide (row_width s n) rows) (length rows) h) refl

    module _ (narrow : first_wide (row_width s n) rows < length rows → ⊥) where
      pub by_dependence : first_dependent rows < length rows
          → merging_rows s n rows file map section ≡ unchanged (dependent_row (first_dependent rows))
      unfolding merging_rows
      by_dependence h =
          rw (
            fit,
            le-ltb (first_wide (row_width s n) rows) (length rows) (omega arith),
            lt-ltb (first_dependent rows) (length rows) h,
          )
          refl

      pub by_checks : (first_dependent rows < length rows → ⊥)
          → merging_rows s n rows file map section ≡ merged_rows s n rows file map section
      unfolding merging_rows
      by_checks h =
          rw (
            fit,
            le-ltb (first_wide (row_width s n) rows) (length rows) (omega arith),
            le-ltb (first_dependent rows) (length rows) (omega arith),
          )
          refl

  -- ---- the buffers

  pub by_file : length file < length (rows_file s n rows)
      → merged_rows s n rows file map section ≡ unchanged (short_buffer (length (rows_file s n rows)))
  unfolding merged_rows
  by_file h = rw (lt-ltb (length file) (length (rows_file s n rows)) h) refl

  module _ (room : length (rows_file s n rows) ≤ length file) where
    pub by_map : length map < map_length n (table_of s n rows)
        → merged_rows s n rows file map section ≡ unchanged (short_map (map_length n (table_of s n rows)))
    unfolding merged_rows
    by_map h =
        rw (le-ltb (length file) (length (rows_file s n rows)) room, lt-ltb (length map) (map_length n (table_of s n rows)) h) refl

    pub by_room : map_length n (table_of s n rows) ≤ length map
        → merged_rows s n rows file map section
        ≡ with_file s n rows file map section (written 2 n (2 ^ s) (table_of s n rows) map section)
    unfolding merged_rows
    by_room h =
        rw (le-ltb (length file) (length (rows_file s n rows)) room, le-ltb (length map) (map_length n (table_of s n rows)) h) refl

-- ---- only the table counts

pub same_rows : (s n : ℕ) (rows base file map section : List ℕ) → table_of s n rows ≡ table_of s n base
    → merged_rows s n rows file map section ≡ merged_rows s n base file map section
unfolding merged_rows with_file rows_file
same_rows s n rows base file map section e = rw e refl
