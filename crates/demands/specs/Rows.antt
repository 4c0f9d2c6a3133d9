-- What merging generator rows comes to, for all arguments, after document 02's request 7: "The words are exactly the sums of rows modulo 2,
-- the empty sum included; q is 2 and S is 2 to the number of state bits." "Map and section are those of merging that table, in every
-- number. Refusal 6 is shown never to arise for such tables". And what document 004 says of its syndrome trellis holds of these sections.
use Rattle.std.specs.Prelude.{◌≡◌, true, ◌↔◌, List, ℕ, ◌^◌, ◌≤◌, ◌<◌, length, get_or, take}
use Rattle.trellis.specs.Lists.{◌∈◌}
use Rattle.trellis.specs.Word.{Word, Rectangular}
use Rattle.trellis.specs.Own.{vertex_of, vertex_count, edge_count}
use Rattle.table.specs.File.{table_file, accepted}
use Rattle.merging.specs.Merging.{Merging, merging}
use Rattle.rows.specs.Sums.{IsSum, sums}
use Rattle.rows.specs.Table.{row_width, word_of, table_of, cut_at, sizes_fit}
use Rattle.rows.specs.Check.{ParityCheck, syndrome_at}
use Rattle.rows.specs.Power.{Power}
use Rattle.merging_rows.specs.MergingRows.{MergingRows, rows_file, merging_rows}

module _ (s n : ℕ) (rows : List ℕ) where
  -- rows that pass 14 and 15: sizes within their bounds, no bits above the width, no row a sum of earlier ones
  pub record Sound : Type 0 where
    pub fit : sizes_fit s n (length rows) ≡ true
    pub narrow : (j : ℕ) → j < length rows → get_or rows j 0 < 2 ^ row_width s n
    pub independent : (j : ℕ) → j < length rows → IsSum (take j rows) (get_or rows j 0) → ⊥

  -- a word of the table is that of a sum
  pub record SumWord (w : Word) : Type 0 where
    pub row : ℕ
    pub sum : IsSum rows row
    pub is : w ≡ word_of s n row

  -- "The words are exactly the sums of rows modulo 2, the empty sum included"
  pub record ExactlySums : Type 0 where
    pub every : (w : Word) → w ∈ table_of s n rows → SumWord w
    pub only : (x : ℕ) → (word_of s n x ∈ table_of s n rows) ↔ IsSum rows x

  -- two words share a vertex at an inner depth exactly if their partial syndromes agree, whatever the parity check; word i is sum i
  abbrev pub BySyndromes : Type 0
  BySyndromes = (N : ℕ) (columns : List ℕ) → ParityCheck N rows columns → row_width s n ≤ N → (t : ℕ) → 0 < t → t < n
      → (i j : ℕ) → i < length (table_of s n rows) → j < length (table_of s n rows)
      → (vertex_of n (table_of s n rows) t i ≡ vertex_of n (table_of s n rows) t j)
      ↔ (syndrome_at columns (cut_at s n t) (get_or (sums rows) i 0) ≡ syndrome_at columns (cut_at s n t) (get_or (sums rows) j 0))

  -- the vertices of each depth and the edges of each step are powers of 2 in number
  pub record Powers : Type 0 where
    pub vertices : (t : ℕ) → t ≤ n → Power (vertex_count n (table_of s n rows) t)
    pub edges : (t : ℕ) → t < n → Power (edge_count n (table_of s n rows) t)

  -- "Map and section are those of merging that table, in every number": m is what merging the table's file leaves, and the file stands in
  -- its buffer on success
  pub record AsMerged (m : Merging) (r : MergingRows) : Type 0 where
    pub answer : r.answer ≡ m.answer
    pub map : r.map ≡ m.map
    pub section : r.section ≡ m.section
    pub file : r.answer.number ≡ 0 → take (length (rows_file s n rows)) r.file ≡ rows_file s n rows

  -- such a table is rectangular, so 6 never arises; its file is well formed, and merging it leaves the same
  pub record RowsMeaning : Type 0 where
    pub words : ExactlySums
    pub rectangular : Rectangular n (table_of s n rows)
    pub well_formed : Sound → table_file (rows_file s n rows) ≡ accepted 2 n (2 ^ s) (table_of s n rows)
    pub as_merged : Sound → (file map section : List ℕ) → length (rows_file s n rows) ≤ length file
        → AsMerged (merging (rows_file s n rows) map section) (merging_rows s n rows file map section)
    pub by_syndromes : Sound → BySyndromes
    pub powers : Sound → Powers
