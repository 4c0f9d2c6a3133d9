-- Merging a table that checks 1 to 4 accept, in a map long enough, goes by the witness; where there is none and the section has room too,
-- it succeeds, and both buffers are written.
use mathlib.Core.Path.{◌≡◌, ap, ◌∙◌}
use mathlib.Core.List.{List}
use Prim.Native.Nat.{ℕ, ◌≤◌}
use lib.ListN.{length}
use borrow.Author.Tests.{le-ltb}
use Rattle.trellis.specs.Lists.{over}
use Rattle.trellis.specs.Word.{Word}
use Rattle.trellis.specs.Layout.{section_of}
use Rattle.trellis.specs.Witness.{nothing, witness}
use Rattle.trellis.specs.Outcome.{success}
use Rattle.table.specs.File.{accepted, table_file}
use Rattle.merging.specs.Merging.{left, map_of, map_length, written, merged, merged_table, merged_file, merging}

module _ (file map section : List ℕ) {q n states : ℕ} {table : List Word} (e : table_file file ≡ accepted q n states table)
    (room : map_length n table ≤ length map) where
  pub by_witness : merging file map section ≡ merged q n states table map section (witness n table)
  unfolding merging merged_file merged_table
  by_witness = ap (merged_file map section) e ∙ simp (le-ltb (length map) (map_length n table) room)

  pub by_nothing : length (section_of q n states table) ≤ length section → witness n table ≡ nothing
      → merging file map section
      ≡ left (success (length (section_of q n states table))) (over (map_of n table) map) (over (section_of q n states table) section)
  unfolding merged written
  by_nothing fits w =
      by_witness ∙ ap (merged q n states table map section) w
      ∙ simp (le-ltb (length section) (length (section_of q n states table)) fits)
