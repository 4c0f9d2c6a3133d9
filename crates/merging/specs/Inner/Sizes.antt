-- The sizes that merging leaves beside the section: the numbers that a section begins with, up to its counts, wherever the table has a
-- section, also where the buffer has no room for it. Everything here computes.
use Rattle.answers.specs.declared.merge.MergeRefusal.{MergeRefusal}
use Rattle.std.specs.Prelude.{◌≡◌, cond, List, [], ℕ, ◌+◌, ◌*◌, length, take, ltb, Result}
use Rattle.trellis.specs.Bounds.{most_symbols}
use Rattle.trellis.specs.Lists.{over}
use Rattle.trellis.specs.Word.{Word}
use Rattle.trellis.specs.Layout.{section_of}
use Rattle.trellis.specs.Witness.{Witness, found, nothing, witness}
use Rattle.answers.specs.Answers.{merged_outcome}
use Rattle.table.specs.File.{TableFile, refused, accepted, table_file}
use Rattle.merging.specs.Merging.{Ends, Merging, map_length, merging}

-- numbers that are enough for the sizes of every section
abbrev pub any_sizes : ℕ
any_sizes = 4 + 2 * most_symbols

module _ (q n states : ℕ) (table : List Word) where
  -- q, n, S, the vertices of each depth, the edges of each step
  unfoldable pub section_sizes : List ℕ
  section_sizes = take (4 + 2 * n) (section_of q n states table)

  -- 6 leaves the buffer of the sizes as it was
  unfoldable pub sized_by : List ℕ → Witness → List ℕ
  sized_by sizes (found t i j k) = sizes
  sized_by sizes nothing = over section_sizes sizes

  -- and so does 5
  unfoldable pub sized_table : List ℕ → List ℕ → List ℕ
  sized_table map sizes = cond (ltb (length map) (map_length n table)) sizes (sized_by sizes (witness n table))

-- and 1 to 4
unfoldable pub sized_file : List ℕ → List ℕ → TableFile → List ℕ
sized_file map sizes (refused o) = sizes
sized_file map sizes (accepted q n states table) = sized_table q n states table map sizes

unfoldable pub sizing : List ℕ → List ℕ → List ℕ → List ℕ
sizing file map sizes = sized_file map sizes (table_file file)

-- merging ends as m says and leaves these sizes
pub record EndsSized (m : Merging) (sizes : List ℕ) (r : Result ℕ MergeRefusal) (map section left : List ℕ) : Type 0 where
  pub ends : Ends m r map section
  pub sizes_are : left ≡ sizes

-- measuring answers as merging does with no room for a section, and leaves the sizes
pub record Measured (file map sizes : List ℕ) (r : Result ℕ MergeRefusal) (map' sizes' : List ℕ) : Type 0 where
  pub answer_is : merged_outcome r ≡ (merging file map []).answer
  pub map_is : map' ≡ (merging file map []).map
  pub sizes_are : sizes' ≡ sizing file map sizes
