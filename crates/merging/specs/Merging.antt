-- What merging a table file leaves: document 01's answer and the whole content of both buffers, from the file's bytes and the buffers
-- before the call. Everything here computes.
use Rattle.answers.specs.declared.merge.MergeRefusal.{MergeRefusal}
use Rattle.std.specs.Prelude.{cond, List, ◌≡◌, ℕ, suc, ◌+◌, ◌*◌, length, replicate, ltb, Result}
use Rattle.trellis.specs.Lists.{each, over}
use Rattle.trellis.specs.Word.{Word}
use Rattle.trellis.specs.Own.{vertex_of}
use Rattle.trellis.specs.Layout.{joined_up, section_of}
use Rattle.trellis.specs.Witness.{Witness, found, nothing, witness}
use Rattle.trellis.specs.Outcome.{Outcome, success, short_map, not_rectangular, short_section}
use Rattle.outcomes.specs.Numbered.{Numbered}
use Rattle.answers.specs.Answers.{merged_outcome}
use Rattle.table.specs.File.{TableFile, refused, accepted, table_file}

pub record Merging : Type 0 where
  pub answer : Outcome
  pub map : List ℕ
  pub section : List ℕ

abbrev pub left : Outcome → List ℕ → List ℕ → Merging
left o map section = record { answer = o; map = map; section = section }

-- refusal 6, as a witness gives it
abbrev pub refusal_of : Witness → Outcome
refusal_of (found t i j k) = not_rectangular t i j k
refusal_of nothing = not_rectangular 0 0 0 0

-- document 01's map: at place t·W + i the vertex of word i at depth t
unfoldable pub map_of : ℕ → List Word → List ℕ
map_of n table = joined_up (λ t. each (vertex_of n table t) (length table)) (suc n)

-- W·(n+1)
abbrev pub map_length : ℕ → List Word → ℕ
map_length n table = length table * (n + 1)

module _ (q n states : ℕ) (table : List Word) (map section : List ℕ) where
  -- 7, or success
  unfoldable pub written : Merging
  written =
      cond (ltb (length section) (length (section_of q n states table)))
      (left (short_section (length (section_of q n states table))) (over (map_of n table) map) section)
      (left (success (length (section_of q n states table))) (over (map_of n table) map) (over (section_of q n states table) section))

  -- 6 where there is a witness
  unfoldable pub merged : Witness → Merging
  merged (found t i j k) = left (not_rectangular t i j k) (over (replicate (map_length n table) 0) map) section
  merged nothing = written

  -- 5, or what the witness search says
  unfoldable pub merged_table : Merging
  merged_table = cond (ltb (length map) (map_length n table)) (left (short_map (map_length n table)) map section) (merged (witness n table))

-- 1 to 4 leave both buffers unchanged
unfoldable pub merged_file : List ℕ → List ℕ → TableFile → Merging
merged_file map section (refused o) = left o map section
merged_file map section (accepted q n states table) = merged_table q n states table map section

unfoldable pub merging : List ℕ → List ℕ → List ℕ → Merging
merging file map section = merged_file map section (table_file file)

-- the answer and both buffers are those of m
pub record Ends (m : Merging) (r : Result ℕ MergeRefusal) (map section : List ℕ) : Type 0 where
  pub answer_is : merged_outcome r ≡ m.answer
  pub map_is : map ≡ m.map
  pub section_is : section ≡ m.section

-- the same with the answer in numbers, as the function for C leaves it
pub record MergeLeft (m : Merging) (number : ℕ) (map section values : List ℕ) : Type 0 where
  pub answer_is : Numbered m.answer number values
  pub map_is : map ≡ m.map
  pub section_is : section ≡ m.section
