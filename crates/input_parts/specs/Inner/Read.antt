-- What reading the input leaves: a fault in numbers, or both costs of each section.
use Rattle.std.specs.Prelude.{◌≡◌, cond, not, Result, MatchResult, List, [], ◌∷◌, ℕ, ◌+◌, ◌<◌, ◌≤◌, length, get_or, ltb}
use Rattle.trellis.specs.Bounds.{most_sections}
use Rattle.trellis.specs.Lists.{within}
use Rattle.trellis.specs.Outcome.{Outcome, outcome, bad_section, bad_block}
use Rattle.trellis.specs.Selections.{additions, selections}
use Rattle.trellis.specs.Layout.{n_of, vertex_count_of, edge_count_of}
use Rattle.outcomes.specs.Inner.Holds.{Holds}
use Rattle.outcomes.specs.declared.Returned.{Returned}
use Rattle.table.specs.File.{TableFile, table_file}
use Rattle.text.specs.Inner.Digits.{AllBelow}
use Rattle.input_parts.specs.Input.{input_sections, input_blocks, table_at, table_outcome, section_in, lengths_bad, first_index}
use Rattle.input_parts.specs.Input.{input_outcome}

-- a section's edges and selections, by its counts
abbrev pub additions_of : List ℕ → ℕ
additions_of l = additions (n_of l) (edge_count_of l)

abbrev pub selections_of : List ℕ → ℕ
selections_of l = selections (n_of l) (vertex_count_of l) (edge_count_of l)

-- table j as its checks have it
abbrev pub table_in : List ℕ → ℕ → TableFile
table_in input j = table_file (table_at input j)

-- K, B and the indices: the first fault, number 0 where there is none
unfoldable pub head_outcome : List ℕ → Outcome
head_outcome input =
    cond (not (within 1 most_sections (input_sections input))) (bad_section (input_sections input))
    (cond (lengths_bad input) (bad_block (input_blocks input))
    (cond (ltb (first_index input) (input_blocks input)) (bad_block (first_index input)) (outcome 0 [])))

-- bytes behind the last table
unfoldable pub left_over : ℕ → ℕ → ℕ → Outcome
left_over end length sections = cond (ltb end length) (bad_section sections) (outcome 0 [])

-- K and B as numbers of one byte and of two
pub record HeadRead (input : List ℕ) (sections blocks : ℕ) : Type 0 where
  pub sections_are : sections ≡ input_sections input
  pub blocks_are : blocks ≡ input_blocks input
  pub sections_to : sections ≤ 255
  pub blocks_to : blocks ≤ 65535

-- nothing is at fault with K, B and the indices, and the first table begins at `start`
pub record HeadPassed (input : List ℕ) (start sections : ℕ) : Type 0 where
  pub fine : (head_outcome input).number ≡ 0
  pub start_is : start ≡ 3 + input_blocks input
  pub sections_are : sections ≡ input_sections input

-- an outcome in numbers, none of them of more than six digits, so that its line is short
pub record Told (o : Outcome) (number count : ℕ) (values : List ℕ) : Type 0 where
  pub holds : Holds o number count values
  pub small : AllBelow 6 (o.number ∷ o.values)

-- a fault in numbers
pub record Fault (o : Outcome) (r : Returned) : Type 0 where
  pub some : r.number ≡ 0 → ⊥
  pub told : Told o r.number r.count r.values

-- the answer of a test: the fault in numbers, and where there is none the outcome is number 0 alone
abbrev pub TellsFault : {A : Type 0} → Outcome → Result A Returned → Type 0
TellsFault o result = MatchResult result (λ fine. o ≡ outcome 0 []) (Fault o)

-- a table with no fault: both costs of its section
pub record TableMeasured (f : TableFile) (added selected : ℕ) : Type 0 where
  pub outcome_is : table_outcome f ≡ outcome 0 []
  pub additions_are : added ≡ additions_of (section_in f)
  pub selections_are : selected ≡ selections_of (section_in f)

-- both costs of the first k sections stand in two arrays
pub record SectionCosts (input : List ℕ) (k : ℕ) (added selected : List ℕ) : Type 0 where
  pub added_length : length added ≡ most_sections
  pub selected_length : length selected ≡ most_sections
  pub additions_at : (j : ℕ) → j < k → get_or added j 0 ≡ additions_of (section_in (table_in input j))
  pub selections_at : (j : ℕ) → j < k → get_or selected j 0 ≡ selections_of (section_in (table_in input j))

-- an input with no fault: both costs of all K sections
pub record Read (input added selected : List ℕ) : Type 0 where
  pub outcome_is : input_outcome input ≡ outcome 0 []
  pub costs : SectionCosts input (input_sections input) added selected
