-- The bytes that document 01 prints for a table file: the sizes of the table's section, or the refusal. Everything here computes.
use Rattle.std.specs.Prelude.{cond, List, [], ◌∷◌, ◌++◌, ℕ, zero, suc, ◌+◌, length, ltb}
use Rattle.trellis.specs.Bounds.{most_bytes}
use Rattle.trellis.specs.Word.{Word}
use Rattle.trellis.specs.Witness.{Witness, found, nothing, witness}
use Rattle.trellis.specs.Outcome.{Outcome, bad_length, not_rectangular}
use Rattle.trellis.specs.Selections.{additions, selections}
use Rattle.trellis.specs.Layout.{q_of, n_of, states_of, vertex_count_of, edge_count_of, joined_up, section_of}
use Rattle.table.specs.File.{TableFile, refused, accepted, table_file}
use Rattle.text.specs.Line.{line}

-- the fixed words in bytes: section, depth, additions, selections, refused
abbrev pub section_word : List ℕ
section_word = 115 ∷ 101 ∷ 99 ∷ 116 ∷ 105 ∷ 111 ∷ 110 ∷ []

abbrev pub depth_word : List ℕ
depth_word = 100 ∷ 101 ∷ 112 ∷ 116 ∷ 104 ∷ []

abbrev pub additions_word : List ℕ
additions_word = 97 ∷ 100 ∷ 100 ∷ 105 ∷ 116 ∷ 105 ∷ 111 ∷ 110 ∷ 115 ∷ []

abbrev pub selections_word : List ℕ
selections_word = 115 ∷ 101 ∷ 108 ∷ 101 ∷ 99 ∷ 116 ∷ 105 ∷ 111 ∷ 110 ∷ 115 ∷ []

abbrev pub refused_word : List ℕ
refused_word = 114 ∷ 101 ∷ 102 ∷ 117 ∷ 115 ∷ 101 ∷ 100 ∷ []

module _ (l : List ℕ) where
  -- how many edges enter depth t
  unfoldable pub entering : ℕ → ℕ
  entering zero = 0
  entering (suc t) = edge_count_of l t

  -- the depth, its vertices, edges entering it
  unfoldable pub depth_line : ℕ → List ℕ
  depth_line t = line depth_word (t ∷ vertex_count_of l t ∷ entering t ∷ [])

  -- E and the selections
  unfoldable pub sums : List ℕ
  sums =
      line additions_word (additions (n_of l) (edge_count_of l) ∷ [])
      ++ line selections_word (selections (n_of l) (vertex_count_of l) (edge_count_of l) ∷ [])

-- q, n, S, W; a line for each depth; E and the selections
unfoldable pub sizes_of : ℕ → List ℕ → List ℕ
sizes_of words l = line section_word (q_of l ∷ n_of l ∷ states_of l ∷ words ∷ []) ++ (joined_up (depth_line l) (suc (n_of l)) ++ sums l)

-- its number and its returned numbers
unfoldable pub refusal_line : Outcome → List ℕ
refusal_line o = line refused_word (o.number ∷ o.values)

-- a table with its q, n and S: the sizes of its section, or refusal 6 where it is not rectangular
unfoldable pub table_text : ℕ → ℕ → ℕ → List Word → Witness → List ℕ
table_text q n states table (found t i j k) = refusal_line (not_rectangular t i j k)
table_text q n states table nothing = sizes_of (length table) (section_of q n states table)

-- a table file: refusals 1 to 4, or what its table gives
unfoldable pub file_text : TableFile → List ℕ
file_text (refused o) = refusal_line o
file_text (accepted q n states table) = table_text q n states table (witness n table)

-- what is printed for a file; one longer than the bound is not read as a table
unfoldable pub text_of : List ℕ → List ℕ
text_of file = cond (ltb most_bytes (length file)) (refusal_line (bad_length (most_bytes + 1))) (file_text (table_file file))
