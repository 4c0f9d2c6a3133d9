-- Document 01's marked cases, case 8 as document 02's request 1 has it, 7 and 8 with the masks of request 5, and 9 also from generator
-- rows, by request 7; one list under one statement: what each case shows, worked out from the definitions, is what the papers say it shows.
-- Bytes and numbers are written as the papers write them; a buffer is full of nines before the call.
use Rattle.std.specs.Prelude.{◌≡◌, ℕ, suc, ◌-◌, ◌*◌, length, replicate}
use mathlib.Core.List.{List, [], ◌∷◌, ◌++◌, map, flat_map}
use Rattle.trellis.specs.Lists.{each}
use Rattle.trellis.specs.Outcome.{Outcome}
use Rattle.trellis.specs.Selections.{selections}
use Rattle.trellis.specs.Layout.{n_of, vertex_count_of, edge_count_of, section_words}
use Rattle.trellis.specs.Bounds.{costs_a_block}
use Rattle.merging.specs.Merging.{Merging, merging}
use Rattle.read_back.specs.ReadingBack.{ReadingBack, reading_back}
use Rattle.merging_rows.specs.MergingRows.{MergingRows, merging_rows}
use Rattle.frame.specs.Frame.{frame}
use Rattle.decoding.specs.Decoding.{Decoding, decoding}

pub data Call : Type 0 where
  -- merging a table file, with the places of the map and of the section
  merge : List ℕ → ℕ → ℕ → Call
  -- merging generator rows: their state bits, symbols and rows, and the places of the file, of the map and of the section
  merge_rows : ℕ → ℕ → List ℕ → ℕ → ℕ → ℕ → Call
  -- reading back the section that a call left, with the places of the file
  read_back : Call → ℕ → Call
  -- decoding from state 0 to state 0, where each block has the section that a call left: the blocks' received labels and erasure masks. The
  -- buffers have the places that are needed
  decode : Call → List ℕ → List ℕ → Call

-- what a call leaves; a buffer that is not lent to it is empty
pub record Left : Type 0 where
  pub answer : Outcome
  pub map : List ℕ
  pub section : List ℕ
  pub file : List ℕ
  pub costs : List ℕ
  pub labels : List ℕ
  pub goals : List ℕ
  pub masks : List ℕ

abbrev nines : ℕ → List ℕ
nines places = replicate places 9

abbrev left_by_merging : Merging → Left
left_by_merging m =
    record { answer = m.answer; map = m.map; section = m.section; file = []; costs = []; labels = []; goals = []; masks = [] }

abbrev left_by_rows : MergingRows → Left
left_by_rows m =
    record { answer = m.answer; map = m.map; section = m.section; file = m.file; costs = []; labels = []; goals = []; masks = [] }

abbrev left_by_reading : ReadingBack → Left
left_by_reading r =
    record { answer = r.outcome; map = []; section = []; file = r.file; costs = []; labels = []; goals = []; masks = [] }

abbrev left_by_decoding : Decoding → Left
left_by_decoding d = record {
  answer = d.answer;
  map = [];
  section = [];
  file = [];
  costs = d.costs;
  labels = d.labels;
  goals = d.goals;
  masks = d.masks;
}

unfoldable pub left : Call → Left
left (merge file map_places section_places) = left_by_merging (merging file (nines map_places) (nines section_places))
left (merge_rows s n rows file_places map_places section_places) =
    left_by_rows (merging_rows s n rows (nines file_places) (nines map_places) (nines section_places))
left (read_back c places) = left_by_reading (reading_back (left c).section (nines places))
left (decode c received erased) =
    let blocks = length received in
    left_by_decoding (decoding (frame (left c).section 1 (replicate blocks 0) received erased 0 0) (nines (costs_a_block * blocks))
    (nines blocks) (nines blocks) (nines blocks))

-- what of a call the paper names: the outcome's number and values; all of a buffer; and by the counts that stand in the section, the
-- vertices at each depth, the edges at each step, the selections; root, label and goal of each word on the section's paths
pub data Shown : Type 0 where
  answer : Shown
  whole_map : Shown
  whole_section : Shown
  whole_file : Shown
  whole_costs : Shown
  whole_labels : Shown
  whole_goals : Shown
  whole_masks : Shown
  vertices : Shown
  edges : Shown
  selected : Shown
  words : Shown

abbrev numbers : Outcome → List ℕ
numbers o = o.number ∷ o.values

unfoldable pub shown : Call → Shown → List ℕ
shown c answer = numbers (left c).answer
shown c whole_map = (left c).map
shown c whole_section = (left c).section
shown c whole_file = (left c).file
shown c whole_costs = (left c).costs
shown c whole_labels = (left c).labels
shown c whole_goals = (left c).goals
shown c whole_masks = (left c).masks
shown c vertices = let l = (left c).section in each (vertex_count_of l) (suc (n_of l))
shown c edges = let l = (left c).section in each (edge_count_of l) (n_of l)
shown c selected = let l = (left c).section in selections (n_of l) (vertex_count_of l) (edge_count_of l) ∷ []
shown c words = flat_map (λ w. w.root ∷ w.label ∷ w.goal ∷ []) (section_words (left c).section)

-- one sentence of a marked case
pub record Marked : Type 0 where
  pub number : ℕ
  pub call : Call
  pub what : Shown
  pub says : List ℕ

abbrev case : ℕ → Call → Shown → List ℕ → Marked
case number call what says = record { number = number; call = call; what = what; says = says }

-- q 2, n 2, S 1 and the labels 00, 01, 10, 11; without 11; 00 and 11 only
abbrev pub square : List ℕ
square = 2 ∷ 2 ∷ 1 ∷ 4 ∷ 0 ∷ 0 ∷ 0 ∷ 0 ∷ 0 ∷ 0 ∷ 0 ∷ 0 ∷ 0 ∷ 0 ∷ 0 ∷ 1 ∷ 0 ∷ 4 ∷ 0 ∷ 5 ∷ 0 ∷ []

abbrev pub without_last : List ℕ
without_last = 2 ∷ 2 ∷ 1 ∷ 3 ∷ 0 ∷ 0 ∷ 0 ∷ 0 ∷ 0 ∷ 0 ∷ 0 ∷ 0 ∷ 0 ∷ 1 ∷ 0 ∷ 4 ∷ 0 ∷ []

abbrev pub two_words : List ℕ
two_words = 2 ∷ 2 ∷ 1 ∷ 2 ∷ 0 ∷ 0 ∷ 0 ∷ 0 ∷ 0 ∷ 0 ∷ 0 ∷ 5 ∷ 0 ∷ []

-- q 2, n 1, S 2 and the words (0,0,0), (0,0,1), (1,0,0)
abbrev pub one_step : List ℕ
one_step = 2 ∷ 1 ∷ 2 ∷ 3 ∷ 0 ∷ 0 ∷ 0 ∷ 0 ∷ 1 ∷ 1 ∷ 0 ∷ 0 ∷ 0 ∷ 0 ∷ 0 ∷ 0 ∷ 0 ∷ []

abbrev pub no_words : List ℕ
no_words = 2 ∷ 2 ∷ 1 ∷ 0 ∷ 0 ∷ []

-- the rate 2/3 section of document 004: the words in order, root and goal first, then their labels
abbrev pub two_thirds : List ℕ
two_thirds =
    2 ∷ 3 ∷ 4 ∷ 16 ∷ 0
    ∷ 0 ∷ 0 ∷ 0 ∷ 3 ∷ 0 ∷ 2 ∷ 0 ∷ 1 ∷ 1 ∷ 0 ∷ 1 ∷ 3 ∷ 1 ∷ 2 ∷ 1 ∷ 1
    ∷ 2 ∷ 1 ∷ 2 ∷ 2 ∷ 2 ∷ 3 ∷ 2 ∷ 0 ∷ 3 ∷ 1 ∷ 3 ∷ 2 ∷ 3 ∷ 3 ∷ 3 ∷ 0
    ∷ 0 ∷ 0 ∷ 5 ∷ 0 ∷ 17 ∷ 0 ∷ 20 ∷ 0 ∷ 1 ∷ 0 ∷ 4 ∷ 0 ∷ 16 ∷ 0 ∷ 21 ∷ 0
    ∷ 1 ∷ 0 ∷ 4 ∷ 0 ∷ 16 ∷ 0 ∷ 21 ∷ 0 ∷ 0 ∷ 0 ∷ 5 ∷ 0 ∷ 17 ∷ 0 ∷ 20 ∷ 0 ∷ []

-- its generator rows, two state bits, three symbols, two state bits: 10 111 00, 01 001 00, 00 101 10, 00 110 01
abbrev pub two_thirds_rows : List ℕ
two_thirds_rows = 92 ∷ 36 ∷ 22 ∷ 25 ∷ []

-- q 2, n 1, S 2 and the words (0,0,1), (0,1,0), (1,0,0)
abbrev pub crossed : List ℕ
crossed = 2 ∷ 1 ∷ 2 ∷ 3 ∷ 0 ∷ 0 ∷ 1 ∷ 0 ∷ 0 ∷ 1 ∷ 0 ∷ 0 ∷ 0 ∷ 1 ∷ 0 ∷ 0 ∷ 0 ∷ []

-- the tables merged, with sections that fill their buffers
abbrev square_merged : Call
square_merged = merge square 12 22

abbrev two_words_merged : Call
two_words_merged = merge two_words 6 22

abbrev one_step_merged : Call
one_step_merged = merge one_step 6 19

abbrev two_thirds_merged : Call
two_thirds_merged = merge two_thirds 64 114

abbrev two_thirds_from_rows : Call
two_thirds_from_rows = merge_rows 2 3 two_thirds_rows 69 64 114

abbrev crossed_merged : Call
crossed_merged = merge crossed 6 19

-- case 7: received 01 and 11, none erased; case 8: received 00, the second symbol erased
abbrev two_blocks : Call
two_blocks = decode two_words_merged (1 ∷ 5 ∷ []) (0 ∷ 0 ∷ [])

abbrev one_block : Call
one_block = decode two_words_merged (0 ∷ []) (1 ∷ [])

-- no marked case, but the paper's last slip, numbered 10: received 0 and 1, so that labels 0, 0 and labels 1, 1 are both at distance 1. The
-- first block settles it; from the last block backward labels 1, 1 would win, since the word (0,1,0) comes before (1,0,0)
abbrev tie : Call
tie = decode crossed_merged (0 ∷ 1 ∷ []) (0 ∷ 0 ∷ [])

-- the places of the states other than 0 in the cost table: no path starts there
abbrev elsewhere : List ℕ
elsewhere = replicate (costs_a_block - 1) 4294967295

abbrev pub cases : List Marked
cases =
    case 1 square_merged answer (0 ∷ 22 ∷ [])
    ∷ case 1 square_merged whole_map (0 ∷ 0 ∷ 0 ∷ 0 ∷ 0 ∷ 0 ∷ 0 ∷ 0 ∷ 0 ∷ 0 ∷ 0 ∷ 0 ∷ [])
    ∷ case 1 square_merged whole_section (2 ∷ 2 ∷ 1 ∷ 1 ∷ 1 ∷ 1 ∷ 2 ∷ 2 ∷ 0 ∷ 0 ∷ 0 ∷ 0 ∷ 0 ∷ 0 ∷ 0 ∷ 0 ∷ 0 ∷ 0 ∷ 0 ∷ 1 ∷ 0 ∷ 1 ∷ [])
    ∷ case 1 square_merged vertices (1 ∷ 1 ∷ 1 ∷ [])
    ∷ case 1 square_merged edges (2 ∷ 2 ∷ [])
    ∷ case 1 square_merged selected (2 ∷ [])
    ∷ case 1 square_merged words (0 ∷ 0 ∷ 0 ∷ 0 ∷ 1 ∷ 0 ∷ 0 ∷ 4 ∷ 0 ∷ 0 ∷ 5 ∷ 0 ∷ [])
    ∷ case 1 (read_back square_merged 21) whole_file square
    ∷ case 1 (read_back square_merged 21) answer (0 ∷ 21 ∷ [])
    ∷ case 2 (merge without_last 10 3) answer (6 ∷ 1 ∷ 0 ∷ 1 ∷ 2 ∷ [])
    ∷ case 2 (merge without_last 10 3) whole_map (0 ∷ 0 ∷ 0 ∷ 0 ∷ 0 ∷ 0 ∷ 0 ∷ 0 ∷ 0 ∷ 9 ∷ [])
    ∷ case 2 (merge without_last 10 3) whole_section (9 ∷ 9 ∷ 9 ∷ [])
    ∷ case 3 two_words_merged vertices (1 ∷ 2 ∷ 1 ∷ [])
    ∷ case 3 two_words_merged edges (2 ∷ 2 ∷ [])
    ∷ case 3 two_words_merged selected (1 ∷ [])
    ∷ case 3 two_words_merged whole_map (0 ∷ 0 ∷ 0 ∷ 1 ∷ 0 ∷ 0 ∷ [])
    ∷ case 3 (read_back two_words_merged 13) whole_file two_words
    ∷ case 4 one_step_merged answer (0 ∷ 19 ∷ [])
    ∷ case 4 one_step_merged vertices (2 ∷ 2 ∷ [])
    ∷ case 4 one_step_merged edges (3 ∷ [])
    ∷ case 4 one_step_merged selected (1 ∷ [])
    ∷ case 4 one_step_merged whole_map (0 ∷ 0 ∷ 1 ∷ 0 ∷ 1 ∷ 0 ∷ [])
    ∷ case 4 (read_back one_step_merged 17) whole_file one_step
    ∷ case 5 (merge square 12 21) answer (7 ∷ 22 ∷ [])
    ∷ case 5 (merge square 12 21) whole_map (0 ∷ 0 ∷ 0 ∷ 0 ∷ 0 ∷ 0 ∷ 0 ∷ 0 ∷ 0 ∷ 0 ∷ 0 ∷ 0 ∷ [])
    ∷ case 5 (merge square 12 21) whole_section (replicate 21 9)
    ∷ case 6 (merge no_words 2 2) answer (2 ∷ 3 ∷ [])
    ∷ case 6 (merge no_words 2 2) whole_map (9 ∷ 9 ∷ [])
    ∷ case 6 (merge no_words 2 2) whole_section (9 ∷ 9 ∷ [])
    ∷ case 7 two_blocks answer (0 ∷ 1 ∷ [])
    ∷ case 7 two_blocks whole_labels (0 ∷ 5 ∷ [])
    ∷ case 7 two_blocks whole_goals (0 ∷ 0 ∷ [])
    ∷ case 7 two_blocks whole_masks (1 ∷ 0 ∷ [])
    ∷ case 7 two_blocks whole_costs ((1 ∷ elsewhere) ++ (0 ∷ elsewhere))
    ∷ case 8 one_block answer (0 ∷ 0 ∷ [])
    ∷ case 8 one_block whole_labels (0 ∷ [])
    ∷ case 8 one_block whole_masks (0 ∷ [])
    ∷ case 8 one_block whole_costs (0 ∷ elsewhere)
    ∷ case 9 two_thirds_merged answer (0 ∷ 114 ∷ [])
    ∷ case 9 two_thirds_merged vertices (4 ∷ 8 ∷ 8 ∷ 4 ∷ [])
    ∷ case 9 two_thirds_merged edges (8 ∷ 16 ∷ 8 ∷ [])
    ∷ case 9 two_thirds_merged selected (12 ∷ [])
    ∷ case 9 (read_back two_thirds_merged 69) whole_file two_thirds
    ∷ case 9 two_thirds_from_rows answer (0 ∷ 114 ∷ [])
    ∷ case 9 two_thirds_from_rows whole_file two_thirds
    ∷ case 9 two_thirds_from_rows vertices (4 ∷ 8 ∷ 8 ∷ 4 ∷ [])
    ∷ case 9 two_thirds_from_rows edges (8 ∷ 16 ∷ 8 ∷ [])
    ∷ case 9 two_thirds_from_rows selected (12 ∷ [])
    ∷ case 10 tie answer (0 ∷ 1 ∷ [])
    ∷ case 10 tie whole_labels (0 ∷ 0 ∷ [])
    ∷ case 10 tie whole_goals (1 ∷ 0 ∷ [])
    ∷ []

-- the common statement: every case shows what the paper says
abbrev pub AllShown : Type 0
AllShown = map (λ m. shown m.call m.what) cases ≡ map (λ m. m.says) cases
