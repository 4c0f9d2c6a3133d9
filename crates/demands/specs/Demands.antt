-- The three demands, quoted sentence by sentence, each with its statement. It speaks of `merging`, `merging_rows`, `reading_back`,
-- `comparing`, `decoding` and `listing`: what the calls leave for all arguments, by their promises. That nothing but lent memory is touched
-- is the form of these promises: they give the answer and the whole content of every buffer lent for writing.
use Rattle.std.specs.Prelude.{◌≡◌, ◌↔◌, List, [], ◌∷◌, ℕ, ◌^◌, ◌≤◌, ◌<◌, length, get_or, take}
use Rattle.trellis.specs.Lists.{◌∈◌, over}
use Rattle.trellis.specs.Word.{Word, Rectangular}
use Rattle.trellis.specs.Drawn.{Drawing, PathOf, DrawnFor, drawing_of, NoFewer}
use Rattle.trellis.specs.Layout.{q_of, n_of, states_of, vertex_count_of, edge_count_of, section_of}
use Rattle.trellis.specs.Witness.{FirstRefuted}
use Rattle.trellis.specs.Outcome.{Outcome, success, not_rectangular}
use Rattle.table.specs.File.{table_file, accepted}
use Rattle.merging.specs.Merging.{Merging, map_length, merging}
use Rattle.read_back.specs.ReadingBack.{ReadingBack, left, reading_back}
use Rattle.merging_rows.specs.MergingRows.{MergingRows, merging_rows}
use Rattle.same_section.specs.Comparing.{comparing}
use Rattle.frame.specs.Frame.{Frame}
use Rattle.decoding.specs.Decoding.{Decoding, decoding}
use Rattle.path_list.specs.Listing.{Listing, listing}
use Rattle.demands.specs.Decoded.{Meaning}
use Rattle.demands.specs.Several.{ListMeaning}
use Rattle.demands.specs.Rows.{RowsMeaning}
use Rattle.demands.specs.Only.{Only, ComparingMeaning}

-- ---- demand 1: "The call ends with an outcome from a fixed list, touches only lent memory, and each refusal states a fixed result and
-- a fixed content of every buffer."

-- the outcome has one of these numbers
abbrev pub OneOf : List ℕ → Outcome → Type 0
OneOf numbers o = o.number ∈ numbers

-- m is what merging leaves in buffers that held map and section: every refusal keeps the section, and 1 to 5 keep the map too; what 6 and 7
-- leave in the map stands in `merged`
pub record MergingEnds (map section : List ℕ) (m : Merging) : Type 0 where
  pub listed : OneOf (0 ∷ 1 ∷ 2 ∷ 3 ∷ 4 ∷ 5 ∷ 6 ∷ 7 ∷ []) m.answer
  pub section_kept : 0 < m.answer.number → m.section ≡ section
  pub map_kept : OneOf (1 ∷ 2 ∷ 3 ∷ 4 ∷ 5 ∷ []) m.answer → m.map ≡ map

pub record ReadingBackEnds (file : List ℕ) (r : ReadingBack) : Type 0 where
  pub listed : OneOf (0 ∷ 8 ∷ 12 ∷ 10 ∷ []) r.outcome
  pub file_kept : 0 < r.outcome.number → r.file ≡ file

-- 11 writes the cost table, as success does
pub record DecodingEnds (costs labels goals masks : List ℕ) (d : Decoding) : Type 0 where
  pub listed : OneOf (0 ∷ 8 ∷ 9 ∷ 10 ∷ 11 ∷ []) d.answer
  pub words_kept : 0 < d.answer.number → (d.labels ≡ labels) × (d.goals ≡ goals) × (d.masks ≡ masks)
  pub costs_kept : OneOf (8 ∷ 9 ∷ 10 ∷ []) d.answer → d.costs ≡ costs

-- document 02's request 6: the same of listing several paths
pub record ListingEnds (costs distances labels goals : List ℕ) (d : Listing) : Type 0 where
  pub listed : OneOf (0 ∷ 8 ∷ 9 ∷ 13 ∷ 10 ∷ 11 ∷ []) d.answer
  pub words_kept : 0 < d.answer.number → (d.distances ≡ distances) × (d.labels ≡ labels) × (d.goals ≡ goals)
  pub costs_kept : OneOf (8 ∷ 9 ∷ 13 ∷ 10 ∷ []) d.answer → d.costs ≡ costs

-- document 02's request 7: the same of merging generator rows, whose refusals keep the file and the section, and all but 7 the map
pub record MergingRowsEnds (file map section : List ℕ) (r : MergingRows) : Type 0 where
  pub listed : OneOf (0 ∷ 14 ∷ 15 ∷ 10 ∷ 5 ∷ 7 ∷ []) r.answer
  pub others_kept : 0 < r.answer.number → (r.file ≡ file) × (r.section ≡ section)
  pub map_kept : OneOf (14 ∷ 15 ∷ 10 ∷ 5 ∷ []) r.answer → r.map ≡ map

-- document 02's request 8: comparing writes nothing, and ends so
pub record ComparingEnds (o : Outcome) : Type 0 where
  pub listed : OneOf (0 ∷ 8 ∷ []) o

-- ---- demand 2

-- "A well-formed table with buffers long enough": bytes that checks 1 to 4 accept
pub record Fair (file : List ℕ) (q n states : ℕ) (table : List Word) (map section : List ℕ) : Type 0 where
  pub bytes : (i : ℕ) → get_or file i 0 < 256
  pub well_formed : table_file file ≡ accepted q n states table
  pub map_room : map_length n table ≤ length map
  pub section_room : length (section_of q n states table) ≤ length section

-- document 01's "accepted when merging it succeeds", and the section that is left: as many numbers of the buffer as the answer says
abbrev pub IsAccepted : Merging → Type 0
IsAccepted m = m.answer.number ≡ 0

abbrev pub section_left : Merging → List ℕ
section_left m = take (get_or m.answer.values 0 0) m.section

-- "refused with three of its words that force a fourth it lacks": the first such three
pub record Refused (n : ℕ) (table : List Word) (m : Merging) : Type 0 where
  pub depth : ℕ
  pub i : ℕ
  pub j : ℕ
  pub k : ℕ
  pub answer : m.answer ≡ not_rectangular depth i j k
  pub first : FirstRefuted n table depth i j k

-- "is accepted if its split code is rectangular at every inner depth, else refused"; and accepted only if so
pub record Decided (n : ℕ) (table : List Word) (m : Merging) : Type 0 where
  pub accepts : Rectangular n table → IsAccepted m
  pub refuses : (Rectangular n table → ⊥) → Refused n table m
  pub only : IsAccepted m → Rectangular n table

-- "The merged section has the table's words, no more and no fewer, and reads back to that table": l is the section left for the file
pub record SameWords (file : List ℕ) (q n states : ℕ) (table : List Word) (l : List ℕ) : Type 0 where
  pub sizes : (q_of l ≡ q) × (n_of l ≡ n) × (states_of l ≡ states)
  pub words : (w : Word) → w.label < 4 ^ n → PathOf n (drawing_of l) w ↔ (w ∈ table)
  pub reads_back : (buffer : List ℕ) → length file ≤ length buffer → reading_back l buffer ≡ left (success (length file)) (over file buffer)

-- "The decoder names a path of least distance, the first such in word order, and says there is none only when there is none": `Meaning`,
-- in the file beside this one

-- document 02's request 8, "The section is the only one": `Only`, and `ComparingMeaning` of comparing, in the file beside this one

-- ---- demand 3: "Of all sections that anyone can draw for an accepted table, none has fewer vertices at any depth, fewer edges at any
-- step, or fewer selections in all than ours, by the counts that stand in the buffer; and ours is itself such a section."

pub record Smallest (n : ℕ) (table : List Word) (l : List ℕ) : Type 0 where
  pub own : DrawnFor n table (drawing_of l)
  pub least : (D : Drawing) → DrawnFor n table D → NoFewer n (vertex_count_of l) (edge_count_of l) D

-- ---- all of them

pub record Demands : Type 0 where
  pub merging_ends : (file map section : List ℕ) → MergingEnds map section (merging file map section)
  pub merging_rows_ends : (s n : ℕ) (rows file map section : List ℕ)
      → MergingRowsEnds file map section (merging_rows s n rows file map section)
  pub reading_back_ends : (section file : List ℕ) → ReadingBackEnds file (reading_back section file)
  pub comparing_ends : (a b : List ℕ) → ComparingEnds (comparing a b)
  pub decoding_ends : (f : Frame) (costs labels goals masks : List ℕ)
      → DecodingEnds costs labels goals masks (decoding f costs labels goals masks)
  pub listing_ends : (f : Frame) (paths : ℕ) (costs distances labels goals : List ℕ)
      → ListingEnds costs distances labels goals (listing f paths costs distances labels goals)
  pub decided : {file map section : List ℕ} {q n states : ℕ} {table : List Word} → Fair file q n states table map section
      → Decided n table (merging file map section)
  pub same_words : {file map section : List ℕ} {q n states : ℕ} {table : List Word} → Fair file q n states table map section
      → IsAccepted (merging file map section) → SameWords file q n states table (section_left (merging file map section))
  pub only : {file map section : List ℕ} {q n states : ℕ} {table : List Word} → Fair file q n states table map section
      → IsAccepted (merging file map section) → Only q n states table (section_left (merging file map section))
  pub comparer : (a b : List ℕ) → ComparingMeaning a b
  pub rows : (s n : ℕ) (rows : List ℕ) → RowsMeaning s n rows
  pub decoder : (f : Frame) (costs labels goals masks : List ℕ)
      → Meaning f (decoding f costs labels goals masks)
  pub lister : (f : Frame) (paths : ℕ) (costs distances labels goals : List ℕ)
      → ListMeaning f paths (listing f paths costs distances labels goals)
  pub smallest : {file map section : List ℕ} {q n states : ℕ} {table : List Word} → Fair file q n states table map section
      → IsAccepted (merging file map section) → Smallest n table (section_left (merging file map section))
