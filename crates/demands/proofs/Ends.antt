-- Demand 1: every outcome is one of the list, and refusals keep the buffers. The definitions are chains of tests, and each of their ends is
-- one outcome with its buffers, so the claim is looked up end by end.
use mathlib.Core.Path.{refl}
use mathlib.Core.Bool.{Bool, true, false, not, cond}
use mathlib.Core.List.{List, [], ◌∷◌}
use Prim.Native.Nat.{ℕ, ◌^◌}
use native.Mathlib.Nat.{not-suc-le-zero}
use lib.ListN.{length}
use lib.Dec.{T, ltb, eqb, eqb→eq, eqb_refl}
use Rattle.trellis.specs.Bounds.{most_words, most_paths}
use Rattle.trellis.specs.Lists.{◌∈◌, first, is_in, within}
use Rattle.trellis.specs.Word.{Word}
use Rattle.trellis.specs.Outcome.{outcome}
use Rattle.trellis.specs.Layout.{section_of, section_words}
use Rattle.trellis.specs.Witness.{Witness, found, nothing, witness}
use Rattle.trellis.proofs.Lists.{in_yes, in_of}
use Rattle.fields.specs.Fields.{byte_at, word_count, file_words, length_bad}
use Rattle.table.specs.File.{first_size, first_bad, first_not_above, TableFile, table_file}
use Rattle.merging.specs.Merging.{Merging, map_length, written, merged, merged_table, merged_file, merging}
use Rattle.paths.specs.Choice.{Choice, none, some}
use Rattle.section_file.specs.Usable.{is_section}
use Rattle.read_back.specs.ReadingBack.{ReadingBack, file_length, reading_back}
use Rattle.rows.specs.Sums.{first_dependent}
use Rattle.rows.specs.Table.{row_width, table_of, sizes_fit, first_wide}
use Rattle.merging_rows.specs.MergingRows.{MergingRows, rows_file, with_file, merged_rows, merging_rows}
use Rattle.same_section.specs.Comparing.{comparing}
use Rattle.sections.specs.Sections.{sections_bad}
use Rattle.frame.specs.Frame.{Frame, block_count, frame_bad, block_bad}
use Rattle.room.specs.Room.{needed_to_decode, needed_to_list}
use Rattle.decoding.specs.Decoding.{Decoding, left, best_of, found as decoded, fitted, framed, decoding}
use Rattle.path_list.specs.Listing as listing
use Rattle.path_list.specs.Listing.{Listing, found as listed}
use Rattle.demands.specs.Demands.{MergingEnds, MergingRowsEnds, ReadingBackEnds, ComparingEnds, DecodingEnds, ListingEnds}

-- what holds of both ends of a test
ends : {A : Type 0} (P : A → Type 0) (b : Bool) {x y : A} → P x → P y → P (cond b x y)
ends P true p q = p
ends P false p q = q

-- numbers looked up in a list
is_in_lem : (x : ℕ) (l : List ℕ) → T (is_in eqb x l) → x ∈ l
is_in_lem x l t = in_yes eqb eqb→eq eqb_refl x l t

not_in : (x : ℕ) (l : List ℕ) → (T (is_in eqb x l) → ⊥) → x ∈ l → ⊥
not_in x l h m = h (in_of eqb eqb→eq eqb_refl x l m)

-- ---- merging

module _ (map section : List ℕ) where
  abbrev Kept : Merging → Type 0
  Kept m = MergingEnds map section m

  module _ (q n states : ℕ) (table : List Word) where
    at_end : Kept (written q n states table map section)
    unfolding written is_in
    at_end =
        ends Kept (ltb (length section) (length (section_of q n states table)))
        (record { listed = is_in_lem 7 _ tt; section_kept = λ h. refl; map_kept = λ m. absurd (not_in 7 _ (λ t. t) m) })
        (record {
          listed = is_in_lem 0 _ tt;
          section_kept = λ h. absurd (not-suc-le-zero h);
          map_kept = λ m. absurd (not_in 0 _ (λ t. t) m);
        })

    by_witness : (w : Witness) → Kept (merged q n states table map section w)
    unfolding merged is_in
    by_witness (found t i j k) =
        record { listed = is_in_lem 6 _ tt; section_kept = λ h. refl; map_kept = λ m. absurd (not_in 6 _ (λ t. t) m) }
    by_witness nothing = at_end

    by_table : Kept (merged_table q n states table map section)
    unfolding merged_table is_in
    by_table =
        ends Kept (ltb (length map) (map_length n table)) (record { listed = is_in_lem 5 _ tt; section_kept = λ h. refl; map_kept = λ m. refl })
        (by_witness (witness n table))

  abbrev FileKept : TableFile → Type 0
  FileKept f = Kept (merged_file map section f)

  pub merging_ends_lem : (file : List ℕ) → Kept (merging file map section)
  unfolding merging merged_file table_file is_in
  merging_ends_lem file =
      ends FileKept (length_bad file) (record { listed = is_in_lem 1 _ tt; section_kept = λ h. refl; map_kept = λ m. refl })
      (ends FileKept (ltb (first_size file) 4) (record { listed = is_in_lem 2 _ tt; section_kept = λ h. refl; map_kept = λ m. refl })
      (ends FileKept (ltb (first_bad file) (word_count file)) (record { listed = is_in_lem 3 _ tt; section_kept = λ h. refl; map_kept = λ m. refl })
      (ends FileKept (ltb (first_not_above file) (word_count file))
      (record { listed = is_in_lem 4 _ tt; section_kept = λ h. refl; map_kept = λ m. refl })
      (by_table (byte_at file 0) (byte_at file 1) (byte_at file 2) (file_words file)))))

-- ---- merging generator rows

module _ (s n : ℕ) (rows file map section : List ℕ) where
  abbrev RowsKept : MergingRows → Type 0
  RowsKept r = MergingRowsEnds file map section r

  by_section : RowsKept (with_file s n rows file map section (written 2 n (2 ^ s) (table_of s n rows) map section))
  unfolding with_file written is_in
  by_section =
      ends (λ m. RowsKept (with_file s n rows file map section m))
      (ltb (length section) (length (section_of 2 n (2 ^ s) (table_of s n rows))))
      (record { listed = is_in_lem 7 _ tt; others_kept = λ h. (refl, refl); map_kept = λ m. absurd (not_in 7 _ (λ t. t) m) })
      (record {
        listed = is_in_lem 0 _ tt;
        others_kept = λ h. absurd (not-suc-le-zero h);
        map_kept = λ m. absurd (not_in 0 _ (λ t. t) m);
      })

  by_rows : RowsKept (merged_rows s n rows file map section)
  unfolding merged_rows is_in
  by_rows =
      ends RowsKept (ltb (length file) (length (rows_file s n rows)))
      (record { listed = is_in_lem 10 _ tt; others_kept = λ h. (refl, refl); map_kept = λ m. refl })
      (ends RowsKept (ltb (length map) (map_length n (table_of s n rows)))
      (record { listed = is_in_lem 5 _ tt; others_kept = λ h. (refl, refl); map_kept = λ m. refl })
      by_section)

  pub merging_rows_ends_lem : RowsKept (merging_rows s n rows file map section)
  unfolding merging_rows is_in
  merging_rows_ends_lem =
      ends RowsKept (sizes_fit s n (length rows))
      (ends RowsKept (ltb (first_wide (row_width s n) rows) (length rows))
      (record { listed = is_in_lem 14 _ tt; others_kept = λ h. (refl, refl); map_kept = λ m. refl })
      (ends RowsKept (ltb (first_dependent rows) (length rows))
      (record { listed = is_in_lem 15 _ tt; others_kept = λ h. (refl, refl); map_kept = λ m. refl })
      by_rows))
      (record { listed = is_in_lem 14 _ tt; others_kept = λ h. (refl, refl); map_kept = λ m. refl })

-- ---- reading back

pub reading_back_ends_lem : (section file : List ℕ) → ReadingBackEnds file (reading_back section file)
unfolding reading_back is_in
reading_back_ends_lem section file =
    ends Kept (not (is_section section)) (record { listed = is_in_lem 8 _ tt; file_kept = λ h. refl })
    (ends Kept (ltb most_words (length (section_words section))) (record { listed = is_in_lem 12 _ tt; file_kept = λ h. refl })
    (ends Kept (ltb (length file) (file_length (section_words section))) (record { listed = is_in_lem 10 _ tt; file_kept = λ h. refl })
    (record { listed = is_in_lem 0 _ tt; file_kept = λ h. absurd (not-suc-le-zero h) })))
  where
    Kept : ReadingBack → Type 0
    Kept r = ReadingBackEnds file r

-- ---- comparing

pub comparing_ends_lem : (a b : List ℕ) → ComparingEnds (comparing a b)
unfolding comparing is_in
comparing_ends_lem a b =
    ends ComparingEnds (not (is_section a)) (record { listed = is_in_lem 8 _ tt })
    (ends ComparingEnds (not (is_section b)) (record { listed = is_in_lem 8 _ tt }) (record { listed = is_in_lem 0 _ tt }))

-- ---- decoding

module _ (f : Frame) (costs labels goals masks : List ℕ) where
  abbrev DecodingKept : Decoding → Type 0
  DecodingKept d = DecodingEnds costs labels goals masks d

  by_path : (c : Choice (List Word)) → DecodingKept (decoded f costs labels goals masks c)
  unfolding decoded is_in
  by_path none = record {
    listed = is_in_lem 11 _ tt;
    words_kept = λ h. (refl, refl, refl);
    costs_kept =
        λ m. absurd (not_in 11 _ (λ t. t) m);
  }
  by_path (some d ws) = record {
    listed = is_in_lem 0 _ tt;
    words_kept = λ h. absurd (not-suc-le-zero h);
    costs_kept = λ m. absurd (not_in 0 _ (λ t. t) m);
  }

  -- a refusal that keeps all four
  all_kept : (number : ℕ) (values : List ℕ) → T (is_in eqb number (0 ∷ 8 ∷ 9 ∷ 10 ∷ 11 ∷ []))
      → DecodingKept (left (outcome number values) costs labels goals masks)
  all_kept number values t = record { listed = is_in_lem number _ t; words_kept = λ h. (refl, refl, refl); costs_kept = λ m. refl }

  pub decoding_ends_lem : DecodingKept (decoding f costs labels goals masks)
  unfolding decoding framed fitted is_in
  decoding_ends_lem =
      ends DecodingKept (sections_bad f.sections f.k) (all_kept 8 _ tt)
      (ends DecodingKept (frame_bad f) (all_kept 9 _ tt)
      (ends DecodingKept (ltb (first (block_bad f) (block_count f)) (block_count f)) (all_kept 9 _ tt)
      (ends DecodingKept (ltb 0 (needed_to_decode (block_count f) (length costs) (length labels) (length goals) (length masks)))
      (all_kept 10 _ tt)
      (by_path (best_of f)))))

-- ---- listing paths

module _ (f : Frame) (paths : ℕ) (costs distances labels goals : List ℕ) where
  abbrev ListingKept : Listing → Type 0
  ListingKept d = ListingEnds costs distances labels goals d

  by_list : (ps : List (List Word)) → ListingKept (listed f paths costs distances labels goals ps)
  unfolding listed is_in
  by_list [] = record {
    listed = is_in_lem 11 _ tt;
    words_kept = λ h. (refl, refl, refl);
    costs_kept = λ m. absurd (not_in 11 _ (λ t. t) m);
  }
  by_list (p ∷ ps) = record {
    listed = is_in_lem 0 _ tt;
    words_kept = λ h. absurd (not-suc-le-zero h);
    costs_kept = λ m. absurd (not_in 0 _ (λ t. t) m);
  }

  -- a refusal that keeps all four
  four_kept : (number : ℕ) (values : List ℕ) → T (is_in eqb number (0 ∷ 8 ∷ 9 ∷ 13 ∷ 10 ∷ 11 ∷ []))
      → ListingKept (listing.left (outcome number values) costs distances labels goals)
  four_kept number values t = record { listed = is_in_lem number _ t; words_kept = λ h. (refl, refl, refl); costs_kept = λ m. refl }

  pub listing_ends_lem : ListingKept (listing.listing f paths costs distances labels goals)
  unfolding listing.listing listing.framed listing.counted listing.fitted is_in
  listing_ends_lem =
      ends ListingKept (sections_bad f.sections f.k) (four_kept 8 _ tt)
      (ends ListingKept (frame_bad f) (four_kept 9 _ tt)
      (ends ListingKept (ltb (first (block_bad f) (block_count f)) (block_count f)) (four_kept 9 _ tt)
      (ends ListingKept (within 1 most_paths paths)
      (ends ListingKept (ltb 0 (needed_to_list (block_count f) paths (length costs) (length distances) (length labels) (length goals)))
      (four_kept 10 _ tt) (by_list (listing.list_of f paths)))
      (four_kept 13 _ tt))))
