-- How building ends: the map is the table's, the section's length is known, and where there is room the section and the file are written.
use mathlib.Core.Path.{◌≡◌, refl, sym, ap, subst, ◌∙◌}
use mathlib.Core.List.{List, map}
use Prim.Native.Nat.{ℕ, suc, ◌+◌, ◌*◌, ◌^◌, ◌≤◌, ◌<◌}
use native.Mathlib.Omega.{arith}
use native.Mathlib.Nat.{mul_comm}
use native.Mathlib.Numerals.{add-one}
use lib.ListN.{length, get_or, replicate}
use lib.Pow.{pow_pos}
use Rattle.answers.specs.declared.merge_rows.MergeRowsRefusal.{MergeRowsRefusal}
use Rattle.trellis.specs.Lists.{each, over}
use Rattle.trellis.specs.Layout.{section_of}
use Rattle.trellis.specs.Outcome.{success, short_section}
use Rattle.answers.specs.declared.merge_rows.MergeRowsRefusal.TheVariants.{ShortSection}
use Rattle.std.specs.Prelude.{Ok, Err, Result}
use Rattle.assemble.specs.Inner.Numbers.{length_by}
use Rattle.merging.specs.Merging.{map_of, map_length}
use Rattle.merging.proofs.MapRows.{map_is_lem}
use Rattle.merging.proofs.LastStage.{written_short, written_done}
use Rattle.word_file.specs.TableBytes.{table_bytes}
use Rattle.rows.specs.Sums.{sum_of}
use Rattle.rows.specs.Table.{word_of, table_of}
use Rattle.rows.proofs.Growing.{echelon_sums}
use Rattle.rows.proofs.Vertices.{table_count}
use Rattle.row_map.specs.Inner.Maps.{MapPut}
use Rattle.row_arcs.specs.Inner.Arcs.{AllEdges}
use Rattle.row_file.specs.Inner.Filing.{FileAsked}
use Rattle.row_section.specs.Inner.Parts.{numbers_by}
use Rattle.merging_rows.specs.MergingRows.{MergingRows, rows_file, with_file, merged_rows}
use Rattle.merging_rows.specs.Inner.Stages.{BuildAsked, RowsEnd}
use Rattle.merging_rows.proofs.Ways.{file_length, by_room}
use Rattle.merging_rows.proofs.StepEdges.{narrow_rows}
use Rattle.merging_rows.proofs.Numbers.{numbers_are, length_is}

-- a record that was found another way
pub ends_by : {m : MergingRows} {o : MergingRows} {r : Result ℕ MergeRowsRefusal} {file map section : List ℕ} → m ≡ o → RowsEnd o r file map section
    → RowsEnd m r file map section
ends_by {m} {o} {r} {file} {map} {section} e R = subst (λ x. RowsEnd x r file map section) (sym e) R

module _ {s n : ℕ} {rows columns : List ℕ} {w : ℕ} {file before : List ℕ} (K : BuildAsked s n rows columns w file before) where
  words_are : length (table_of s n rows) ≡ w
  words_are = table_count s n K.asked.echelon (narrow_rows K.asked) ∙ sym K.asked.words

  pub file_asked : FileAsked rows s n file
  file_asked = record {
    narrow = K.asked.narrow;
    few = K.asked.few;
    states = K.asked.states;
    symbols = K.asked.symbols;
    room = subst (λ k. 5 + 4 * k ≤ length file) K.asked.words K.file_room;
  }

  file_room_lem : length (rows_file s n rows) ≤ length file
  file_room_lem = omega (arith, file_length s n rows, words_are, K.file_room)

  map_room : map_length n (table_of s n rows) ≤ length before
  map_room = omega (
    arith,
    K.asked.room,
    ap (λ k. k * (n + 1)) words_are ∙ mul_comm w (n + 1) ∙ ap (λ k. k * w) (add-one n),
  )

  -- the file's words are the sums of the reduced rows by rising choice
  file_is_lem : table_bytes 2 n (2 ^ s) (map (word_of s n) (each (sum_of rows) (2 ^ length rows))) ≡ rows_file s n rows
  unfolding rows_file table_of
  file_is_lem = ap (λ l. table_bytes 2 n (2 ^ s) (map (word_of s n) l)) (sym (echelon_sums K.asked.echelon (narrow_rows K.asked)))

  module _ {m dims counts roots goals : List ℕ} (P : MapPut s n rows w before m dims counts roots goals) where
    map_whole : m ≡ over (map_of n (table_of s n rows)) before
    map_whole = map_is_lem n (table_of s n rows) before m
        (subst (λ k. 0 < k) (sym (words_are ∙ K.asked.words)) (pow_pos (length rows)))
        (subst (λ k. suc n * k ≤ length before) (sym words_are) K.asked.room) P.len
        (λ t i h l. ap (λ k. get_or m (t * k + i) 0) words_are ∙ P.vertices t i h (subst (λ k. i < k) words_are l))
        (λ j h. P.behind j (subst (λ k. suc n * k ≤ j) words_are h))

    module _ {edges steps : List ℕ} {total : ℕ} (E : AllEdges m w rows s n dims (replicate 8192 0) edges total steps)
        {needed : ℕ} (N : needed ≡ length_by n counts total) (section : List ℕ) where
      needed_is : needed ≡ length (section_of 2 n (2 ^ s) (table_of s n rows))
      needed_is = N ∙ length_is K.asked P E

      -- 7: the map is finished, all else is as it was
      pub ends_short : length section < needed
          → RowsEnd (merged_rows s n rows file before section) (Err (ShortSection needed)) file m section
      unfolding with_file
      ends_short h = ends_by
          (by_room s n rows file before section file_room_lem map_room
          ∙ ap (with_file s n rows file before section)
          (written_short 2 n (2 ^ s) (table_of s n rows) before section (omega (arith, needed_is))))
          (record { answer_is = ap short_section needed_is; file_is = refl; map_is = map_whole; section_is = refl })

      -- success: section and file stand in front
      pub ends_done : {written-file written-section : List ℕ} → needed ≤ length section
          → written-section ≡ over (numbers_by s n dims counts steps roots goals edges) section
          → written-file ≡ over (table_bytes 2 n (2 ^ s) (map (word_of s n) (each (sum_of rows) (2 ^ length rows)))) file
          → RowsEnd (merged_rows s n rows file before section) (Ok needed) written-file m written-section
      unfolding with_file
      ends_done h Z F = ends_by
          (by_room s n rows file before section file_room_lem map_room
          ∙ ap (with_file s n rows file before section)
          (written_done 2 n (2 ^ s) (table_of s n rows) before section (omega (arith, needed_is))))
          (record {
            answer_is = ap success needed_is;
            file_is = F ∙ ap (λ vs. over vs file) file_is_lem;
            map_is = map_whole;
            section_is = Z ∙ ap (λ vs. over vs section) (numbers_are K.asked P E);
          })
