-- The number and values of each answer: document 01's, and for what came later document 02's.
use Rattle.std.specs.Prelude.{Bool, true, false, ℕ, Result, Ok, Err}
use Rattle.trellis.specs.Outcome.{Outcome, success, bad_length, bad_size, bad_word, not_above, short_map, not_rectangular, short_section}
use Rattle.trellis.specs.Outcome.{bad_section, bad_block, short_buffer, no_path, too_many_words, bad_path_count, bad_rows, dependent_row}
use Rattle.answers.specs.declared.merge.MergeRefusal.{MergeRefusal}
use Rattle.answers.specs.declared.merge.MergeRefusal.TheVariants as merge
use Rattle.answers.specs.declared.merge_rows.MergeRowsRefusal.{MergeRowsRefusal}
use Rattle.answers.specs.declared.merge_rows.MergeRowsRefusal.TheVariants as merge_rows
use Rattle.answers.specs.declared.read_back.ReadBackRefusal.{ReadBackRefusal}
use Rattle.answers.specs.declared.read_back.ReadBackRefusal.TheVariants as read_back
use Rattle.answers.specs.declared.same_section.SameSectionRefusal.{SameSectionRefusal}
use Rattle.answers.specs.declared.same_section.SameSectionRefusal.TheVariants as same_section
use Rattle.answers.specs.declared.decode.DecodeRefusal.{DecodeRefusal}
use Rattle.answers.specs.declared.decode.DecodeRefusal.TheVariants as decode
use Rattle.answers.specs.declared.decode_list.DecodeListRefusal.{DecodeListRefusal}
use Rattle.answers.specs.declared.decode_list.DecodeListRefusal.TheVariants as decode_list
use Rattle.answers.specs.declared.listing.ListingRefusal.{ListingRefusal}
use Rattle.answers.specs.declared.listing.ListingRefusal.TheVariants as listing

-- merging a table
abbrev pub merged_outcome : Result ℕ MergeRefusal → Outcome
merged_outcome (Ok section_length) = success section_length
merged_outcome (Err (merge.Length file_length)) = bad_length file_length
merged_outcome (Err (merge.Size place)) = bad_size place
merged_outcome (Err (merge.Word index)) = bad_word index
merged_outcome (Err (merge.Order index)) = not_above index
merged_outcome (Err (merge.ShortMap needed)) = short_map needed
merged_outcome (Err (merge.NotRectangular depth i j k)) = not_rectangular depth i j k
merged_outcome (Err (merge.ShortSection needed)) = short_section needed

-- merging generator rows
abbrev pub merged_rows_outcome : Result ℕ MergeRowsRefusal → Outcome
merged_rows_outcome (Ok section_length) = success section_length
merged_rows_outcome (Err (merge_rows.Rows count_or_row)) = bad_rows count_or_row
merged_rows_outcome (Err (merge_rows.Dependent row)) = dependent_row row
merged_rows_outcome (Err (merge_rows.ShortFile needed)) = short_buffer needed
merged_rows_outcome (Err (merge_rows.ShortMap needed)) = short_map needed
merged_rows_outcome (Err (merge_rows.ShortSection needed)) = short_section needed

-- reading a section back
abbrev pub read_back_outcome : Result ℕ ReadBackRefusal → Outcome
read_back_outcome (Ok length) = success length
read_back_outcome (Err read_back.Unusable) = bad_section 0
read_back_outcome (Err read_back.TooMany) = too_many_words
read_back_outcome (Err (read_back.Short needed)) = short_buffer needed

-- comparing two sections
abbrev pub same_section_outcome : Result Bool SameSectionRefusal → Outcome
same_section_outcome (Ok true) = success 1
same_section_outcome (Ok false) = success 0
same_section_outcome (Err (same_section.Unusable which)) = bad_section which

-- decoding a chain
abbrev pub decoded_outcome : Result ℕ DecodeRefusal → Outcome
decoded_outcome (Ok d) = success d
decoded_outcome (Err (decode.Section index)) = bad_section index
decoded_outcome (Err (decode.Block index)) = bad_block index
decoded_outcome (Err (decode.Short needed)) = short_buffer needed
decoded_outcome (Err decode.NoPath) = no_path

-- listing the best paths of a chain
abbrev pub decoded_list_outcome : Result ℕ DecodeListRefusal → Outcome
decoded_list_outcome (Ok count) = success count
decoded_list_outcome (Err (decode_list.Section index)) = bad_section index
decoded_list_outcome (Err (decode_list.Block index)) = bad_block index
decoded_list_outcome (Err (decode_list.Short needed)) = short_buffer needed
decoded_list_outcome (Err decode_list.NoPath) = no_path
decoded_list_outcome (Err (decode_list.Count paths)) = bad_path_count paths

-- a text in a lent buffer
abbrev pub listed_outcome : Result ℕ ListingRefusal → Outcome
listed_outcome (Ok length) = success length
listed_outcome (Err (listing.Short needed)) = short_buffer needed
