-- The marked cases hold by computation: both sides of each work out to the same numbers.
use mathlib.Core.Path.{refl}
use mathlib.Core.List.{flat_map}
use Rattle.trellis.specs.Lists.{run, sum, first, is_in, keep, rank, insert, ascending, lower, alike, all, any, within}
use Rattle.trellis.specs.Label.{symbol, front, back, spliced, symbols_below, is_label}
use Rattle.trellis.specs.Comparing.{marked_at, symbol_cost_by, distance_by, differs_at, differing}
use Rattle.trellis.specs.Own.{shares, first_sharing, key, keys, vertex_of, vertex_count, edges_at, edge_count}
use Rattle.trellis.specs.Section.{leaving, paths_from, pack_onto, word_of, words_of}
use Rattle.trellis.specs.Layout.{vertex_count_of, edge_count_of, edges_before, roots_place, goals_place, pairs_place, symbols_place, root_state}
use Rattle.trellis.specs.Layout.{goal_state, edge_number, step_edges, section_words, joined_up, section_of, section_length}
use Rattle.trellis.specs.Selections.{all_vertices, additions, selections}
use Rattle.trellis.specs.Witness.{refutes, first_of, over_k, over_j, witness_at, witness}
use Rattle.fields.specs.Fields.{word_count, file_word, file_words, length_bad}
use Rattle.table.specs.File.{outside, size_outside, word_outside, word_bad, order_bad, table_file}
use Rattle.merging.specs.Merging.{map_of, written, merged, merged_table, merged_file, merging}
use Rattle.paths.specs.Choice.{choose, best, paid_or}
use Rattle.paths.specs.Chain.{rooted_at, chain_paths, path_distance, best_path, cost_table}
use Rattle.section_file.specs.Usable.{step_edge, whole, sizes_right, edges_inside, counts_right, rising, states_right, edges_ascend, onward}
use Rattle.section_file.specs.Usable.{inward, no_twins_reached, no_twins_leading, usable, is_section}
use Rattle.word_file.specs.TableBytes.{table_bytes}
use Rattle.read_back.specs.ReadingBack.{reading_back}
use Rattle.rows.specs.Sums.{chosen, sum_of, sums, is_dependent, first_dependent}
use Rattle.rows.specs.Table.{spread, table_of as rows_table, sizes_fit, first_wide}
use Rattle.merging_rows.specs.MergingRows.{rows_file, with_file, merged_rows, merging_rows}
use Rattle.received.specs.Received.{stray, fits_block}
use Rattle.sections.specs.Sections.{section_start, section_at, unusable, sections_bad, bad_section_of}
use Rattle.frame.specs.Frame.{frame_bad, block_words, word_distance_by, word_mask, block_bad}
use Rattle.room.specs.Room.{short_of, needed_to_decode}
use Rattle.decoding.specs.Decoding.{best_by, table_of, masks_of, found, fitted, framed, decoding}
use Rattle.cases.specs.Marked.{left, shown, AllShown}

pub all_shown : AllShown
unfolding run sum first is_in keep rank insert ascending lower alike symbol front back spliced symbols_below is_label shares first_sharing
    key keys vertex_of vertex_count edges_at edge_count leaving paths_from pack_onto word_of words_of vertex_count_of edge_count_of edges_before
    roots_place goals_place pairs_place symbols_place root_state goal_state edge_number step_edges section_words joined_up section_of all_vertices
    additions selections refutes first_of over_k over_j witness_at witness word_count file_word file_words length_bad outside size_outside
    word_outside word_bad order_bad table_file map_of written merged merged_table merged_file merging section_length all any within step_edge
    whole sizes_right edges_inside counts_right rising states_right edges_ascend onward inward no_twins_reached no_twins_leading usable
    table_bytes is_section reading_back choose best paid_or rooted_at chain_paths path_distance best_path cost_table marked_at
    symbol_cost_by distance_by differs_at differing stray fits_block section_start section_at unusable sections_bad bad_section_of frame_bad
    block_words word_distance_by word_mask block_bad short_of needed_to_decode best_by table_of masks_of found fitted framed decoding left shown
    flat_map chosen sum_of sums is_dependent first_dependent spread rows_table sizes_fit first_wide rows_file with_file merged_rows merging_rows
all_shown = refl
