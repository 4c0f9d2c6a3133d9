-- `row_section::put_section` writes the sizes and then the parts one behind another; each has room behind those before it.
use mathlib.Core.Path.{sym}
use Rattle.row_section.proofs.Parts.{goals_asked, pairs_asked, symbols_asked, all_parts}
use Rattle.row_section.proofs.put_section.Goals as goal

pub slice_bounds-put_numbers-end-2 : goal.slice_bounds-put_numbers-end-2
slice_bounds-put_numbers-end-2 c = sym c.requires.goal_places

pub put_numbers-at-requires-2 : goal.put_numbers-at-requires-2
put_numbers-at-requires-2 c =
    goals_asked c.requires c.states_of.ensures c.put_sizes.ensures
    c.from.ensures c.put_numbers-at.ensures c.from-2.ensures

pub put_all_pairs-at-requires : goal.put_all_pairs-at-requires
put_all_pairs-at-requires c =
    pairs_asked c.requires c.states_of.ensures c.put_sizes.ensures
    c.from.ensures c.put_numbers-at.ensures
    c.from-2.ensures c.put_numbers-at-2.ensures

pub put_all_symbols-requires : goal.put_all_symbols-requires
put_all_symbols-requires c =
    symbols_asked c.requires c.states_of.ensures c.put_sizes.ensures
    c.from.ensures c.put_numbers-at.ensures
    c.from-2.ensures c.put_numbers-at-2.ensures c.put_all_pairs-at.ensures

pub returns : goal.returns
returns c =
    all_parts c.requires c.states_of.ensures c.put_sizes.ensures
    c.from.ensures c.put_numbers-at.ensures
    c.from-2.ensures c.put_numbers-at-2.ensures c.put_all_pairs-at.ensures
    c.put_all_symbols.ensures
