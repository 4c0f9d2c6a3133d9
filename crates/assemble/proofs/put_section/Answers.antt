-- `assemble::put_section` writes the sizes and then the parts one behind another; each has room behind those before it.
use Rattle.assemble.proofs.SectionParts.{room_roots, room_goals, room_pairs, room_symbols, all_parts}
use Rattle.assemble.proofs.put_section.Goals as goal

pub put_states-at-requires : goal.put_states-at-requires
put_states-at-requires c = (c.requires.root_places, c.requires.root_bits, room_roots c.requires c.put_numbers-at.ensures)

pub put_states-at-requires-2 : goal.put_states-at-requires-2
put_states-at-requires-2 c = (c.requires.goal_places, c.requires.goal_bits, room_goals c.requires c.put_numbers-at.ensures c.put_states-at.ensures)

pub put_all_pairs-at-requires : goal.put_all_pairs-at-requires
put_all_pairs-at-requires c = (
  c.requires.small,
  c.requires.taken,
  room_pairs c.requires c.put_numbers-at.ensures c.put_states-at.ensures c.put_states-at-2.ensures,
)

pub put_all_symbols-requires : goal.put_all_symbols-requires
put_all_symbols-requires c = (
  c.requires.small,
  c.requires.taken,
  room_symbols c.requires c.put_numbers-at.ensures c.put_states-at.ensures c.put_states-at-2.ensures
      c.put_all_pairs-at.ensures,
)

pub returns : goal.returns
returns c =
    all_parts c.requires c.put_numbers-at.ensures c.put_states-at.ensures c.put_states-at-2.ensures
    c.put_all_pairs-at.ensures c.put_all_symbols.ensures
