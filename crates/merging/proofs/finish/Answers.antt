-- `merging::finish` writes the outer rows, takes the edges, writes the sizes, and writes the section where it has room. That a lent slice
-- is as long as before, the call that it was lent to says: `kept` has that for each of the call's parameters, in their order.
use mathlib.Core.Path.{refl}
use native.Mathlib.Nat.{le_refl}
use Rattle.merging.proofs.LastStage.{outer_asked, map_small, sizes_asked, length_asked, ends_short, parts, ends_done}
use Rattle.merging.proofs.finish.Goals as goal

pub put_outer-outer-requires : goal.put_outer-outer-requires
put_outer-outer-requires c = outer_asked c.requires.0

pub slice_bounds-take_edges-end : goal.slice_bounds-take_edges-end
slice_bounds-take_edges-end c = refl

pub take_edges-edges-requires : goal.take_edges-edges-requires
take_edges-edges-requires c = (map_small c.requires.0 c.put_outer-outer.ensures, le_refl _)

pub put_sizes-requires : goal.put_sizes-requires
put_sizes-requires c = sizes_asked c.requires.0 c.put_outer-outer.ensures c.take_edges-edges.ensures c.requires.1

pub section_length-needed-requires : goal.section_length-needed-requires
section_length-needed-requires c = length_asked c.requires.0 c.put_outer-outer.ensures c.take_edges-edges.ensures

pub returns-then-section-needed : goal.returns-then-section-needed
returns-then-section-needed c =
    ends_short c.requires.0 c.put_outer-outer.ensures c.take_edges-edges.ensures c.requires.1 _ _
    c.put_sizes.ensures c.section_length-needed.ensures _ c.if-section-needed.true

pub put_section-requires : goal.put_section-requires
put_section-requires c =
    parts c.requires.0 c.put_outer-outer.ensures c.take_edges-edges.ensures c.requires.1 _ _
    c.put_sizes.ensures c.section_length-needed.ensures _ c.if-section-needed.false

pub returns : goal.returns
returns c =
    ends_done c.requires.0 c.put_outer-outer.ensures c.take_edges-edges.ensures c.requires.1 _ _
    c.put_sizes.ensures c.section_length-needed.ensures _ c.if-section-needed.false c.put_section.ensures
