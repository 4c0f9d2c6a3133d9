-- `merging_rows::build` puts the map, takes the edges, and writes section and file where the section has room; each stage leaves what the
-- next asks for.
use native.Mathlib.Nat.{le_refl}
use Rattle.merging_rows.proofs.StepEdges.{edges_asked}
use Rattle.merging_rows.proofs.Numbers.{length_asked, section_asked}
use Rattle.merging_rows.proofs.Ending.{file_asked, ends_short, ends_done}
use Rattle.merging_rows.proofs.build.Goals as goal

pub take_edges-edges-requires : goal.take_edges-edges-requires
take_edges-edges-requires c = (edges_asked c.requires.asked c.put_map-depths.ensures, le_refl _)

pub section_length-needed-requires : goal.section_length-needed-requires
section_length-needed-requires c = length_asked c.requires.asked c.put_map-depths.ensures c.take_edges-edges.ensures

pub returns-then-section-needed : goal.returns-then-section-needed
returns-then-section-needed c =
    ends_short c.requires c.put_map-depths.ensures c.take_edges-edges.ensures c.section_length-needed.ensures _
    c.if-section-needed.true

pub put_section-requires : goal.put_section-requires
put_section-requires c =
    section_asked c.requires.asked c.put_map-depths.ensures c.take_edges-edges.ensures c.section_length-needed.ensures _
    c.if-section-needed.false

pub put_file-requires : goal.put_file-requires
put_file-requires c = file_asked c.requires

pub returns : goal.returns
returns c =
    ends_done c.requires c.put_map-depths.ensures c.take_edges-edges.ensures c.section_length-needed.ensures _
    c.if-section-needed.false c.put_section.ensures c.put_file.ensures
