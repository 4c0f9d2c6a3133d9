-- `sheet_records::make_records` fills the array from the front. The loop's invariant is `InRecords`.
use Rattle.sheet_records.proofs.Making.{records_start, section_below, records_next, records_all}
use borrow.Author.Rules.{rules}
use Rattle.sheet_records.proofs.make_records.Goals as goal

pub loop-b-init : goal.loop-b-init
loop-b-init c = records_start (search rules)

pub offset_bounds-additions-section : goal.offset_bounds-additions-section
offset_bounds-additions-section c =
    let f = section_below c.requires c.loop-b-test.true c.section_index-section.ensures.0 in
    search rules

pub bounds-additions-section : goal.bounds-additions-section
bounds-additions-section c =
    let f = section_below c.requires c.loop-b-test.true c.section_index-section.ensures.0 in
    search rules

pub offset_bounds-selections-section : goal.offset_bounds-selections-section
offset_bounds-selections-section c =
    let f = section_below c.requires c.loop-b-test.true c.section_index-section.ensures.0 in
    search rules

pub bounds-selections-section : goal.bounds-selections-section
bounds-selections-section c =
    let f = section_below c.requires c.loop-b-test.true c.section_index-section.ensures.0 in
    search rules

pub loop-b-preserved : goal.loop-b-preserved
loop-b-preserved c = records_next c.requires c.loop-b.invariant c.loop-b-test.true c.section_index-section.ensures.0

pub returns : goal.returns
returns c = records_all c.requires c.loop-b.invariant c.loop-b-test.false
