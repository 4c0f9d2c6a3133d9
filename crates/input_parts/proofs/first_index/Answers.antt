-- `input_parts::first_index` looks at the blocks in order. The loop's invariant: no block passed has an index that is not below K.
use Rattle.input_parts.specs.Input.{index_bad}
use Rattle.table.proofs.Search.{clear_start, clear_next}
use Rattle.input_parts.proofs.Head.{index_high, index_low, index_found, index_none}
use borrow.Author.Rules.{rules}
use Rattle.input_parts.proofs.first_index.Goals as goal

pub loop-b-init : goal.loop-b-init
loop-b-init c = clear_start (index_bad c.args.input.now)

pub returns-then-section_index-sections : goal.returns-then-section_index-sections
returns-then-section_index-sections c =
    index_found c.args.input.now c.loop-b.invariant (search rules)
    (index_high c.args.input.now c.loop-b.b c.requires.0 c.section_index.ensures.0 c.if-section_index-sections.true)

pub loop-b-preserved : goal.loop-b-preserved
loop-b-preserved c =
    clear_next c.loop-b.invariant
    (index_low c.args.input.now c.loop-b.b c.requires.0 c.section_index.ensures.0 c.if-section_index-sections.false)

pub returns : goal.returns
returns c = index_none c.args.input.now c.loop-b.invariant (search rules)
