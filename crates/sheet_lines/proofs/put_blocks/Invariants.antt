-- `sheet_lines::put_blocks` puts the lines one behind another. The loop's invariant: the lines of the records passed are put.
use Rattle.text.proofs.Putting.{Pieces}
use Rattle.sheet_records.specs.Sheet.{block_line}
use Rattle.sheet_lines.proofs.put_blocks.Given as goal

abbrev pub invariant-loop-block : goal.invariant-loop-block
invariant-loop-block l = Pieces block_line l.initial.text 0 l.block-items l.text l.end l.block-index
