-- `input_parts::first_index` looks at the blocks in order. The loop's invariant: no block passed has an index that is not below K.
use Rattle.table.proofs.Search.{Clear}
use Rattle.input_parts.specs.Input.{index_bad}
use Rattle.input_parts.proofs.first_index.Given as goal

abbrev pub invariant-loop-b : goal.invariant-loop-b
invariant-loop-b l = Clear (index_bad l.input) l.b
