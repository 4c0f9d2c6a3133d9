-- `table::word_outside` meets its contract: root, goal and label are tested in the definition's order.
use Rattle.table.specs.File.{word_outside}
use Rattle.std.proofs.Common.{rules, tests}
use Rattle.table.proofs.word_outside.Goals as goal

pub returns-then-w-states-2 : goal.returns-then-w-states-2
unfolding word_outside
returns-then-w-states-2 c = search (rules, tests)

pub returns-else-w-states-2 : goal.returns-else-w-states-2
unfolding word_outside
returns-else-w-states-2 c = search (rules, tests)
