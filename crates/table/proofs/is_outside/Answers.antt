-- `table::is_outside` meets its contract: the code makes the two comparisons of the definition.
use Rattle.std.proofs.Common.{rules, tests}
use Rattle.table.specs.File.{outside}
use Rattle.table.proofs.is_outside.Goals as goal

pub returns-then-x-low : goal.returns-then-x-low
unfolding outside
returns-then-x-low c = search (rules, tests)

pub returns-else-x-low : goal.returns-else-x-low
unfolding outside
returns-else-x-low c = search (rules, tests)
