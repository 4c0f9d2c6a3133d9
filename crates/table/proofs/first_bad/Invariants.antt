-- `table::first_bad` meets its contract. The loop's invariant: no word passed is bad. A word that is bad is then the first, and where the
-- loop ends there is none.
use Rattle.table.specs.File.{word_bad}
use Rattle.table.proofs.Search.{Clear}
use Rattle.table.proofs.first_bad.Given as goal

abbrev pub invariant-loop-i : goal.invariant-loop-i
invariant-loop-i l = Clear (word_bad l.file) l.i
