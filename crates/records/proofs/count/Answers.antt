-- A list longer than a frame can be is answered with its length, any other with its sums: both are what `counting` says.
use native.Mathlib.Omega.{arith}
use Rattle.records.proofs.Summing.{counted_few, counted_many}
use Rattle.records.proofs.count.Goals as goal

pub returns-then-records-gt-MOST_BLOCKS : goal.returns-then-records-gt-MOST_BLOCKS
returns-then-records-gt-MOST_BLOCKS c = counted_many c.args.records.now (omega arith)

pub returns : goal.returns
returns c = counted_few c.args.records.now (omega arith) c.sum.ensures
