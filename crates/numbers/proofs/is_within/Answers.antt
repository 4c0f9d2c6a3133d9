-- `numbers::is_within` is the two tests of the definition.
use Rattle.std.proofs.Common.{rules, tests}
use Rattle.trellis.specs.Lists.{within}
use Rattle.numbers.proofs.is_within.Goals as goal

pub returns : goal.returns
unfolding within
returns c = search (rules, tests)
