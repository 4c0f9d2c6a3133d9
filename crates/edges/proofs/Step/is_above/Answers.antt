-- `edges::Step::is_above` meets its contract: the first edge has none before it, and the derived order of edges is the theory's.
use borrow.Author.Rules.{rules}
use Rattle.edges.proofs.Reading.{next_above}
use Rattle.edges.proofs.Step.is_above.Goals as goal

pub returns-else-k-eq0 : goal.returns-else-k-eq0
returns-else-k-eq0 c = search (rules, next_above)
