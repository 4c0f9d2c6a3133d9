-- `edges::Step::all_above` meets its contract: each call of the closure answers whether one edge is above the edge before it.
use borrow.Author.Rules.{rules}
use borrow.Author.Tests.{tests}
use Rattle.edges.proofs.Ranges.{all_from_range}
use mathlib.Core.Path.{refl}
use Rattle.edges.specs.Inner.Edges.{above, edge_in}
use Rattle.edges.proofs.Step.all_above.Goals as goal

pub returns : goal.returns
returns c = all_from_range (above (edge_in c.args.self.pairs.now c.args.self.symbols.now)) _ _ _ c.all.ensures.ran refl (λ x b q k. search (rules, tests))
