-- `edges::Step::all_inside` meets its contract: each call of the closure answers whether one edge is within bounds.
use borrow.Author.Rules.{rules}
use borrow.Author.Tests.{tests}
use Rattle.edges.proofs.Ranges.{all_from_range}
use mathlib.Core.Path.{refl}
use Rattle.edges.specs.Inner.Edges.{inside, edge_in}
use Rattle.edges.proofs.Step.all_inside.Goals as goal

pub returns : goal.returns
returns c = all_from_range (inside (edge_in c.args.self.pairs.now c.args.self.symbols.now) c.args.q c.args.froms c.args.tos) _ _ _ c.all.ensures.ran refl (λ x b q k. search (rules, tests))
