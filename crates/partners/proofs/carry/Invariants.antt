-- `partners::carry` meets its contract. The loop's invariant: each vertex that an edge passed has reached has the partner
-- that the edge gives it, and all others have none.
use Rattle.edges.specs.Inner.Edges.{edge_in}
use Rattle.partners.proofs.Carrying.{Carried}
use Rattle.partners.proofs.carry.Given as goal

abbrev pub invariant-loop-k : goal.invariant-loop-k
invariant-loop-k l = Carried (edge_in l.step.pairs.now l.step.symbols.now) l.step.count l.ends l.old l.new l.k
