-- `gathering::starts_of` meets its contract. The loop's invariant: the edges from k on are noted.
use Rattle.edges.specs.Inner.Edges.{edge_in}
use Rattle.gathering.proofs.Growing.{Noted}
use Rattle.gathering.proofs.starts_of.Given as goal

abbrev pub invariant-loop-k : goal.invariant-loop-k
invariant-loop-k l = Noted (edge_in l.step.pairs.now l.step.symbols.now) l.step.count l.starts l.k
