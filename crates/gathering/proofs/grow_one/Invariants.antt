-- `gathering::grow_one` meets its contract. The loop's invariant: what is filled, and the edges of the vertex from k on, are all that is to
-- be put there.
use Rattle.edges.specs.Inner.Edges.{edge_in}
use Rattle.codes.specs.Inner.Codes.{code_vertex, further_code}
use Rattle.gathering.proofs.Growing.{Putting}
use Rattle.gathering.proofs.grow_one.Given as goal

abbrev pub invariant-loop-k : goal.invariant-loop-k
invariant-loop-k l = Putting (further_code l.c) (edge_in l.step.pairs.now l.step.symbols.now) l.step.count (code_vertex l.c) l.initial.codes l.made l.codes l.filled l.k
