-- `gathering::grow` meets its contract. The loop's invariant: the beginnings passed are put one step further.
use Rattle.trellis.specs.Lists.{run}
use Rattle.edges.specs.Inner.Edges.{edge_in}
use Rattle.codes.specs.Inner.Codes.{grown_codes}
use Rattle.gathering.proofs.Growing.{Growing}
use Rattle.gathering.proofs.grow.Given as goal

abbrev pub invariant-loop-i : goal.invariant-loop-i
invariant-loop-i l = Growing (grown_codes (run (edge_in l.step.pairs.now l.step.symbols.now) 0 l.step.count)) l.old l.have l.codes l.made l.i
