-- `passes::put_roots` goes over the roots. The loop's invariant: the states of the roots passed have their costs and notes, and the others
-- no path.
use Rattle.passes.specs.Inner.Loops.{RootsPut}
use Rattle.passes.proofs.put_roots.Given as goal

abbrev pub invariant-loop-v : goal.invariant-loop-v
invariant-loop-v l = RootsPut l.l l.row l.left l.notes l.v
