-- `sweep::sweep` makes the rows from the last depth to the first. The loop's invariant: the row of depth t holds the least costs.
use Rattle.sweep.proofs.Sweeping.{InSweep}
use Rattle.sweep.proofs.sweep.Given as goal

abbrev pub invariant-loop-t : goal.invariant-loop-t
invariant-loop-t l = InSweep l.l l.prices l.initial.even l.initial.odd l.even l.odd l.t l.before
