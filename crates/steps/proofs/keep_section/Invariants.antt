-- `steps::keep_section` meets its contract. The loop's invariant: what is kept at depth t, and the steps that are left, give what is kept
-- in the end, and the limit is below the cost of no path.
use Prim.Native.Nat.{◌<◌}
use Rattle.paths.specs.Chain.{unreached}
use Rattle.steps.proofs.Depths.{Deep}
use Rattle.steps.proofs.keep_section.Given as goal

abbrev pub invariant-loop-t : goal.invariant-loop-t
invariant-loop-t l = Deep l.l l.rows l.prices l.k l.have l.initial.items l.items l.grown.count l.pairs l.symbols l.t × (l.grown.limit < unreached)
