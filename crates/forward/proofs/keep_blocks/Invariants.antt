-- `forward::keep_blocks` puts the first beginning into the first slot and takes the slots through block after block. The loop's invariant:
-- they are what is kept in front of block b, the limit is below the cost of no path, and the working room is there.
use Prim.Native.Nat.{◌<◌}
use Rattle.paths.specs.Chain.{unreached}
use Rattle.frame.specs.Frame.{frame}
use Rattle.forward.specs.Inner.Blocks.{Workspace}
use Rattle.forward.specs.Inner.Fronts.{KeptAt}
use Rattle.forward.proofs.keep_blocks.Given as goal

abbrev pub invariant-loop-b : goal.invariant-loop-b
invariant-loop-b l = KeptAt (frame l.sections 0 l.indices l.received l.erased l.start l.end) l.k l.b l.grown.count l.slots l.back
    × (l.grown.limit < unreached) × Workspace l.prices l.even l.odd l.rows l.items
