-- `settling::settle_roots` goes over the roots. The loop's invariant: the roots passed have their costs, and the other states what they
-- had; and the roots stand where they were looked for.
use Prim.Native.Nat.{◌≤◌}
use Rattle.settling.specs.Inner.Settled.{RootsSettled}
use Rattle.settling.proofs.Settling.{RootsRead}
use Rattle.settling.proofs.settle_roots.Given as goal

abbrev pub invariant-loop-v : goal.invariant-loop-v
invariant-loop-v l = RootsSettled l.l l.behind l.initial.row l.row l.v × (l.v ≤ l.count) × RootsRead l.l l.roots l.count
