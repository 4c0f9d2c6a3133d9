-- `beginnings::enter` goes over the slots. The loop's invariant: those passed have entered.
use Prim.Native.Nat.{◌≤◌}
use Rattle.beginnings.specs.Inner.Entering.{AllEntered}
use Rattle.beginnings.proofs.enter.Given as goal

abbrev pub invariant-loop-j : goal.invariant-loop-j
invariant-loop-j l = (l.j ≤ l.have) × AllEntered l.s l.roots l.count l.slots l.items l.j
