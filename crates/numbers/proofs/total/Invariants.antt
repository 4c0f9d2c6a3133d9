-- `numbers::total` meets its contract. The loop's invariant: the sum is that of the numbers passed.
use Prim.Native.Nat.{◌+◌}
use lib.ListN.{get_or}
use Rattle.numbers.proofs.Sums.{Summed}
use Rattle.numbers.proofs.total.Given as goal

abbrev pub invariant-loop-t : goal.invariant-loop-t
invariant-loop-t l = Summed (λ t. get_or l.l (l.at + t) 0) l.count l.sum l.t
