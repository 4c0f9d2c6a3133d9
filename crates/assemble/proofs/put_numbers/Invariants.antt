-- The loop of `assemble::put_numbers`: of `count` numbers the first i are written from place `at` on, and the buffer is as long as it was.
use Rattle.assemble.proofs.Numbers.{InNumbers}
use Rattle.assemble.proofs.put_numbers.Given as goal

abbrev pub invariant-loop-i : goal.invariant-loop-i
invariant-loop-i l = InNumbers l.source l.count l.initial.section l.at l.section l.i
