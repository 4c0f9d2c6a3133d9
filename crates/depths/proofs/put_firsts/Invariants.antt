-- `depths::put_firsts` meets its contract. The loop keeps the first words of the words before i, and for each key the first of them that
-- has it.
use Rattle.depths.proofs.Firsts.{InFirsts}
use Rattle.depths.proofs.put_firsts.Given as goal

abbrev pub invariant-loop-i : goal.invariant-loop-i
invariant-loop-i l = InFirsts l.labels l.n l.t l.initial.row l.row l.seen l.i
