-- `lines::put_depths` puts a line for each depth. The loop's invariant: the lines of the depths passed are put.
use Rattle.lines.proofs.Lines.{Depths}
use Rattle.lines.proofs.put_depths.Given as goal

abbrev pub invariant-loop-t : goal.invariant-loop-t
invariant-loop-t l = Depths l.sizes l.n l.initial.text l.at l.text l.end l.t
