-- `filling::fill` gives the front of the input: all that fits, or all.
use Rattle.std.proofs.Common.{rules}
use Rattle.std.proofs.lemmas.List.{places}
use Rattle.filling.proofs.Filled.{with_piece, with_none, full}
use Rattle.filling.proofs.fill.Goals as goal
use Rattle.filling.proofs.fill.Goals.{in-Ok, in-Err}

pub loop-preserved : goal.loop-preserved
loop-preserved g c =
    let before = c.loop.invariant in
    elim c.match-read.branch [
      | in-Ok w ↦
          rw w.filled-is
          (search (rules, places, w.in-Ok.ensures.bound.0), with_piece _ _ _ _ _ _ _ before.0 before.1 _ w.in-Ok.ensures.bound.0 w.in-Ok.ensures.bytes.0)
      | in-Err w ↦ rw w.filled-is (search (rules, places), with_none _ _ _ _ _ _ _ before.0 before.1 w.in-Err.ensures.bytes)
    ]

pub returns-then-filled-buffer-clause-front : goal.returns-then-filled-buffer-clause-front
returns-then-filled-buffer-clause-front g c = full _ _ _ _ c.if-filled-buffer.true c.loop.invariant.1
