-- One turn is `backward-more`, cited with what the functions on codes promise; a goal fits a byte, for it is a state (`NotedWell`).
use borrow.Author.Rules.{rules}
use mathlib.Core.Path.{refl}
use native.Mathlib.Omega.{arith}
use Prim.Native.Nat.{◌+◌, ◌-◌, ◌*◌}
use Rattle.trellis.specs.Bounds.{most_paths}
use Rattle.readout.proofs.Backward.{backward_start, backward_more, backward_all}
use Rattle.readout.proofs.read_path.Goals as goal

pub loop-b-init : goal.loop-b-init
loop-b-init c = backward_start (search rules)

pub overflow_cast-goals : goal.overflow_cast-goals
overflow_cast-goals c =
    let p = c.requires in
    omega (arith, p.5.small (most_paths * (c.loop-b.b - 1) + c.loop-b.j), c.vertex_of.ensures)

pub loop-b-preserved : goal.loop-b-preserved
loop-b-preserved c =
    let p = c.requires in
    backward_more c.loop-b.invariant c.loop-b-test.true p.5 (search rules) (search rules) refl
    c.label_of.ensures c.vertex_of.ensures refl c.root_of-j.ensures

pub returns : goal.returns
returns c = backward_all c.loop-b.invariant (search rules)
