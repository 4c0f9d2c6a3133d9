-- `packed::is_label` meets its contract. The loop's invariant: the answer is whether `rest` is a label of as many symbols as turns are left,
-- since each turn takes one symbol off both.
use mathlib.Core.Path.{◌≡◌}
use Prim.Native.Nat.{◌-◌}
use Rattle.trellis.specs.Label.{is_label}
use Rattle.packed.proofs.is_label.Given as goal

abbrev pub invariant-loop : goal.invariant-loop
invariant-loop l = is_label l.q l.n l.label ≡ is_label l.q (l.end - l.counter) l.rest
