-- `packed::is_label` meets its contract. The loop's invariant: the answer is whether `rest` is a label of as many symbols as turns are left,
-- since each turn takes one symbol off both.
use mathlib.Core.Path.{◌≡◌, sym, ◌∙◌}
use Prim.Native.Nat.{ℕ, ◌+◌, ◌-◌}
use native.Mathlib.Omega.{arith}
use Rattle.packed.proofs.Packing.{label_held, turn_refuses, turn_goes_on, turn_ends}
use Rattle.packed.proofs.is_label.Goals as goal

one_less : (n i : ℕ) → n - (i + 1) ≡ n - i - 1
one_less n i = omega arith

pub loop-init : goal.loop-init
loop-init c = label_held _ 7 _ _ _ (omega arith) (omega (arith, c.held-end.ensures))

pub returns-then-rest-q : goal.returns-then-rest-q
returns-then-rest-q c = turn_refuses _ _ _ (omega arith) c.if-rest-q.true ∙ sym c.loop.invariant

pub loop-preserved : goal.loop-preserved
loop-preserved c = rw one_less (c.loop.invariant ∙ turn_goes_on _ _ _ (omega arith) c.if-rest-q.false)

pub returns : goal.returns
returns c = turn_ends _ _ _ (omega arith) ∙ sym c.loop.invariant
