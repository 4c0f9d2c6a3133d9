-- `label::without_last` meets its contract: below eight symbols by `shift-out`, from there on because nothing of the label is left.
use native.Mathlib.Omega.{arith}
use Rattle.label.proofs.Shifts.{shift_out, none_left}
use Rattle.label.proofs.without_last.Goals as goal

pub returns-then-low-lt8 : goal.returns-then-low-lt8
returns-then-low-lt8 c = shift_out _ _

pub returns-else-low-lt8 : goal.returns-else-low-lt8
returns-else-low-lt8 c = none_left 8 _ (omega arith) (omega arith)
