-- `label::only_last` meets its contract: below eight symbols by `mask`, from there on because all of the label is kept.
use native.Mathlib.Omega.{arith}
use Rattle.label.proofs.Shifts.{up_pos, mask, all_left}
use Rattle.label.proofs.only_last.Goals as goal

pub overflow_sub-result : goal.overflow_sub-result
overflow_sub-result c = up_pos 16 _ (omega arith)

pub returns-then-low-lt8 : goal.returns-then-low-lt8
returns-then-low-lt8 c = mask 16 _ _ (omega arith)

pub returns-else-low-lt8 : goal.returns-else-low-lt8
returns-else-low-lt8 c = all_left 8 _ (omega arith) (omega arith)
