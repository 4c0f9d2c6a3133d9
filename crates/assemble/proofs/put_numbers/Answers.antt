-- `assemble::put_numbers` writes one number after another: the loop keeps those that are written so far.
use mathlib.Core.Path.{refl}
use borrow.Author.Rules.{rules}
use Rattle.assemble.proofs.Numbers.{numbers_none, numbers_more, numbers_end}
use Rattle.assemble.proofs.put_numbers.Goals as goal

pub loop-i-init : goal.loop-i-init
loop-i-init c = numbers_none _ _ _ _

pub loop-i-preserved : goal.loop-i-preserved
loop-i-preserved c = numbers_more c.loop-i.invariant refl (search rules)

pub returns : goal.returns
returns c = numbers_end c.loop-i.invariant (search rules)
