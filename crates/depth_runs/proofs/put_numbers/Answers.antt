-- `depth_runs::put_numbers` meets its contract. The loop keeps that the words before i have their numbers, and how many vertices they have.
-- A first word is no later than its word, so its number can be read back.
use borrow.Author.Rules.{rules}
use native.Mathlib.Omega.{arith}
use Rattle.depth_runs.proofs.Numbers.{numbers_none, numbers_own, numbers_few, numbers_more}
use Rattle.depth_runs.proofs.put_numbers.Goals as goal

pub loop-i-init : goal.loop-i-init
loop-i-init c = numbers_none _ _ _ _

pub numbered-count-requires : goal.numbered-count-requires
numbered-count-requires c = omega (arith, numbers_few c.loop-i.invariant, c.requires.few)

pub loop-i-preserved : goal.loop-i-preserved
loop-i-preserved c =
    numbers_more c.loop-i.invariant c.first_word-first.ensures (numbers_own c.requires c.first_word-first.ensures (search rules))
    (c.requires.twice _ (search rules)) c.requires.room c.numbered-count.ensures (search rules)
