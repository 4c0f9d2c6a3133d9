-- `depth_runs::put_numbers` meets its contract. The loop keeps that the words before i have their numbers, and how many vertices they have.
-- A first word is no later than its word, so its number can be read back.
use Rattle.depth_runs.proofs.Numbers.{InNumbers}
use Rattle.depth_runs.specs.Inner.Rows.{first_word_in}
use Rattle.depth_runs.proofs.put_numbers.Given as goal

abbrev pub invariant-loop-i : goal.invariant-loop-i
invariant-loop-i l = InNumbers l.place l.w (first_word_in l.starts l.firsts) l.initial.map l.map l.i l.count
