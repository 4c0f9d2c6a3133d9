-- `lacking::reach` meets its contract. The loop keeps, whatever the endings that the chains go along, that all words passed are in runs
-- before the one that starts at a.
use mathlib.Core.List.{List}
use Prim.Native.Nat.{ℕ, ◌-◌}
use Rattle.lacking.specs.Inner.Chains.{Chained, Passed}
use Rattle.lacking.proofs.reach.Given as goal

abbrev pub invariant-loop-word : goal.invariant-loop-word
invariant-loop-word l = (firsts : List ℕ) → Chained l.w firsts l.next → Passed l.w l.starts firsts l.a l.l l.word

abbrev pub decreases-loop-word : goal.decreases-loop-word
decreases-loop-word l = l.w - l.word
