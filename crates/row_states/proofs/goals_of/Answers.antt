-- `row_states::goals_of` takes the last bits of each row, which its closure does as the definition says.
use Prim.Native.Nat.{◌%◌, ◌^◌}
use borrow.Author.Rules.{rules}
use Rattle.parity.proofs.Fronts.{front_each}
use Rattle.row_states.proofs.goals_of.Goals as goal

pub returns : goal.returns
returns c = front_each (λ r. r % 2 ^ c.args.bits) _ (search rules) (search rules) (λ b h. search (rules, c.each_row.ensures.0 b h))
