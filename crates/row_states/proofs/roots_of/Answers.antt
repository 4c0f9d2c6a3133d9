-- `row_states::roots_of` shifts each row, which its closure does as the definition says.
use Prim.Native.Nat.{◌/◌, ◌^◌}
use borrow.Author.Rules.{rules}
use Rattle.parity.proofs.Fronts.{front_each}
use Rattle.row_states.proofs.roots_of.Goals as goal

pub returns : goal.returns
returns c = front_each (λ r. r / 2 ^ c.args.behind) _ (search rules) (search rules) (λ b h. search (rules, c.each_row.ensures.0 b h))
