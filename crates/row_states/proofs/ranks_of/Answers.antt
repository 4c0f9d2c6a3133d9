-- `row_states::ranks_of` ranks each value, which its closure does by `keys_below`.
use borrow.Author.Rules.{rules}
use Rattle.trellis.specs.Lists.{rank}
use Rattle.parity.proofs.Fronts.{front_each}
use Rattle.row_states.proofs.ranks_of.Goals as goal

pub returns : goal.returns
returns c = front_each (λ x. rank x c.args.keys.now) _ (search rules) (search rules) (λ b h. search (rules, c.each_row.ensures.0 b h))
