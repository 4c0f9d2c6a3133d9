-- `row_labels::labels_of` spreads the bits of each row, which its closure does by `spread_bits`.
use Prim.Native.Nat.{◌/◌, ◌^◌}
use borrow.Author.Rules.{rules}
use Rattle.rows.specs.Table.{spread}
use Rattle.parity.proofs.Fronts.{front_each}
use Rattle.row_labels.proofs.labels_of.Goals as goal

pub returns : goal.returns
returns c = front_each (λ r. spread c.args.n (r / 2 ^ c.args.bits)) _ (search rules) (search rules)
    (λ b h. search (rules, c.each_row.ensures.0 b h))
