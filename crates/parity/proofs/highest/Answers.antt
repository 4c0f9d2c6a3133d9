-- `parity::highest` counts the leading zeros of 16 bits.
use borrow.Author.Rules.{rules}
use Rattle.parity.proofs.TopBit.{top_bit}
use Rattle.parity.proofs.highest.Goals as goal

pub returns : goal.returns
returns c = top_bit c.args.z c.requires (search rules)
