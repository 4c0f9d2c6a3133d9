-- `ranks::ranked_left` puts the state below the cost, which is at most that of no path.
use native.Mathlib.Omega.{arith}
use borrow.Author.Rules.{rules}
use Rattle.ranks.proofs.Ranks.{left_is}
use Rattle.ranks.proofs.ranked_left.Goals as goal

pub returns : goal.returns
returns c = (omega (arith, left_is c.args.cost c.args.s), search rules)
