-- `refusing::refuse` clears the map and gives the first witness, which there is at a depth that is not rectangular.
use borrow.Author.Rules.{rules}
use Rattle.refusing.proofs.Clearing.{front_cleared}
use Rattle.refusing.proofs.FirstDepth.{refusal_at, refusal_none}
use Rattle.refusing.proofs.refuse.Goals as goal

pub returns-in-Some : goal.returns-in-Some
returns-in-Some c = (
  refusal_at c.requires.first c.find_witness.ensures c.in-Some.is,
  front_cleared _ _ _ (search rules) (c.fill.ensures.after (λ y e. e)),
)

pub returns-in-None : goal.returns-in-None
returns-in-None c = (
  refusal_none c.requires.first c.find_witness.ensures c.in-None.is,
  front_cleared _ _ _ (search rules) (c.fill.ensures.after (λ y e. e)),
)
