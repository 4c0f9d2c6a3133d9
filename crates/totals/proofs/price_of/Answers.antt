-- `totals::price_of` meets its contract: the price read is a rank, and its distance is what is above the unit.
use Rattle.totals.proofs.Costs.{price_near}
use borrow.Author.Rules.{rules}
use Rattle.totals.proofs.price_of.Goals as goal

pub returns : goal.returns
returns c = (search rules, price_near c.requires.2 _)
