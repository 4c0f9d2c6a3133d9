-- `section_file::states::is_rising` meets its contract: each call of the closure answers whether one state is below the bound and above the
-- one before it.
use mathlib.Core.Path.{refl}
use lib.ListN.{get_or}
use borrow.Author.Rules.{rules}
use borrow.Author.Tests.{tests}
use Rattle.edges.proofs.Ranges.{all_from_range}
use Rattle.section_file.specs.Inner.Steps.{state_right}
use Rattle.section_file.proofs.states.is_rising.Goals as goal

pub returns : goal.returns
returns c =
    all_from_range (state_right (λ u. get_or c.args.states.now u 0) c.args.bound) _ _ _ c.all.ensures.ran refl
    (λ x b q k. search (rules, tests))
