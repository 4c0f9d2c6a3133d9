-- `section_file::all_counts` meets its contract: each call of the closure answers whether one count is in bounds.
use mathlib.Core.Path.{refl}
use Prim.Native.Nat.{◌+◌}
use lib.ListN.{get_or}
use borrow.Author.Rules.{rules}
use borrow.Author.Tests.{tests}
use Rattle.trellis.specs.Bounds.{most_words}
use Rattle.trellis.specs.Lists.{within}
use Rattle.edges.proofs.Ranges.{all_from_range}
use Rattle.section_file.proofs.all_counts.Goals as goal

pub returns : goal.returns
unfolding within
returns c =
    all_from_range (λ t. within 1 most_words (get_or c.args.l.now (c.args.at + t) 0)) _ _ _ c.all.ensures.ran refl
    (λ x b q k. search (rules, tests))
