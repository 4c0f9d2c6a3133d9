-- `comparing::differences` meets its contract: folding leaves one bit a symbol, and each of the other steps draws two fields together,
-- since its shift brings one part beside the other and its mask is the low halves. The field that is left at last holds all.
use mathlib.Core.Path.{refl, ◌∙◌}
use lib.Dec.{lit<}
use Rattle.trellis.specs.Comparing.{differing}
use Rattle.trellis.proofs.Comparing.{differing_short}
use Rattle.comparing.proofs.Fields.{low_halves, drawn_together, one_field, kept_below}
use Rattle.comparing.proofs.Folding.{folded}
use Rattle.comparing.proofs.differences.Goals as goal

pub overflow_cast-result : goal.overflow_cast-result
overflow_cast-result c = record { fits = kept_below 8 c.masked_or.ensures (lit< tt) }

pub returns : goal.returns
unfolding low_halves
returns c =
    let x = c.args.x in
    let y = c.args.y in
    let v = differing 8 x 0 y in
    let by_two = folded 8 x y c.masked_or-ones.ensures refl refl refl in
    let by_four = drawn_together 1 4 v c.masked_or-twos.ensures by_two refl refl in
    let by_eight = drawn_together 2 2 v c.masked_or-fours.ensures by_four refl refl in
    drawn_together 4 1 v c.masked_or.ensures by_eight refl refl ∙ one_field 8 (differing_short 8 x 0 y)
