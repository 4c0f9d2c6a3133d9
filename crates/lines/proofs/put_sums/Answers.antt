-- `lines::put_sums` puts the lines of both sums of the section's counts.
use Rattle.lines.proofs.Lines.{sums_put}
use Rattle.lines.proofs.put_sums.Goals as goal

pub returns : goal.returns
returns c =
    sums_put c.args.sizes.now c.additions_of.ensures.0 c.selections_of.ensures.0 c.put_line-end.ensures
    c.put_line.ensures
