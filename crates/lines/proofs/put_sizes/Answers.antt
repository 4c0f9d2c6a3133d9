-- `lines::put_sizes` puts the sizes, the depths and the sums one behind another.
use Rattle.lines.proofs.Lines.{sizes_put}
use Rattle.lines.proofs.put_sizes.Goals as goal

pub returns : goal.returns
returns c =
    sizes_put c.args.sizes.now c.args.words c.number-2.ensures c.from.ensures
    c.number.ensures c.from-n.ensures
    c.number-3.ensures c.from-2.ensures c.put_line-sized.ensures c.put_depths-end.ensures c.put_sums.ensures
