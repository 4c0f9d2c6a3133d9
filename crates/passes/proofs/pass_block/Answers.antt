-- `passes::pass_block` goes from the goals along the edges to the roots.
use Rattle.passes.proofs.Passing.{sweep_asked, passed}
use Rattle.passes.proofs.pass_block.Goals as goal

pub sweep-requires : goal.sweep-requires
sweep-requires c = let G = c.put_goals_side.ensures in (c.requires.0, sweep_asked c.requires.0 c.requires.1 G.0 G.1 G.2)

pub returns : goal.returns
returns c =
    let G = c.put_goals_side.ensures in
    let W = c.sweep.ensures in
    (passed c.requires.0 G.0 W c.put_roots.ensures, W.even_long, W.odd_long)
