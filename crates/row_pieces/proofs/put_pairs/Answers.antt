-- `row_pieces::put_pairs` writes the pairs edge by edge: the loop keeps the piece that is written so far.
use native.Mathlib.Omega.{arith}
use lib.ListN.{length-set}
use borrow.Author.Rules.{rules}
use Rattle.row_pieces.proofs.Pieces.{put_none, pairs_piece, pair_more, put_end}
use Rattle.row_pieces.proofs.put_pairs.Goals as goal

pub loop-edge-init : goal.loop-edge-init
loop-edge-init c = put_none 2 (pairs_piece _) _ _ _

pub bounds-section-to-in-loop-edge : goal.bounds-section-to-in-loop-edge
bounds-section-to-in-loop-edge c =
    let at_loop = c.loop-edge.invariant in
    simp length-set (omega (arith, at_loop.len, at_loop.to_is))

pub loop-edge-preserved : goal.loop-edge-preserved
loop-edge-preserved c = pair_more _ c.loop-edge.invariant c.from_of.ensures c.low_bits.ensures (search rules)

pub returns : goal.returns
returns c = put_end c.loop-edge.invariant (search rules)
