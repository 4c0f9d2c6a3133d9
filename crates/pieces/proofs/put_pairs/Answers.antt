-- `pieces::put_pairs` writes the pairs word by word: the loop keeps the piece that is written so far.
use mathlib.Core.Path.{refl}
use borrow.Author.Rules.{rules}
use Rattle.pieces.proofs.Pieces.{piece_none, pairs_piece, pair_more}
use Rattle.pieces.proofs.put_pairs.Goals as goal

pub loop-k-init : goal.loop-k-init
loop-k-init c = piece_none 2 (pairs_piece _ _ _) _ _ _ _ _ (search rules)

pub loop-k-preserved : goal.loop-k-preserved
loop-k-preserved c = pair_more _ _ _ c.loop-k.invariant c.from-i.ensures refl refl (search rules)
