-- `pieces::put_symbols` writes the symbols word by word: the loop keeps the piece that is written so far.
use borrow.Author.Rules.{rules}
use Rattle.pieces.proofs.Pieces.{piece_none, symbols_piece, symbol_more}
use Rattle.pieces.proofs.put_symbols.Goals as goal

pub loop-k-init : goal.loop-k-init
loop-k-init c = piece_none 1 (symbols_piece _ _ _) _ _ _ _ _ (search rules)

pub loop-k-preserved : goal.loop-k-preserved
loop-k-preserved c = symbol_more _ _ _ c.loop-k.invariant c.from-i.ensures c.symbol.ensures (search rules)
