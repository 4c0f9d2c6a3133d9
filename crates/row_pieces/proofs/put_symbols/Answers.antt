-- `row_pieces::put_symbols` writes the symbols edge by edge: the loop keeps the piece that is written so far.
use borrow.Author.Rules.{rules}
use Rattle.row_pieces.proofs.Pieces.{symbols_none, symbol_more, symbols_end}
use Rattle.row_pieces.proofs.put_symbols.Goals as goal

pub loop-k-init : goal.loop-k-init
loop-k-init c = symbols_none _ _ _ _

pub loop-k-preserved : goal.loop-k-preserved
loop-k-preserved c = symbol_more _ c.loop-k.invariant c.bit_at.ensures (search rules)

pub returns : goal.returns
returns c = symbols_end _ c.loop-k.invariant (search rules)
