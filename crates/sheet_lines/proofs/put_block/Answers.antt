-- `sheet_lines::put_block` puts the line of the record's four numbers.
use Rattle.sheet_lines.proofs.Lines.{block_put}
use Rattle.sheet_lines.proofs.put_block.Goals as goal

pub returns : goal.returns
returns c = block_put c.args.block c.put_line.ensures
