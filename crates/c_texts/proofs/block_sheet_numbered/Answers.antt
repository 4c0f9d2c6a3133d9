-- `c_texts::block_sheet_numbered` is the block sheet, its answer in numbers.
use Rattle.c_texts.proofs.Left.{listing_left}
use Rattle.c_texts.proofs.block_sheet_numbered.Goals as goal

pub returns : goal.returns
returns c = listing_left c.block_sheet-sheet.ensures c.store.ensures
