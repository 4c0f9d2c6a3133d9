-- `cost_table::fill_block` makes the prices and passes the block.
use native.Mathlib.Omega.{arith}
use Rattle.section_file.proofs.Seen.{header}
use Rattle.cost_table.proofs.Tables.{block_filled}
use Rattle.cost_table.proofs.fill_block.Goals as goal

pub put_prices-requires : goal.put_prices-requires
put_prices-requires c = let H = header c.requires.0 in (omega (arith, H.n_is, H.n_le), c.requires.2.room)

pub returns : goal.returns
returns c =
    let P = c.put_prices.ensures in
    let B = c.pass_block.ensures in (
      block_filled (header c.requires.0).n_is P B.0,
      record { left_long = B.0.long; room = P.room; even_long = B.1; odd_long = B.2 },
    )
