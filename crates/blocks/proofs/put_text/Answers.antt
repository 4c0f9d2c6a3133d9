-- `blocks::put_text` lends the whole buffer, which is long enough for every sheet, so the sheet stands whole at its front.
use Rattle.std.proofs.Common.{arith}
use Rattle.text_buffer.proofs.Buffer.{whole_front, never_refused}
use Rattle.sheet_records.specs.Sheet.{sheet, sheet_text}
use Rattle.sheet.proofs.Whole.{sheet_inside}
use Rattle.blocks.proofs.Short.{text_short}
use Rattle.blocks.proofs.put_text.Goals as goal

pub unreachable-requires : goal.unreachable-requires
unfolding sheet
unreachable-requires c =
    let input = c.args.input.now in
    never_refused (sheet_text input) c.args.text.now (omega (arith, text_short input (λ i. (c.type_inv.input i).fits), c.told-text))
    c.block_sheet.ensures c.in-Err-Short.field-0 c.in-Err-Short.is

pub returns-clause-inside : goal.returns-clause-inside
returns-clause-inside c = sheet_inside _ _ c.block_sheet.ensures c.in-Ok.is

pub returns-clause-text : goal.returns-clause-text
unfolding sheet
returns-clause-text c =
    let input = c.args.input.now in
    whole_front (sheet_text input) c.args.text.now (omega (arith, text_short input (λ i. (c.type_inv.input i).fits), c.told-text))
    c.block_sheet.ensures c.in-Ok.is
