-- `blocks::print_sheet` writes the sheet of what it read, which is the sheet of all of the input.
use Rattle.std.proofs.Common.{◌∙◌}
use Rattle.blocks.proofs.Printed.{written}
use Rattle.blocks.proofs.print_sheet.Goals as goal

pub returns : goal.returns
returns g c =
    written
    _
    _
    _
    c.write_all.result
    _
    _
    (c.fill.auto.buffer ∙ c.input_buffer-front.ensures)
    c.put_text-length.ensures.text
    c.in_ok-read.ensures.front
    c.write_all.ensures.bytes
