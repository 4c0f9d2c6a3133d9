-- `section::print_listing` writes the text of what it read, which is the text of all of the input.
use Rattle.section.proofs.Printed.{written}
use Rattle.section.proofs.print_listing.Goals as goal

pub returns : goal.returns
returns g c = written _ _ _ c.write_all.result _ _ c.fill.auto.buffer c.put_text-length.ensures.text c.in_ok-read.ensures.front c.write_all.ensures.bytes
