-- `section::put_text` lends the whole buffer, which is long enough for every text, so the text stands whole at its front.
use Rattle.std.proofs.Common.{arith}
use Rattle.lines.specs.Text.{text_of}
use Rattle.text_buffer.specs.Listing.{listing}
use Rattle.text_buffer.proofs.Buffer.{whole_front, never_refused}
use Rattle.listing.proofs.Outcomes.{listed_inside}
use Rattle.listing.proofs.Short.{text_short}
use Rattle.section.proofs.put_text.Goals as goal

pub unreachable-requires : goal.unreachable-requires
unfolding listing
unreachable-requires c =
    let file = c.args.file.now in
    never_refused (text_of file) c.args.text.now (omega (arith, text_short file, c.told-text)) c.listing.ensures
    c.in-Err-Short.field-0 c.in-Err-Short.is

pub returns-clause-inside : goal.returns-clause-inside
returns-clause-inside c = listed_inside _ _ c.listing.ensures c.in-Ok.is

pub returns-clause-text : goal.returns-clause-text
unfolding listing
returns-clause-text c =
    let file = c.args.file.now in
    whole_front (text_of file) c.args.text.now (omega (arith, text_short file, c.told-text)) c.listing.ensures c.in-Ok.is
