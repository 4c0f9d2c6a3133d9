-- `listing::put_text` puts the refusal of a file that is too long, or what the answer of measuring comes to.
use Rattle.listing.proofs.Outcomes.{made_long, made_measured}
use Rattle.listing.proofs.put_text.Goals as goal

pub returns-then-file-gt-MOST_BYTES : goal.returns-then-file-gt-MOST_BYTES
returns-then-file-gt-MOST_BYTES c = made_long c.args.file.now c.if-file-gt-MOST_BYTES.true (c.put_refusal.ensures _ c.returned.ensures)

pub returns : goal.returns
returns c =
    made_measured c.args.file.now c.if-file-gt-MOST_BYTES.false c.measure-answer.ensures
    c.word_count.ensures c.wide.ensures.0 c.put_answer.ensures
