-- `input_parts::part_length` gives what a table's W asks for, or all that is left where that is less.
use Rattle.input_parts.proofs.Parts.{part_short, part_whole}
use Rattle.input_parts.proofs.part_length.Goals as goal

pub returns-then-rest-length : goal.returns-then-rest-length
returns-then-rest-length c =
    part_short c.args.rest.now c.word_count.ensures
    c.wide.ensures.0 c.wide.ensures.1 c.if-rest-length.true

pub returns : goal.returns
returns c =
    part_whole c.args.rest.now c.word_count.ensures
    c.wide.ensures.0 c.wide.ensures.1 c.if-rest-length.false
