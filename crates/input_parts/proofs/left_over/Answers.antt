-- `input_parts::left_over` holds the end of the last table against that of the input.
use Rattle.input_parts.proofs.Head.{some_left, none_left}
use Rattle.input_parts.proofs.left_over.Goals as goal

pub returns-then-end-length : goal.returns-then-end-length
returns-then-end-length c = some_left c.args.end c.args.length c.requires c.if-end-length.true c.one_value.ensures

pub returns : goal.returns
returns c = none_left c.args.end c.args.length c.args.sections c.if-end-length.false
