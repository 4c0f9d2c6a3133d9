-- `input_parts::lengths_bad` tests the bounds of B first, then the length of the list.
use Rattle.input_parts.proofs.Head.{lengths_outside, lengths_inside}
use Rattle.input_parts.proofs.lengths_bad.Goals as goal

pub returns-then-not-is_within : goal.returns-then-not-is_within
returns-then-not-is_within c = lengths_outside c.args.input.now c.requires.0 c.is_within.ensures c.if-not-is_within.true

pub returns : goal.returns
returns c = lengths_inside c.args.input.now c.requires.0 c.is_within.ensures c.if-not-is_within.false
