-- `input_parts::check_head` makes the tests of the definition in their order.
use Rattle.input_parts.proofs.Head.{head_sections, head_lengths, head_index, head_fine}
use Rattle.input_parts.proofs.check_head.Goals as goal

pub returns-then-not-is_within : goal.returns-then-not-is_within
returns-then-not-is_within c = head_sections c.args.input.now c.requires c.is_within.ensures c.if-not-is_within.true c.one_value.ensures

pub returns-then-lengths_bad : goal.returns-then-lengths_bad
returns-then-lengths_bad c =
    head_lengths c.args.input.now c.requires c.is_within.ensures c.if-not-is_within.false c.lengths_bad.ensures
    c.if-lengths_bad.true c.one_value-then-lengths_bad.ensures

pub returns-in-Some : goal.returns-in-Some
returns-in-Some c =
    head_index c.args.input.now c.requires c.is_within.ensures c.if-not-is_within.false c.lengths_bad.ensures
    c.if-lengths_bad.false c.first_index.ensures c.in-Some.is c.one_value-in-Some.ensures

pub returns : goal.returns
returns c =
    head_fine c.args.input.now c.requires c.is_within.ensures c.if-not-is_within.false c.lengths_bad.ensures
    c.if-lengths_bad.false c.first_index.ensures c.in_default.is
