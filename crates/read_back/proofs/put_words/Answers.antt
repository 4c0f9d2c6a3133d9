-- `read_back::put_words` meets its contract: the definition makes the same checks in the same order, so each way out is the case that the
-- tests before it leave.
use Rattle.read_back.proofs.Outcomes.{ends_many, ends_short, ends_file}
use Rattle.read_back.proofs.put_words.Goals as goal

pub returns-in_default : goal.returns-in_default
returns-in_default c = ends_many c.args.section.numbers.now c.args.file.now c.requires c.in_default.ensures

pub returns-then-file-needed : goal.returns-then-file-needed
returns-then-file-needed c = ends_short c.args.section.numbers.now c.args.file.now c.requires c.in-Some.ensures c.if-file-needed.true

pub returns : goal.returns
returns c =
    ends_file c.args.section.numbers.now c.args.file.now c.requires c.in-Some.ensures c.if-file-needed.false
    c.put_file.ensures
