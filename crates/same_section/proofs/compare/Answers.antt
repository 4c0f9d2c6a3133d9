-- `same_section::compare` meets its contract: where the second list is no section that is the answer, and else the two are compared.
use mathlib.Core.Path.{sym, ◌∙◌}
use Rattle.whole_section.proofs.Sections.{whole_filled, whole_none}
use Rattle.same_section.proofs.Answers.{second_unusable, both_compared}
use Rattle.same_section.proofs.compare.Goals as goal

pub same_code-requires : goal.same_code-requires
same_code-requires c =
    let F = whole_filled c.args.b.now c.in-Some.ensures in
    (c.requires.0, c.requires.1, F.is_section_lem)

pub returns-then-same_code : goal.returns-then-same_code
returns-then-same_code c =
    let F = whole_filled c.args.b.now c.in-Some.ensures in
    both_compared c.args.a.numbers.now c.args.b.now c.requires.1 F.is_section_lem (sym c.if-same_code.true ∙ c.same_code.ensures)

pub returns-else-same_code : goal.returns-else-same_code
returns-else-same_code c =
    let F = whole_filled c.args.b.now c.in-Some.ensures in
    both_compared c.args.a.numbers.now c.args.b.now c.requires.1 F.is_section_lem (sym c.if-same_code.false ∙ c.same_code.ensures)

pub returns-in-None : goal.returns-in-None
returns-in-None c = second_unusable c.args.a.numbers.now c.args.b.now c.requires.1 (whole_none c.args.b.now c.in-None.ensures)
