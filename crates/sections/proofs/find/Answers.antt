-- `sections::find` makes the tests of the definition in their order: K, section after section, what is left over. The loop's invariant: the
-- sections before i are usable, and their views and places are known.
use borrow.Author.Rules.{rules}
use mathlib.Core.Path.{ap}
use mathlib.Core.Bool.{not}
use Rattle.sections.proofs.Sections.{sections_start, sections_found, sections_fit, sections_more, many, short, left, all}
use Rattle.sections.proofs.find.Goals as goal

pub returns-then-not-is_within : goal.returns-then-not-is_within
returns-then-not-is_within c = many c.is_within.ensures (ap not c.if-not-is_within.true)

pub loop-i-init : goal.loop-i-init
loop-i-init c = sections_start _ c.is_within.ensures (ap not c.if-not-is_within.false)

pub returns-in_default : goal.returns-in_default
returns-in_default c =
    short c.is_within.ensures (ap not c.if-not-is_within.false)
    (sections_found c.loop-i.invariant c.in_default.ensures) c.loop-i-test.true

pub overflow_add-at : goal.overflow_add-at
overflow_add-at c = search (rules, sections_fit c.loop-i.invariant c.in-Some.ensures)

pub loop-i-preserved : goal.loop-i-preserved
loop-i-preserved c = sections_more c.loop-i.invariant c.in-Some.ensures c.loop-i-test.true

pub returns-then-at-sections : goal.returns-then-at-sections
returns-then-at-sections c =
    left c.is_within.ensures (ap not c.if-not-is_within.false) c.loop-i.invariant (search rules) c.if-at-sections.true

pub returns : goal.returns
returns c =
    all c.is_within.ensures (ap not c.if-not-is_within.false) c.loop-i.invariant (search rules) c.if-at-sections.false
