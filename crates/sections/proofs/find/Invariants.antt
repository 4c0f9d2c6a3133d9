-- `sections::find` makes the tests of the definition in their order: K, section after section, what is left over. The loop's invariant: the
-- sections before i are usable, and their views and places are known.
use Rattle.sections.proofs.Sections.{InSections}
use Rattle.sections.proofs.find.Given as goal

abbrev pub invariant-loop-i : goal.invariant-loop-i
invariant-loop-i l = InSections l.sections l.starts l.views l.k l.i l.at
