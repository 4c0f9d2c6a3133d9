-- `sweep::lower_depth` lends the edges of the step from where they begin: they are there, since the section is, and what they give the
-- cleared row is the row of the depth.
use borrow.Author.Rules.{rules}
use Rattle.sweep.proofs.Sweeping.{near_by, vertices_few, step_asked, depth_done}
use Rattle.sweep.proofs.lower_depth.Goals as goal

pub overflow_add-symbols : goal.overflow_add-symbols
overflow_add-symbols c = search (rules, near_by c.requires.0 c.requires.1.inside c.requires.1.before_is)

pub slice_bounds-step-count-2 : goal.slice_bounds-step-count-2
slice_bounds-step-count-2 c = search (rules, near_by c.requires.0 c.requires.1.inside c.requires.1.before_is)

pub slice_bounds-step-start-2 : goal.slice_bounds-step-start-2
slice_bounds-step-start-2 c = search (rules, near_by c.requires.0 c.requires.1.inside c.requires.1.before_is)

pub clear-requires : goal.clear-requires
clear-requires c = vertices_few c.requires.0 (search (rules, c.requires.1.inside)) c.from.ensures

pub lower-requires : goal.lower-requires
lower-requires c = step_asked c.requires.0 c.requires.1 c.from-2.ensures c.clear.ensures.long

pub returns : goal.returns
returns c =
    depth_done c.requires.0 c.requires.1 c.from.ensures c.clear.ensures c.from-2.ensures
    c.lower.ensures
