-- `usable::front_part` meets its contract: the first condition that fails decides, and where none fails the section is usable.
use mathlib.Core.Path.{◌∙◌}
use Rattle.usable.proofs.Steps.{n_few, laid, part_sizes, part_counts, part_cut, part_states, part_steps, part_usable}
use mathlib.Core.Path.{ap}
use mathlib.Core.Bool.{not}
use Rattle.usable.proofs.front_part.Goals as goal

pub returns-then-not-sizes_right : goal.returns-then-not-sizes_right
returns-then-not-sizes_right c = part_sizes _ c.sizes_right.ensures (ap not c.if-not-sizes_right.true)

pub counts_right-requires : goal.counts_right-requires
counts_right-requires c = let n = c.from-n.ensures ∙ c.number.ensures in (n, n_few _ c.sizes_right.ensures (ap not c.if-not-sizes_right.false) n)

pub returns-then-not-counts_right : goal.returns-then-not-counts_right
returns-then-not-counts_right c = part_counts _ c.counts_right.ensures (ap not c.if-not-counts_right.true)

pub view_of-at-requires : goal.view_of-at-requires
view_of-at-requires c = let n = c.from-n.ensures ∙ c.number.ensures in (n, n_few _ c.sizes_right.ensures (ap not c.if-not-sizes_right.false) n)

pub returns-then-l-at : goal.returns-then-l-at
returns-then-l-at c = part_cut _ c.view_of-at.ensures c.if-l-at.true

pub states_right-requires : goal.states_right-requires
states_right-requires c =
    laid _ c.view_of-at.ensures c.sizes_right.ensures (ap not c.if-not-sizes_right.false) c.counts_right.ensures (ap not c.if-not-counts_right.false)
    c.if-l-at.false

pub returns-then-not-states_right : goal.returns-then-not-states_right
returns-then-not-states_right c = part_states _ c.states_right.ensures (ap not c.if-not-states_right.true)

pub steps_right-requires : goal.steps_right-requires
steps_right-requires c =
    laid _ c.view_of-at.ensures c.sizes_right.ensures (ap not c.if-not-sizes_right.false) c.counts_right.ensures (ap not c.if-not-counts_right.false)
    c.if-l-at.false

pub returns-then-not-steps_right : goal.returns-then-not-steps_right
returns-then-not-steps_right c = part_steps _ c.view_of-at.ensures c.steps_right.ensures (ap not c.if-not-steps_right.true)

pub returns : goal.returns
returns c =
    part_usable _ c.view_of-at.ensures c.if-l-at.false c.sizes_right.ensures (ap not c.if-not-sizes_right.false)
    c.counts_right.ensures (ap not c.if-not-counts_right.false) c.states_right.ensures (ap not c.if-not-states_right.false)
    c.steps_right.ensures (ap not c.if-not-steps_right.false)
