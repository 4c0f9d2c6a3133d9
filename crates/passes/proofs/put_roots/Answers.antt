-- `passes::put_roots` goes over the roots. The loop's invariant: the states of the roots passed have their costs and notes, and the others
-- no path.
use borrow.Author.Rules.{rules}
use mathlib.Core.Path.{refl}
use native.Mathlib.Omega.{arith}
use Rattle.section_file.proofs.Seen.{roots_at}
use Rattle.passes.proofs.Ends.{roots_start, roots_more, roots_end}
use Rattle.passes.proofs.put_roots.Goals as goal

pub overflow_sub-count : goal.overflow_sub-count
overflow_sub-count c = (roots_at c.requires.0).le

pub loop-v-init : goal.loop-v-init
loop-v-init c = roots_start (search rules)

pub overflow_add-roots : goal.overflow_add-roots
overflow_add-roots c = search (rules, roots_at c.requires.0)

pub offset_bounds-l-roots : goal.offset_bounds-l-roots
offset_bounds-l-roots c = search (rules, roots_at c.requires.0)

pub bounds-l-roots : goal.bounds-l-roots
bounds-l-roots c = search (rules, roots_at c.requires.0)

pub cost_of-requires : goal.cost_of-requires
cost_of-requires c = c.requires.1.small c.loop-v.v (omega (arith, (roots_at c.requires.0).count_is_lem))

pub loop-v-preserved : goal.loop-v-preserved
loop-v-preserved c =
    roots_more c.requires.0 c.loop-v.invariant c.loop-v-test.true c.from-s.ensures refl c.cost_of.ensures c.note_of.ensures

pub returns : goal.returns
returns c = roots_end c.requires.0 c.loop-v.invariant (search rules) (search rules)
