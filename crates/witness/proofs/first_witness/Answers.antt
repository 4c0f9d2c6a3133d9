-- `witness::first_witness` meets its contract. Both loops keep that no triple before the present one refutes the table.
use mathlib.Core.Path.{sym, subst, ◌∙◌}
use native.Mathlib.Omega.{arith}
use Rattle.lacking.specs.Inner.Search.{FirstWith}
use Rattle.lacking.proofs.Search.{before_none, before_more, none_left}
use Rattle.lacking.proofs.Passing.{tries_none, tries_lt, tries_asked, tries_hit, tries_end}
use Rattle.witness.proofs.first_witness.Goals as goal

pub search-init : goal.search-init
search-init c = before_none _ _

pub loop-next-init : goal.loop-next-init
loop-next-init c =
    tries_none (record { rows = c.requires; chains = c.put_next.ensures; i_lt = c.if-i-w.false; before = c.search.invariant }) c.from-j.ensures

pub first_lacking-requires : goal.first_lacking-requires
first_lacking-requires c = tries_asked c.loop-next.invariant c.put_next.ensures (sym c.to_try.ensures ∙ c.loop-next-test.true)

pub overflow_add-j : goal.overflow_add-j
overflow_add-j c = omega (arith, tries_lt c.loop-next.invariant (sym c.to_try.ensures ∙ c.loop-next-test.true), c.requires.few)

pub loop-next-smaller : goal.loop-next-smaller
loop-next-smaller c = omega (arith, tries_lt c.loop-next.invariant (sym c.to_try.ensures ∙ c.loop-next-test.true), c.requires.few)

pub search-preserved : goal.search-preserved
search-preserved c = before_more c.search.invariant c.if-i-w.false (tries_end c.loop-next.invariant (sym c.to_try.ensures ∙ c.loop-next-test.false))

pub returns-then-i-w : goal.returns-then-i-w
returns-then-i-w c = none_left c.search.invariant c.if-i-w.true

pub returns-in-Some : goal.returns-in-Some
returns-in-Some c =
    tries_hit c.loop-next.invariant (sym c.to_try.ensures ∙ c.loop-next-test.true)
    (subst (FirstWith _ _ _ _) c.in-Some.is c.first_lacking.ensures)
