-- `following::own_partners` meets its contract. The loop's invariant: the vertices passed have their own numbers.
use mathlib.Core.Path.{refl}
use borrow.Author.Rules.{rules}
use Rattle.partners.proofs.Tests.{own_start, own_next, own_all}
use Rattle.following.proofs.own_partners.Goals as goal

pub loop-v-init : goal.loop-v-init
loop-v-init c = own_start c.requires refl

pub loop-v-preserved : goal.loop-v-preserved
loop-v-preserved c = own_next c.loop-v.invariant c.loop-v-test.true

pub returns : goal.returns
returns c = own_all c.loop-v.invariant (search rules)
