-- `following::own_partners` meets its contract. The loop's invariant: the vertices passed have their own numbers.
use Rattle.partners.proofs.Tests.{Own}
use Rattle.following.proofs.own_partners.Given as goal

abbrev pub invariant-loop-v : goal.invariant-loop-v
invariant-loop-v l = Own l.matched l.count l.v
