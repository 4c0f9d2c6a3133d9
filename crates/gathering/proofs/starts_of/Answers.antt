-- `gathering::starts_of` meets its contract. The loop's invariant: the edges from k on are noted.
use mathlib.Core.Path.{refl, ap}
use native.Mathlib.Omega.{arith}
use Prim.Native.Nat.{◌-◌}
use Rattle.edges.specs.declared.Edge.{Edge}
use Rattle.gathering.proofs.Growing.{noted_start, noted_next, noted_all}
use borrow.Author.Rules.{rules}
use Rattle.gathering.proofs.starts_of.Goals as goal

pub loop-k-init : goal.loop-k-init
loop-k-init c = noted_start _ _ refl

pub loop-k-preserved : goal.loop-k-preserved
loop-k-preserved c =
    noted_next c.loop-k.invariant c.loop-k-test.true (ap (λ (e : Edge). e.from) c.edge_at-e.ensures)
    (c.requires.small.from_small (c.loop-k.k - 1) (omega (arith, c.loop-k.invariant.inside, c.loop-k-test.true)))

pub returns : goal.returns
returns c = noted_all c.loop-k.invariant (search rules)
