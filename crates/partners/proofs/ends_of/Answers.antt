-- `partners::ends_of` meets its contract. The loop's invariant: for the start and the symbol of each edge passed the array
-- has its end.
use mathlib.Core.Path.{refl, ap}
use Prim.Native.Nat.{◌+◌, ◌*◌}
use borrow.Author.Rules.{rules}
use Rattle.trellis.specs.Bounds.{most_q}
use Rattle.edges.specs.declared.Edge.{Edge}
use Rattle.twins.proofs.Marking.{small_of}
use Rattle.partners.proofs.Ends.{passing_start, passing_next, passing_all}
use Rattle.partners.proofs.ends_of.Goals as goal

pub loop-k-init : goal.loop-k-init
loop-k-init c = passing_start refl

pub loop-k-preserved : goal.loop-k-preserved
loop-k-preserved c =
    passing_next (small_of c.args.back c.requires.0) c.requires.1 c.loop-k.invariant c.loop-k-test.true
    (ap (λ (e : Edge). most_q * e.from + e.symbol) c.edge_met-e.ensures) (ap (λ (e : Edge). e.to) c.edge_met-e.ensures)

pub returns : goal.returns
returns c = passing_all (small_of c.args.back c.requires.0) c.requires.1 c.loop-k.invariant (search rules)
