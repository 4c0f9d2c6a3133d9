-- `following::all_close` meets its contract. The loop's invariant: the edges passed leave the right vertices.
use lib.ListN.{get_or}
use Rattle.edges.specs.Inner.Edges.{edge_in}
use Rattle.partners.specs.Inner.Following.{slot}
use Rattle.partners.proofs.Tests.{Agreeing}
use Rattle.following.proofs.all_close.Given as goal

abbrev pub invariant-loop-k : goal.invariant-loop-k
invariant-loop-k l = Agreeing (λ k. get_or l.starts (slot (edge_in l.step.pairs.now l.step.symbols.now k).to (edge_in l.step.pairs.now l.step.symbols.now k).symbol) 0)
    (λ k. get_or l.matched (edge_in l.step.pairs.now l.step.symbols.now k).from 0) l.step.count l.k
