-- `one_step::step_within` meets its contract. The loop's invariant: what is kept is what is kept of the candidates of the items passed,
-- within the limit, which came one after another.
use mathlib.Core.Path.{sym}
use native.Mathlib.Omega.{arith}
use Prim.Native.Nat.{◌<◌}
use borrow.Author.Rules.{rules}
use lib.Seq.{get_or-take}
use lib.ListN.{take}
use Rattle.trellis.specs.Lists.{run}
use Rattle.edges.specs.Inner.Edges.{edge_in}
use Rattle.one_step.proofs.Limits.{limited_items, stepped_same}
use Rattle.one_step.proofs.Streaming.{stepping_start, stepping_next, stepping_all}
use Rattle.one_step.proofs.step_within.Goals as goal

pub loop-x-init : goal.loop-x-init
loop-x-init c = let p = c.requires in stepping_start p.1.some (search rules)

pub keep_item-held-requires : goal.keep_item-held-requires
keep_item-held-requires c = let p = c.requires in (p.0, p.1, c.loop-x.invariant.kept, p.3, p.4)

pub loop-x-preserved : goal.loop-x-preserved
loop-x-preserved c =
    let p = c.requires in
    let inside : c.loop-x.x-index < c.args.have = search rules in
    stepping_next c.loop-x.invariant inside (omega (arith, p.1.few, p.2)) (get_or-take c.args.have c.args.old.now c.loop-x.x-index 0 inside)
    c.keep_item-held.ensures

pub returns : goal.returns
returns c =
    let a = c.args in
    stepped_same
    (sym (limited_items a.costs.rows.now a.costs.prices.now a.costs.t a.limit (run (edge_in a.step.pairs.now a.step.symbols.now) 0 a.step.count)
    (take a.have a.old.now)))
    (stepping_all c.loop-x.invariant (search rules))
