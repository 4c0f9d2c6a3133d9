-- `beginnings::entered` finds the root of a slot's state, which is there, so its number is that of a vertex.
use borrow.Author.Rules.{rules}
use native.Mathlib.Omega.{arith}
use Rattle.beginnings.proofs.Entrance.{root_here, entered_one}
use Rattle.beginnings.proofs.entered.Goals as goal

pub coded-requires : goal.coded-requires
coded-requires c =
    let h = root_here c.args.x c.code_of.ensures c.vertex_of.ensures c.in-Some.ensures in
    (search rules, omega (arith, h, c.requires.1))

pub returns : goal.returns
returns c =
    entered_one c.args.x c.code_of.ensures c.vertex_of.ensures c.in-Some.ensures
    c.cost_of.ensures.0 c.coded.ensures c.item.ensures
