-- `beginnings::enter` goes over the slots. The loop's invariant: those passed have entered.
use borrow.Author.Rules.{rules}
use Rattle.beginnings.proofs.Entrance.{entered_start, entered_more, entered_all}
use Rattle.beginnings.proofs.enter.Goals as goal

pub loop-j-init : goal.loop-j-init
loop-j-init c = (search rules, entered_start (search rules))

pub entered-requires : goal.entered-requires
entered-requires c =
    let p = c.requires in
    (search rules, search rules, search rules, p.5.rooted c.loop-j.j c.loop-j-test.true)

pub loop-j-preserved : goal.loop-j-preserved
loop-j-preserved c = (search rules, entered_more c.loop-j.invariant.1 (search rules) c.entered.ensures)

pub returns : goal.returns
returns c = entered_all c.loop-j.invariant.1 c.loop-j.invariant.0 c.loop-j-test.false
