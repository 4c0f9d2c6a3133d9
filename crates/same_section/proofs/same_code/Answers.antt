-- `same_section::same_code` meets its contract: each of its tests decides, by the laws of sections with the same code.
use Rattle.same_section.proofs.Comparing.{followed_code}
use Rattle.same_section.proofs.Answers.{front_differs, front_same, all_same, more_steps}
use Rattle.same_section.proofs.same_code.Goals as goal

pub returns-then-not-alike : goal.returns-then-not-alike
returns-then-not-alike c =
    let p = c.requires in
    front_differs c.args.a.numbers.now c.args.b.now p.0 p.1 p.2 c.alike.ensures c.if-not-alike.true

pub returns-then-at-eq1 : goal.returns-then-at-eq1
returns-then-at-eq1 c =
    let p = c.requires in
    all_same c.args.a.numbers.now c.args.b.now p.0 p.1 p.2 c.alike.ensures c.if-not-alike.false
    c.if-at-eq1.true c.alike-then-at-eq1.ensures

pub follow-requires : goal.follow-requires
follow-requires c =
    let p = c.requires in
    let B = front_same c.args.a.numbers.now c.args.b.now p.0 p.1 p.2 c.alike.ensures c.if-not-alike.false in
    (B, more_steps B.here c.if-at-eq1.false)

pub returns : goal.returns
returns c =
    let p = c.requires in
    let B = front_same c.args.a.numbers.now c.args.b.now p.0 p.1 p.2 c.alike.ensures c.if-not-alike.false in
    followed_code p.1 p.2 B.front c.follow.ensures
