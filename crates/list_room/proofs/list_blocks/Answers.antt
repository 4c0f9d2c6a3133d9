-- `list_room::list_blocks` names a number of paths out of bounds or the first short buffer, or lists where there is neither.
use Rattle.frame.specs.Frame.{frame}
use Rattle.room.proofs.Fitting.{some_needed, room_to_list}
use Rattle.path_list.proofs.Faults.{ends_count, ends_short, past_count, few_of}
use mathlib.Core.Path.{ap}
use mathlib.Core.Bool.{not}
use Rattle.list_room.proofs.list_blocks.Goals as goal

pub returns-then-not-is_within : goal.returns-then-not-is_within
returns-then-not-is_within c = λ k. ends_count (frame _ k _ _ _ _ _) _ _ _ _ _ c.is_within.ensures (ap not c.if-not-is_within.true)

pub needed_to_list-requires : goal.needed_to_list-requires
needed_to_list-requires c = (c.args.f.checked.framed.many, (few_of c.is_within.ensures (ap not c.if-not-is_within.false)).few)

pub returns-in-Some : goal.returns-in-Some
returns-in-Some c =
    let N = some_needed _ c.in-Some.ensures in
    λ k.
    past_count (frame _ k _ _ _ _ _) _ _ _ _ _ c.is_within.ensures (ap not c.if-not-is_within.false)
    (ends_short (frame _ k _ _ _ _ _) _ _ _ _ _ N.0 N.1)

pub list_with-requires : goal.list_with-requires
list_with-requires c =
    let W = few_of c.is_within.ensures (ap not c.if-not-is_within.false) in
    (W, room_to_list c.args.f.checked.framed.some W c.in_default.ensures)

pub returns : goal.returns
returns c =
    λ k.
    past_count (frame _ k _ _ _ _ _) _ _ _ _ _ c.is_within.ensures (ap not c.if-not-is_within.false) (c.list_with.ensures k)
