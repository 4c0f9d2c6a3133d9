-- `decoding::decode_with` goes backward, forward, and turns the notes into costs: what is left is what the frame's best path gives.
use Rattle.frame.proofs.Checks.{of_checked}
use Rattle.decoding.proofs.Ends.{ready}
use Rattle.decoding.proofs.Held.{with_notes, with_none, with_way, with_labels, with_path}
use Rattle.decoding.proofs.decode_with.Goals as goal

pub fill-to_pay-requires : goal.fill-to_pay-requires
fill-to_pay-requires c = (ready c.args.f.checked, c.ends_in-ends.ensures.long, c.requires.for_costs)

pub settle-requires : goal.settle-requires
settle-requires c =
    with_notes (of_checked c.args.f.checked) c.from-from.ensures c.from.ensures c.ends_in-ends.ensures c.requires
    c.fill-to_pay.ensures

pub returns-then-distance : goal.returns-then-distance
returns-then-distance c =
    with_none (of_checked c.args.f.checked) c.from-from.ensures c.from.ensures c.ends_in-ends.ensures c.requires
    c.fill-to_pay.ensures
    c.if-distance.true c.settle.ensures

pub follow-requires : goal.follow-requires
follow-requires c =
    with_way (of_checked c.args.f.checked) c.from-from.ensures c.from.ensures c.ends_in-ends.ensures c.requires
    c.fill-to_pay.ensures
    c.if-distance.false

pub put_masks-requires : goal.put_masks-requires
put_masks-requires c =
    with_labels (of_checked c.args.f.checked) c.from-from.ensures c.from.ensures c.ends_in-ends.ensures c.requires
    c.fill-to_pay.ensures
    c.if-distance.false c.follow.ensures

pub settle-requires-2 : goal.settle-requires-2
settle-requires-2 c =
    with_notes (of_checked c.args.f.checked) c.from-from.ensures c.from.ensures c.ends_in-ends.ensures c.requires
    c.fill-to_pay.ensures

pub returns : goal.returns
returns c =
    with_path (of_checked c.args.f.checked) c.from-from.ensures c.from.ensures c.ends_in-ends.ensures c.requires
    c.fill-to_pay.ensures
    c.if-distance.false c.follow.ensures c.put_masks.ensures c.settle-2.ensures
