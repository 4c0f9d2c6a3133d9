-- `path_list::list_with` fills the cost table; where the start state has a path, the paths are listed, and elsewhere the table is all.
use borrow.Author.Rules.{rules}
use Rattle.frame.proofs.Checks.{of_checked}
use Rattle.decoding.proofs.Ends.{ready}
use Rattle.path_list.proofs.Held.{with_notes, with_none, with_table, with_paths}
use Rattle.path_list.proofs.list_with.Goals as goal

pub fill-to_pay-requires : goal.fill-to_pay-requires
fill-to_pay-requires c = (ready c.args.f.checked, c.ends_in-ends.ensures.long, c.requires.1.for_costs)

pub settle-requires : goal.settle-requires
settle-requires c =
    let pre = c.requires in
    with_notes (of_checked c.args.f.checked) c.from.ensures c.ends_in-ends.ensures pre.0 pre.1 c.fill-to_pay.ensures

pub bounds-to_pay-from : goal.bounds-to_pay-from
bounds-to_pay-from c = let below = c.args.f.checked.framed.start_below in search rules

pub returns-then-to_pay-from : goal.returns-then-to_pay-from
returns-then-to_pay-from c =
    let pre = c.requires in
    with_none (of_checked c.args.f.checked) c.from.ensures c.ends_in-ends.ensures pre.0 pre.1 c.fill-to_pay.ensures
    c.from-2.ensures c.settle.ensures c.if-to_pay-from.true

pub list_paths-requires : goal.list_paths-requires
list_paths-requires c =
    let pre = c.requires in
    let T = with_table (of_checked c.args.f.checked) c.from.ensures c.ends_in-ends.ensures pre.0 pre.1 c.fill-to_pay.ensures
    c.from-2.ensures c.settle.ensures c.if-to_pay-from.false in
    (T, pre.0, pre.1.for_distances, pre.1.for_labels, pre.1.for_goals)

pub returns : goal.returns
returns c =
    let pre = c.requires in
    with_paths (of_checked c.args.f.checked) c.from.ensures c.ends_in-ends.ensures pre.0 pre.1 c.fill-to_pay.ensures
    c.from-2.ensures c.settle.ensures c.if-to_pay-from.false c.list_paths.ensures
