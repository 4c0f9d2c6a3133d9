-- `row_states::put_outer` takes up the values, reads off their basis, writes the states in order, ranks the values among them, and
-- writes the sums of the ranks: what stands then is the vertices, as `OuterDepth` says.
use Rattle.reduced_rows.proofs.ReadingOff.{basis_fits}
use Rattle.row_states.proofs.OuterDepth.{values_narrow, basis_asked, keys_inside, keys_length, keys_few, ranks_length, ranks_asked}
use Rattle.row_states.proofs.OuterDepth.{outer_put}
use borrow.Author.Rules.{rules}
use Rattle.row_states.proofs.put_outer.Goals as goal

pub check_all-columns-requires : goal.check_all-columns-requires
check_all-columns-requires c = values_narrow c.requires

pub as_slice-requires : goal.as_slice-requires
as_slice-requires c = basis_fits c.reduced-reduced.ensures

pub put_sums-count-requires : goal.put_sums-count-requires
put_sums-count-requires c = basis_asked c.requires c.check_all-columns.ensures c.reduced-reduced.ensures c.as_slice.ensures

pub slice_bounds-keys-end : goal.slice_bounds-keys-end
slice_bounds-keys-end c = keys_inside c.requires c.check_all-columns.ensures c.reduced-reduced.ensures c.as_slice.ensures c.put_sums-count.ensures (search rules)

pub slice_bounds-ranks_of-end : goal.slice_bounds-ranks_of-end
slice_bounds-ranks_of-end c = keys_length c.requires c.check_all-columns.ensures c.reduced-reduced.ensures c.as_slice.ensures c.put_sums-count.ensures (search rules)

pub ranks_of-ranks-requires : goal.ranks_of-ranks-requires
ranks_of-ranks-requires c = (
  c.requires.few,
  keys_few c.requires c.check_all-columns.ensures c.reduced-reduced.ensures c.as_slice.ensures c.put_sums-count.ensures (search rules),
)

pub slice_bounds-put_sums-end-2 : goal.slice_bounds-put_sums-end-2
slice_bounds-put_sums-end-2 c =
    ranks_length c.requires c.check_all-columns.ensures c.reduced-reduced.ensures c.as_slice.ensures c.put_sums-count.ensures (search rules)
    c.ranks_of-ranks.ensures

pub put_sums-requires : goal.put_sums-requires
put_sums-requires c =
    ranks_asked c.requires c.check_all-columns.ensures c.reduced-reduced.ensures c.as_slice.ensures c.put_sums-count.ensures (search rules)
    c.ranks_of-ranks.ensures

pub returns : goal.returns
returns c =
    outer_put c.requires c.check_all-columns.ensures c.reduced-reduced.ensures c.as_slice.ensures c.put_sums-count.ensures (search rules)
    c.ranks_of-ranks.ensures c.put_sums.ensures
