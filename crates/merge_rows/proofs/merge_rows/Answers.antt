-- `merge_rows::merge_rows` checks sizes, widths and dependence in the definition's order. Rows that pass have a grown parity check, and its
-- reduced rows have the same table.
use Rattle.merge_rows.proofs.Entry.{bad_sizes, bad_row, check_asked, bad_dependent, base_asked, as_built}
use Rattle.reduced_rows.proofs.ReadingOff.{basis_fits}
use Rattle.merge_rows.proofs.merge_rows.Goals as goal

pub returns-then-not-sizes_fit : goal.returns-then-not-sizes_fit
returns-then-not-sizes_fit c = bad_sizes c.args.bits c.args.n c.args.rows.now c.sizes_fit.ensures _ _ _ c.if-not-sizes_fit.true

pub returns-in-Some : goal.returns-in-Some
returns-in-Some c =
    bad_row c.args.bits c.args.n c.args.rows.now c.sizes_fit.ensures c.if-not-sizes_fit.false
    c.first_wide.ensures _ _ _ c.in-Some.row c.in-Some.is

pub check-requires : goal.check-requires
check-requires c =
    check_asked c.args.bits c.args.n c.args.rows.now c.sizes_fit.ensures c.if-not-sizes_fit.false
    c.first_wide.ensures c.in_default.is

pub as_slice-requires : goal.as_slice-requires
as_slice-requires c = basis_fits c.reduced-reduced.ensures

pub returns-in-Err : goal.returns-in-Err
returns-in-Err c =
    bad_dependent c.args.bits c.args.n c.args.rows.now c.sizes_fit.ensures c.if-not-sizes_fit.false
    c.first_wide.ensures c.in_default.is _ _ _ c.in-Err.row c.in-Err.ensures

pub build_with_room-requires : goal.build_with_room-requires
build_with_room-requires c =
    base_asked c.args.bits c.args.n c.args.rows.now c.sizes_fit.ensures c.if-not-sizes_fit.false
    c.first_wide.ensures c.in_default.is c.in-Ok.ensures c.reduced-reduced.ensures c.as_slice.ensures

pub returns : goal.returns
returns c =
    as_built c.args.bits c.args.n c.args.rows.now c.sizes_fit.ensures c.if-not-sizes_fit.false
    c.first_wide.ensures c.in_default.is c.in-Ok.ensures c.reduced-reduced.ensures c.as_slice.ensures
    c.args.file.now c.args.map.now c.args.section.now c.build_with_room.ensures
