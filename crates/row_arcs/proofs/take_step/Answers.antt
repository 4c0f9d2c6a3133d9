-- `row_arcs::take_step` writes the sums of the reduced rows of the step's check, by rising choice: these are the step's edges in order.
use mathlib.Core.Path.{sym}
use native.Mathlib.Omega.{arith}
use lib.Seq.{length-take-le}
use Rattle.reduced_rows.proofs.ReadingOff.{basis_fits}
use Rattle.row_arcs.proofs.StepSums.{arcs_fit, arcs_narrow, base_few, base_room, step_sums_lem}
use Rattle.row_arcs.proofs.take_step.Goals as goal

pub slice_bounds-check_all-end : goal.slice_bounds-check_all-end
slice_bounds-check_all-end c = sym (length-take-le _ _ (arcs_fit c.requires.0 c.arcs_of-arcs.ensures))

pub check_all-columns-requires : goal.check_all-columns-requires
check_all-columns-requires c = arcs_narrow c.requires.0 c.arcs_of-arcs.ensures

pub as_slice-requires : goal.as_slice-requires
as_slice-requires c = basis_fits c.reduced-reduced.ensures

pub put_sums-requires : goal.put_sums-requires
put_sums-requires c = (
  base_few c.requires.0 c.arcs_of-arcs.ensures c.check_all-columns.ensures c.reduced-reduced.ensures c.as_slice.ensures,
  omega (
    arith,
    base_room c.requires.0 c.arcs_of-arcs.ensures c.check_all-columns.ensures c.reduced-reduced.ensures c.as_slice.ensures,
    c.requires.1,
  ),
)

pub returns : goal.returns
returns c =
    step_sums_lem c.requires.0 c.arcs_of-arcs.ensures c.check_all-columns.ensures c.reduced-reduced.ensures c.as_slice.ensures
    c.put_sums.ensures
