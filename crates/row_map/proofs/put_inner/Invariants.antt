-- `row_map::put_inner` puts the inner depths one behind another: the loop keeps that those before t stand.
use Prim.Native.Nat.{◌≤◌}
use Rattle.row_map.specs.Inner.Maps.{InnerPut}
use Rattle.row_map.proofs.put_inner.Given as goal

abbrev pub invariant-loop-t : goal.invariant-loop-t
invariant-loop-t l = InnerPut l.bits l.n l.rows l.columns l.w l.initial.map l.map l.dims l.t × (l.t ≤ l.n)
