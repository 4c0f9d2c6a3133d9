-- `row_depth::put_depth` writes the vertex of word 0, then doubles the vertices and the syndromes row by row: the loop keeps that
-- those of the first 2 ^ b words stand, as `Putting` says.
use lib.ListN.{length}
use Rattle.row_depth.specs.Inner.Depth.{syndrome_of}
use Rattle.row_depth.proofs.Putting.{Putting}
use Rattle.row_depth.proofs.put_depth.Given as goal

abbrev pub invariant-loop-row : goal.invariant-loop-row
invariant-loop-row l = Putting (syndrome_of l.columns l.rows l.cut) (length l.rows) l.initial.map l.place l.seen l.map l.dim l.w l.row-index
