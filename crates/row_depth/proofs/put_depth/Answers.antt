-- `row_depth::put_depth` writes the vertex of word 0, then doubles the vertices and the syndromes row by row: the loop keeps that
-- those of the first 2 ^ b words stand, as `Putting` says.
use Rattle.rows.proofs.Vertices.{cut_syndrome_adds}
use Rattle.row_depth.proofs.Putting.{first_place, putting_none, row_value, putting_next, row_room, seen_room}
use Rattle.row_depth.proofs.Putting.{seen_inside, found_inside, dim_few}
use Rattle.row_depth.proofs.Finding.{found_is}
use Rattle.row_depth.proofs.Putting.{putting_end}
use mathlib.Core.Path.{sym}
use lib.Seq.{length-take-le}
use borrow.Author.Rules.{rules}
use Rattle.row_depth.proofs.put_depth.Goals as goal

pub offset_bounds-map-place : goal.offset_bounds-map-place
offset_bounds-map-place c = search (rules, first_place c.requires)

pub bounds-map-place : goal.bounds-map-place
bounds-map-place c = first_place c.requires

pub loop-row-init : goal.loop-row-init
loop-row-init c = putting_none c.requires (cut_syndrome_adds _ _ _) _ (search rules) (search rules)

pub before_cut-requires : goal.before_cut-requires
before_cut-requires c = c.requires.near

pub slice_bounds-seen-end : goal.slice_bounds-seen-end
slice_bounds-seen-end c =
    let asked = c.requires in
    seen_inside asked c.loop-row.invariant c.loop-row-test.true

pub slice_bounds-find-end : goal.slice_bounds-find-end
slice_bounds-find-end c =
    let asked = c.requires in
    sym (length-take-le _ _ (seen_inside asked c.loop-row.invariant c.loop-row-test.true))

pub added-c-requires : goal.added-c-requires
added-c-requires c =
    let asked = c.requires in
    let l = seen_inside asked c.loop-row.invariant c.loop-row-test.true in (
      found_inside asked c.loop-row.invariant c.loop-row-test.true _ _ (found_is _ _ _ _ l c.find-found.ensures),
      search (rules, dim_few asked c.loop-row.invariant c.loop-row-test.true),
    )

pub counted-dim-requires : goal.counted-dim-requires
counted-dim-requires c =
    let asked = c.requires in
    search (rules, dim_few asked c.loop-row.invariant c.loop-row-test.true)

pub double-requires : goal.double-requires
double-requires c =
    let asked = c.requires in
    row_room asked c.loop-row.invariant c.loop-row-test.true

pub double-requires-in-loop-row : goal.double-requires-in-loop-row
double-requires-in-loop-row c =
    let asked = c.requires in
    seen_room asked c.loop-row.invariant c.loop-row-test.true

pub overflow_add-w : goal.overflow_add-w
overflow_add-w c =
    let asked = c.requires in
    search (rules, seen_room asked c.loop-row.invariant c.loop-row-test.true, c.loop-row.invariant.places)

pub loop-row-preserved : goal.loop-row-preserved
loop-row-preserved c =
    let asked = c.requires in
    putting_next (cut_syndrome_adds _ _ _) c.loop-row.invariant (search rules)
    (row_value _ _ _ _ c.before_cut.ensures c.syndrome-x.ensures)
    _ (found_is _ _ _ _ (seen_inside asked c.loop-row.invariant c.loop-row-test.true) c.find-found.ensures) c.added-c.ensures c.counted-dim.ensures
    c.double.ensures c.double-in-loop-row.ensures

pub returns : goal.returns
returns c = putting_end c.requires c.loop-row.invariant (search rules)
