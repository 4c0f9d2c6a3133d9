-- `row_sums::put_sums` writes the empty sum, then doubles what stands by one row after another: the loop keeps that the sums of the
-- rows so far are written.
use mathlib.Core.Path.{refl}
use lib.ListN.{length}
use lib.Pow.{pow_pos}
use borrow.Author.Rules.{rules}
use Rattle.row_sums.proofs.AllSums.{sums_none, sums_few, sums_inside, sums_room, sums_next, sums_length, sums_end}
use Rattle.row_sums.proofs.put_sums.Goals as goal

pub offset_bounds-buffer-place : goal.offset_bounds-buffer-place
offset_bounds-buffer-place c = search (rules, pow_pos (length c.args.rows.now))

pub bounds-buffer-place : goal.bounds-buffer-place
bounds-buffer-place c = search (rules, pow_pos (length c.args.rows.now))

pub loop-row-init : goal.loop-row-init
loop-row-init c = sums_none c.args.rows.now c.args.buffer.now c.args.place refl c.requires.1

pub double-requires : goal.double-requires
double-requires c = sums_room c.loop-row.invariant (search rules)

pub overflow_add-w : goal.overflow_add-w
overflow_add-w c = search (rules, sums_few c.loop-row.invariant c.requires.0)

pub loop-row-preserved : goal.loop-row-preserved
loop-row-preserved c = sums_next c.loop-row.invariant (search rules) c.double.ensures

pub overflow_add-result : goal.overflow_add-result
overflow_add-result c =
    let S = c.loop-row.invariant in
    search (rules, sums_inside S, sums_length S c.args.buffer.now refl)

pub returns : goal.returns
returns c = sums_end c.loop-row.invariant _ refl (search rules)
