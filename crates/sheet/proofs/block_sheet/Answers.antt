-- `sheet::block_sheet` makes the text in a buffer of its own, which has room for every sheet, and copies it from there.
use native.Mathlib.Omega.{arith}
use Rattle.listing.proofs.Outcomes.{end_inside, end_taken}
use Rattle.sheet.proofs.Whole.{copied}
use borrow.Author.Rules.{rules}
use Rattle.sheet.proofs.block_sheet.Goals as goal

pub slice_bounds-made-end : goal.slice_bounds-made-end
slice_bounds-made-end c =
    let m = c.put_sheet-length.ensures in
    end_inside m.put (omega (arith, m.short))

pub slice_bounds-put_whole-end : goal.slice_bounds-put_whole-end
slice_bounds-put_whole-end c =
    let m = c.put_sheet-length.ensures in
    end_taken m.put (omega (arith, m.short))

pub returns : goal.returns
returns c = copied c.args.input.now c.args.text.now c.put_sheet-length.ensures (search rules) c.put_whole.ensures
