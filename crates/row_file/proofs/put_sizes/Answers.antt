-- `row_file::put_sizes` meets its contract: five bytes, one behind another, and each number fits.
use native.Mathlib.Omega.{arith}
use lib.ListN.{length-set}
use borrow.Author.Rules.{rules}
use Rattle.row_file.proofs.Pieces.{sizes_put}
use Rattle.row_file.proofs.put_sizes.Goals as goal

pub bounds-file-1 : goal.bounds-file-1
bounds-file-1 c = simp length-set (omega arith)

pub bounds-file-2 : goal.bounds-file-2
bounds-file-2 c = simp length-set (omega arith)

pub bounds-file-3 : goal.bounds-file-3
bounds-file-3 c = simp length-set (omega arith)

pub returns : goal.returns
returns c =
    let a = c.args in
    sizes_put a.file.now a.n a.bits a.count (search rules)
