-- `assemble::put_header` writes three numbers.
use native.Mathlib.Omega.{arith}
use lib.ListN.{length-set}
use Rattle.assemble.proofs.put_header.Goals as goal

pub bounds-sizes-1 : goal.bounds-sizes-1
bounds-sizes-1 c = simp length-set (omega arith)
