-- `depths::put_firsts` meets its contract. The loop keeps the first words of the words before i, and for each key the first of them that
-- has it.
use borrow.Author.Rules.{rules}
use native.Mathlib.Omega.{arith}
use Rattle.depths.proofs.Firsts.{firsts_none, firsts_key, firsts_lt, firsts_more}
use Rattle.depths.proofs.put_firsts.Goals as goal

pub loop-i-init : goal.loop-i-init
loop-i-init c = firsts_none _ _ _ _ (search rules) c.requires.1

pub bounds-seen-key : goal.bounds-seen-key
bounds-seen-key c =
    omega (
      arith,
      firsts_lt c.loop-i.invariant c.from.ensures c.symbol.ensures c.from-in-loop-i.ensures
          (search rules),
    )

pub bounds-seen-key-in-loop-i : goal.bounds-seen-key-in-loop-i
bounds-seen-key-in-loop-i c =
    omega (
      arith,
      firsts_lt c.loop-i.invariant c.from.ensures c.symbol.ensures c.from-in-loop-i.ensures
          (search rules),
    )

pub loop-i-preserved : goal.loop-i-preserved
loop-i-preserved c =
    firsts_more c.loop-i.invariant
    (firsts_key c.loop-i.invariant c.from.ensures c.symbol.ensures c.from-in-loop-i.ensures)
    c.noted-first.ensures (search rules)
