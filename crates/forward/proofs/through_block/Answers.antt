-- `forward::through_block` makes the prices and the rows of the section, and takes the slots in, through and out. What each function leaves
-- is what the next one asks; that the items can leave is the caller's, for whatever went through. The limit is passed on.
use borrow.Author.Rules.{rules}
use native.Mathlib.Omega.{arith}
use Rattle.section_file.proofs.Seen.{header}
use Rattle.forward.proofs.Passing.{outer, enterable_at, leavable_at, through_of, passed_of}
use Rattle.forward.proofs.through_block.Goals as goal

pub put_prices-requires : goal.put_prices-requires
put_prices-requires c = let p = c.requires in let H = header p.0 in (omega (arith, H.n_is, H.n_le), p.9.room)

pub overflow_sub-at : goal.overflow_sub-at
overflow_sub-at c = (outer c.requires.0).order

pub enter-requires : goal.enter-requires
enter-requires c =
    let p = c.requires in
    let O = outer p.0 in
    (O.inside, O.few, search rules, search rules, p.9.items_long, enterable_at p.0 p.10)

pub leave-requires : goal.leave-requires
leave-requires c =
    let p = c.requires in
    let G = c.keep_section-grown.ensures.0 in
    let T = through_of p.0 c.put_prices.ensures c.put_rows.ensures.0 c.enter.ensures G in (
      omega (arith, G.most, p.4),
      search rules,
      G.long,
      search rules,
      search rules,
      leavable_at p.0 (p.11.leavable _ _ _ _ _ T),
    )

pub returns : goal.returns
returns c =
    let p = c.requires in
    let R = c.put_rows.ensures in
    let P = c.put_prices.ensures in
    let G = c.keep_section-grown.ensures.0 in
    let T = through_of p.0 P R.0 c.enter.ensures G in (
      passed_of p.0 T c.leave.ensures,
      c.keep_section-grown.ensures.1,
      record { room = P.room; even_long = R.1; odd_long = R.2; rows_are = R.0.long; items_long = G.long },
    )
