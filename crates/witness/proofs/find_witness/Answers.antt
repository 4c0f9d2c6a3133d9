-- `witness::find_witness` meets its contract. The loop keeps that the row tells the endings at depth u apart; at depth t the rows' first
-- triple is the witness.
use native.Mathlib.Omega.{arith}
use borrow.Author.Rules.{rules}
use Rattle.depths.proofs.Goals.{goal_row}
use Rattle.witness.proofs.Words.{rows_none, rows_small, rows_more, rows_are, rows_witness}
use Rattle.witness.proofs.find_witness.Goals as goal

pub loop-u-init : goal.loop-u-init
loop-u-init c = rows_none c.requires (goal_row c.requires.held c.put_goals.ensures)

pub put_firsts-requires : goal.put_firsts-requires
put_firsts-requires c = (omega (arith, c.requires.held.few, c.requires.held.labelled), rows_small c.requires c.loop-u.invariant)

pub loop-u-preserved : goal.loop-u-preserved
loop-u-preserved c = rows_more c.requires c.loop-u.invariant c.put_firsts.ensures (search rules)

pub first_witness-requires : goal.first_witness-requires
first_witness-requires c = rows_are c.requires c.put_starts.ensures c.loop-u.invariant (search rules)

pub returns : goal.returns
returns c =
    rows_witness c.requires c.put_starts.ensures c.loop-u.invariant (search rules) c.first_witness.result
    c.first_witness.ensures
