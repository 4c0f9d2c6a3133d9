-- `sheet_input::measure_tables` goes from table to table. The loop's invariant is `InTables`.
use mathlib.Core.List.{List}
use Rattle.std.proofs.lemmas.Result.{err_from_is_err_and, MatchResult-at_ok, MatchResult-at_err}
use Prim.Native.Nat.{ℕ, ◌-◌}
use lib.ListN.{length, take, drop}
use Rattle.input_parts.proofs.Parts.{part_taken, part_few}
use Rattle.sheet_input.proofs.Tables.{tables_start, sections_few, tables_refused, tables_next, tables_left, tables_all}
use borrow.Author.Rules.{rules}
use Rattle.sheet_input.proofs.measure_tables.Goals as goal

-- what is left of the input at a place
abbrev rest : List ℕ → ℕ → List ℕ
rest input at = take (length input - at) (drop at input)

pub loop-j-init : goal.loop-j-init
loop-j-init c = tables_start c.requires (search rules) (search rules)

pub slice_bounds-measure-end : goal.slice_bounds-measure-end
slice_bounds-measure-end c = part_taken (rest c.args.input.now c.loop-j.at) c.part_length-length.ensures.0

pub measure-requires : goal.measure-requires
measure-requires c = part_few (rest c.args.input.now c.loop-j.at) c.part_length-length.ensures.0 c.part_length-length.ensures.1

pub returns-in_err-cost : goal.returns-in_err-cost
returns-in_err-cost c =
    let p = err_from_is_err_and c.from_residual.result c.from_residual.ensures.1 in
    rw (p.1, p.2)
    (tables_refused c.loop-j.invariant c.requires c.loop-j-test.true c.part_length-length.ensures.0
    (MatchResult-at_err _ _ _ c.in_err-cost.was c.measure.ensures))

pub bounds-costs-j : goal.bounds-costs-j
bounds-costs-j c =
    let f = sections_few c.requires in
    search rules

pub bounds-costs-j-in-loop-j : goal.bounds-costs-j-in-loop-j
bounds-costs-j-in-loop-j c =
    let f = sections_few c.requires in
    search rules

pub overflow_add-at : goal.overflow_add-at
overflow_add-at c =
    let n = tables_next c.loop-j.invariant c.requires c.loop-j-test.true c.part_length-length.ensures.0 in
    let f = (n (MatchResult-at_ok _ _ _ c.in_ok-cost.was c.measure.ensures)).inside in
    search rules

pub loop-j-preserved : goal.loop-j-preserved
loop-j-preserved c =
    tables_next c.loop-j.invariant c.requires c.loop-j-test.true c.part_length-length.ensures.0
    (MatchResult-at_ok _ _ _ c.in_ok-cost.was c.measure.ensures)

pub left_over-requires : goal.left_over-requires
left_over-requires c = sections_few c.requires

pub returns-in_err-left_over : goal.returns-in_err-left_over
returns-in_err-left_over c =
    let p = err_from_is_err_and c.from_residual-in_err-left_over.result c.from_residual-in_err-left_over.ensures.1 in
    rw (p.1, p.2)
    (tables_left c.loop-j.invariant c.requires c.loop-j-test.false
    (MatchResult-at_err _ _ _ c.in_err-left_over.was c.left_over.ensures))

pub returns : goal.returns
returns c =
    tables_all c.loop-j.invariant c.requires c.loop-j-test.false
    (MatchResult-at_ok _ _ _ c.in_ok-left_over.was c.left_over.ensures)
