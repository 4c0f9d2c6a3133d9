-- `sheet_input::read` answers by the fault of the head where there is one, and else by what the tables come to.
use Rattle.std.proofs.lemmas.Result.{err_from_is_err_and, MatchResult-at_ok, MatchResult-at_err}
use Rattle.input_parts.proofs.Head.{head_read, read_head, head_passed}
use Rattle.sheet_input.proofs.read.Goals as goal

pub check_head-requires : goal.check_head-requires
check_head-requires c = head_read c.section_count-sections.ensures c.block_count-blocks.ensures

pub returns-in_err-check_head : goal.returns-in_err-check_head
returns-in_err-check_head c =
    let p = err_from_is_err_and c.from_residual.result c.from_residual.ensures.1 in
    rw (p.1, p.2) (read_head c.args.input.now (MatchResult-at_err _ _ _ c.in_err-check_head.was c.check_head.ensures))

pub measure_tables-requires : goal.measure_tables-requires
measure_tables-requires c =
    head_passed c.args.input.now (head_read c.section_count-sections.ensures c.block_count-blocks.ensures)
    (MatchResult-at_ok _ _ _ c.in_ok-check_head.was c.check_head.ensures)
