-- `sheet::put_sheet` puts the line of the refusal where there is one, and else the lines of the records that it made from what was read.
use Rattle.std.proofs.lemmas.Result.{MatchResult-at_ok, MatchResult-at_err}
use Rattle.sheet_records.specs.Sheet.{records_of}
use Rattle.sheet_lines.proofs.Lines.{lines_put}
use Rattle.sheet.proofs.Whole.{made_refused, drawn, blocks_inside, few_asked, made_lines}
use Rattle.sheet.proofs.put_sheet.Goals as goal

pub returns-in-Err : goal.returns-in-Err
returns-in-Err c =
    let fault = MatchResult-at_err _ _ _ c.in-Err.is c.read.ensures in
    made_refused c.args.input.now fault (c.put_refusal.ensures _ fault.told.holds)

pub make_records-made-requires : goal.make_records-made-requires
make_records-made-requires c =
    drawn c.args.input.now (MatchResult-at_ok _ _ _ c.in-Ok.is c.read.ensures) c.block_count-blocks.ensures.0

pub put_blocks-end-requires : goal.put_blocks-end-requires
put_blocks-end-requires c =
    blocks_inside c.args.input.now (MatchResult-at_ok _ _ _ c.in-Ok.is c.read.ensures) c.block_count-blocks.ensures.0
    c.make_records-made.ensures

pub put_total-requires : goal.put_total-requires
put_total-requires c =
    let read = MatchResult-at_ok _ _ _ c.in-Ok.is c.read.ensures in (
      blocks_inside c.args.input.now read c.block_count-blocks.ensures.0 c.make_records-made.ensures,
      few_asked c.args.input.now read c.block_count-blocks.ensures.0,
    )

pub returns-in-Ok : goal.returns-in-Ok
returns-in-Ok c =
    made_lines c.args.input.now (MatchResult-at_ok _ _ _ c.in-Ok.is c.read.ensures)
    (lines_put (records_of c.args.input.now) c.make_records-made.ensures c.put_blocks-end.ensures c.put_total.ensures)
