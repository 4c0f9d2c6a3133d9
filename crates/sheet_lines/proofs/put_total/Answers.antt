-- `sheet_lines::put_total` puts the sums that counting gives; so few records are never too many for it.
use Rattle.sheet_lines.proofs.Lines.{total_put, not_many}
use Rattle.sheet_lines.proofs.put_total.Goals as goal

pub returns-in-Ok : goal.returns-in-Ok
returns-in-Ok c = total_put c.args.items c.requires.0 c.requires.1 _ c.count_first.ensures c.in-Ok.is c.put_line.ensures

pub returns-in-Err : goal.returns-in-Err
returns-in-Err c = absurd (not_many c.args.items c.requires.0 c.requires.1 _ c.count_first.ensures c.in-Err.is)
