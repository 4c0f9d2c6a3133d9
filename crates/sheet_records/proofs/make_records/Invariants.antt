-- `sheet_records::make_records` fills the array from the front. The loop's invariant is `InRecords`.
use Rattle.sheet_records.proofs.Making.{InRecords}
use Rattle.sheet_records.proofs.make_records.Given as goal

abbrev pub invariant-loop-b : goal.invariant-loop-b
invariant-loop-b l = InRecords l.input l.blocks l.items l.b
