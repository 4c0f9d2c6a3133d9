-- The record that a place beyond a list reads as.
use Rattle.records.specs.declared.BlockRecord.{BlockRecord}

abbrev pub blank : BlockRecord
blank = record { index = 0; section = 0; additions = 0; selections = 0 }
