-- `room::short_of` makes the test of the definition.
use Rattle.room.proofs.Fitting.{short_of_lem, long_enough}
use Rattle.room.proofs.short_of.Goals as goal

pub returns-then-there-needed : goal.returns-then-there-needed
returns-then-there-needed c = short_of_lem _ _ _ c.if-there-needed.true

pub returns-else-there-needed : goal.returns-else-there-needed
returns-else-there-needed c = long_enough _ _ _ c.if-there-needed.false
