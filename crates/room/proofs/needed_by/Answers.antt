-- `room::needed_by` takes the needed length out of the first short buffer.
use mathlib.Core.Path.{◌∙◌}
use Rattle.room.proofs.Fitting.{needed_of}
use Rattle.room.proofs.needed_by.Goals as goal

pub returns-in_err-needed : goal.returns-in_err-needed
returns-in_err-needed c = c.from_residual.ensures ∙ needed_of c.args.buffers.now c.in_err-needed.ensures

pub returns : goal.returns
returns c = needed_of c.args.buffers.now c.in_ok-needed.ensures
