-- `room::needed_to_decode` asks the buffers in the order of the definition.
use Rattle.room.specs.Room.{needed_to_decode}
use Rattle.room.proofs.needed_to_decode.Goals as goal

pub returns : goal.returns
unfolding needed_to_decode
returns c = c.needed_by.ensures
