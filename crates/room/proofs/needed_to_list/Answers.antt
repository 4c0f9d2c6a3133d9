-- `room::needed_to_list` asks the buffers in the order of the definition.
use Rattle.room.specs.Room.{needed_to_list}
use Rattle.room.proofs.needed_to_list.Goals as goal

pub returns : goal.returns
unfolding needed_to_list
returns c = c.needed_by.ensures
