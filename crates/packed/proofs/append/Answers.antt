-- `packed::append` meets its contract: `put-behind` is its equation.
use Rattle.packed.proofs.Appending.{put_behind}
use Rattle.packed.proofs.append.Goals as goal

pub returns : goal.returns
returns c = put_behind _ _
