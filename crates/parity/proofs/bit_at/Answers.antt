-- `parity::bit_at` shifts the bit to the front and masks the others.
use Rattle.parity.proofs.Masks.{bit_is}
use Rattle.parity.proofs.bit_at.Goals as goal

pub returns : goal.returns
returns c = bit_is _ _
