-- `parity::low_bits` keeps what a mask of ones keeps.
use Rattle.parity.proofs.Masks.{mask_is}
use Rattle.parity.proofs.low_bits.Goals as goal

pub returns : goal.returns
returns c = mask_is _ _ c.requires
