-- `sheet_input::input_buffer` meets its contract: a list of so many zeros is so long, which is a law and is not counted out.
use Prim.Native.Nat.{ℕ}
use lib.ListN.{length-replicate}
use Rattle.input_parts.specs.Input.{most_input}
use Rattle.sheet_input.proofs.input_buffer.Goals as goal

pub returns : goal.returns
returns c = length-replicate {A = ℕ} most_input 0
