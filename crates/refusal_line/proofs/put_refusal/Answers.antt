-- `refusal_line::put_refusal` puts the number and the first values, which are those returned with it.
use Rattle.refusal_line.proofs.Refusal.{refusal_put}
use Rattle.refusal_line.proofs.put_refusal.Goals as goal

pub returns : goal.returns
returns c = λ o H. refusal_put H c.put_line.ensures
