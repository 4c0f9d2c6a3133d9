-- `one_step::further_code` meets its contract: the parts of the code fill places of their own.
use Rattle.edges.specs.Inner.Edges.{meant_edge}
use Rattle.one_step.proofs.Limits.{further_is}
use Rattle.one_step.proofs.further_code.Goals as goal

pub returns : goal.returns
returns c = further_is c.args.code (meant_edge c.args.e) c.requires.0
