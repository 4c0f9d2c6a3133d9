-- `codes::further` meets its contract, by what its calls ensure.
use Rattle.codes.proofs.Codes.{further_is}
use Rattle.codes.proofs.further.Goals as goal

pub returns : goal.returns
returns c = further_is _ c.args.e c.label_of.ensures c.append-label.ensures c.from.ensures
