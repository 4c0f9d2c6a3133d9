-- `takers::arc_at` gives the numbers of the word's edge: what it reads are the places that the definition names.
use mathlib.Core.Path.{refl}
use Rattle.takers.proofs.Scanning.{arc_is}
use Rattle.takers.proofs.arc_at.Goals as goal

pub returns : goal.returns
returns c = arc_is _ _ c.requires.0 c.requires.1 c.from-from.ensures c.symbol.ensures c.from-symbol.ensures refl
