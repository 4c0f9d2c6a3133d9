-- `c_sections::read_back_numbered` is reading back, its answer in numbers.
use Rattle.c_sections.proofs.Left.{read_back_left}
use Rattle.c_sections.proofs.read_back_numbered.Goals as goal

pub returns : goal.returns
returns c = read_back_left c.read_back-read.ensures c.store.ensures
