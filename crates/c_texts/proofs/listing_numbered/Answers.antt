-- `c_texts::listing_numbered` is the listing, its answer in numbers.
use Rattle.c_texts.proofs.Left.{listing_left}
use Rattle.c_texts.proofs.listing_numbered.Goals as goal

pub returns : goal.returns
returns c = listing_left c.listing-answer.ensures c.store.ensures
