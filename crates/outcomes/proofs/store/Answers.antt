-- `answers::store` stores the four values in order, each by `narrowed`.
use Rattle.outcomes.proofs.Numbering.{numbered}
use Rattle.outcomes.proofs.store.Goals as goal

pub returns : goal.returns
returns c =
    λ o H. numbered H c.narrowed.ensures c.narrowed-2.ensures c.narrowed-3.ensures
    c.narrowed-4.ensures
