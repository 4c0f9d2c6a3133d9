-- What the answer of `check` says: number 0 with q, n, S and W, or the refusal's number and values.
use Rattle.std.specs.Prelude.{[], ◌∷◌, Result, Ok, Err}
use Rattle.trellis.specs.Outcome.{Outcome, outcome}
use Rattle.answers.specs.Answers.{merged_outcome}
use Rattle.answers.specs.declared.merge.MergeRefusal.{MergeRefusal}
use Rattle.table.specs.declared.Sizes.{Sizes}

abbrev pub Checked : Type 0
Checked = Result Sizes MergeRefusal

abbrev pub checked_outcome : Checked → Outcome
checked_outcome (Ok s) = outcome 0 (s.q ∷ s.n ∷ s.states ∷ s.words ∷ [])
checked_outcome (Err refusal) = merged_outcome (Err refusal)
