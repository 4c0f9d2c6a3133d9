-- What a call leaves in numbers, from what its layer leaves.
use mathlib.Core.List.{List}
use Prim.Native.Nat.{ℕ}
use Rattle.answers.specs.declared.merge.MergeRefusal.{MergeRefusal}
use Rattle.std.specs.Prelude.{Result}
use Rattle.outcomes.specs.Numbered.{Numbered}
use Rattle.outcomes.proofs.Numbering.{numbered_by}
use Rattle.answers.specs.Answers.{merged_outcome}
use Rattle.merging.specs.Merging.{Ends, MergeLeft, Merging}

pub merge_left :
    {m : Merging} {r : Result ℕ MergeRefusal} {number : ℕ} {map section values : List ℕ} →
    Ends m r map section →
    Numbered (merged_outcome r) number values →
    MergeLeft m number map section values
merge_left E N = record { answer_is = numbered_by E.answer_is N; map_is = E.map_is; section_is = E.section_is }
