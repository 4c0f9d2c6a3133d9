-- What a call leaves in numbers, from what its layer leaves.
use mathlib.Core.Path.{◌≡◌, ap}
use mathlib.Core.List.{List}
use Prim.Native.Nat.{ℕ}
use Rattle.trellis.specs.Outcome.{Outcome}
use Rattle.outcomes.specs.Numbered.{Numbered}
use Rattle.outcomes.proofs.Numbering.{numbered_by}
use Rattle.merging_rows.specs.MergingRows as rows
use Rattle.merging_rows.specs.MergingRows.{MergeRowsLeft}

pub merge_rows_left :
    {o : Outcome} {m : rows.MergingRows} {number : ℕ} {file map section values : List ℕ} →
    rows.left o file map section ≡ m →
    Numbered o number values →
    MergeRowsLeft m number file map section values
merge_rows_left e N =
    record {
      answer_is = numbered_by (ap (λ m. m.answer) e) N;
      file_is = ap (λ m. m.file) e;
      map_is = ap (λ m. m.map) e;
      section_is = ap (λ m. m.section) e;
    }
