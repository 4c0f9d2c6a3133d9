-- What a call leaves in numbers, from what its layer leaves.
use mathlib.Core.Path.{◌≡◌, ap}
use mathlib.Core.List.{List}
use Prim.Native.Nat.{ℕ}
use Rattle.trellis.specs.Outcome.{Outcome}
use Rattle.outcomes.specs.Numbered.{Numbered}
use Rattle.outcomes.proofs.Numbering.{numbered_by}
use Rattle.read_back.specs.ReadingBack as reading
use Rattle.read_back.specs.ReadingBack.{ReadBackLeft}

pub read_back_left :
    {o : Outcome} {m : reading.ReadingBack} {number : ℕ} {file values : List ℕ} →
    reading.left o file ≡ m →
    Numbered o number values →
    ReadBackLeft m number file values
read_back_left e N = record { answer_is = numbered_by (ap (λ m. m.outcome) e) N; file_is = ap (λ m. m.file) e }
