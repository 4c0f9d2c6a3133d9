-- What a call leaves in numbers, from what its layer leaves.
use mathlib.Core.Path.{◌≡◌, ap}
use mathlib.Core.List.{List}
use Prim.Native.Nat.{ℕ}
use Rattle.trellis.specs.Outcome.{Outcome}
use Rattle.outcomes.specs.Numbered.{Numbered}
use Rattle.outcomes.proofs.Numbering.{numbered_by}
use Rattle.decoding.specs.Decoding as decoding
use Rattle.decoding.specs.Decoding.{DecodeLeft}

pub decode_left :
    {o : Outcome} {m : decoding.Decoding} {number : ℕ} {costs labels goals masks values : List ℕ} →
    decoding.left o costs labels goals masks ≡ m →
    Numbered o number values →
    DecodeLeft m number costs labels goals masks values
decode_left e N =
    record {
      answer_is = numbered_by (ap (λ m. m.answer) e) N;
      costs_are = ap (λ m. m.costs) e;
      labels_are = ap (λ m. m.labels) e;
      goals_are = ap (λ m. m.goals) e;
      masks_are = ap (λ m. m.masks) e;
    }
