-- What a call leaves in numbers, from what its layer leaves.
use mathlib.Core.Path.{◌≡◌, ap}
use mathlib.Core.List.{List}
use Prim.Native.Nat.{ℕ}
use Rattle.trellis.specs.Outcome.{Outcome}
use Rattle.outcomes.specs.Numbered.{Numbered}
use Rattle.outcomes.proofs.Numbering.{numbered_by}
use Rattle.path_list.specs.Listing as paths
use Rattle.path_list.specs.Listing.{DecodeListLeft}

pub decode_list_left :
    {o : Outcome} {m : paths.Listing} {number : ℕ} {costs distances labels goals values : List ℕ} →
    paths.left o costs distances labels goals ≡ m →
    Numbered o number values →
    DecodeListLeft m number costs distances labels goals values
decode_list_left e N =
    record {
      answer_is = numbered_by (ap (λ m. m.answer) e) N;
      costs_are = ap (λ m. m.costs) e;
      distances_are = ap (λ m. m.distances) e;
      labels_are = ap (λ m. m.labels) e;
      goals_are = ap (λ m. m.goals) e;
    }
