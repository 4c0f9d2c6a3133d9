-- What a call leaves in numbers, from what its layer leaves.
use mathlib.Core.Path.{◌≡◌, ap}
use mathlib.Core.List.{List}
use Prim.Native.Nat.{ℕ}
use Rattle.trellis.specs.Outcome.{Outcome}
use Rattle.outcomes.specs.Numbered.{Numbered}
use Rattle.outcomes.proofs.Numbering.{numbered_by}
use Rattle.text_buffer.specs.Listing as printing
use Rattle.text_buffer.specs.Listing.{ListingLeft}

pub listing_left :
    {o : Outcome} {m : printing.Listing} {number : ℕ} {text values : List ℕ} →
    printing.left o text ≡ m →
    Numbered o number values →
    ListingLeft m number text values
listing_left e N = record { answer_is = numbered_by (ap (λ m. m.outcome) e) N; text_is = ap (λ m. m.text) e }
