-- Numbers written one behind another into a lent buffer.
use Rattle.std.specs.Prelude.{◌≡◌, List, ℕ, ◌+◌, length}
use Rattle.std.proofs.lemmas.List.Edits.{sets}

-- new is old with vs written from place at on, and end is the place behind them
pub record Wrote (old : List ℕ) (at : ℕ) (vs : List ℕ) (new : List ℕ) (end : ℕ) : Type 0 where
  pub new_is : new ≡ sets old at vs
  pub end_is : end ≡ at + length vs
