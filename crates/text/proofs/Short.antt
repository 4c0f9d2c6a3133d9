-- A line is short: a number below 10^d has at most d digits, and a space before it.
use mathlib.Core.List.{List, [], ◌∷◌, ◌++◌, flat_map}
use Prim.Native.Nat.{ℕ, suc, ◌+◌, ◌*◌, ◌≤◌}
use native.Mathlib.Nat.{suc-mul}
use native.Mathlib.Omega.{arith}
use lib.ListN.{length, length-append}
use Rattle.text.specs.Line.{spaced, line}
use Rattle.text.specs.Inner.Digits.{AllBelow}
use Rattle.text.proofs.Decimal.{decimal_few}

numbers_few : (k : ℕ) (xs : List ℕ) → AllBelow (suc k) xs → length (flat_map spaced xs) ≤ length xs * suc (suc k)
unfolding flat_map spaced
numbers_few k [] h = omega arith
numbers_few k (x ∷ xs) h =
    omega (
      arith,
      decimal_few x k h.0,
      numbers_few k xs h.1,
      length-append (spaced x) (flat_map spaced xs),
      suc-mul (length xs) (suc (suc k)),
    )

pub line_short : (k : ℕ) (word xs : List ℕ) → AllBelow (suc k) xs → length (line word xs) ≤ length word + (length xs * suc (suc k) + 1)
unfolding line
line_short k word xs h =
    omega (
      arith,
      numbers_few k xs h,
      length-append word (flat_map spaced xs ++ (10 ∷ [])),
      length-append (flat_map spaced xs) (10 ∷ []),
    )
