-- A buffer whose front is filled with zeros.
use mathlib.Core.Path.{◌≡◌, sym, ap, ap₂, ◌∙◌}
use mathlib.Core.List.{List, ◌++◌}
use Prim.Native.Nat.{ℕ, ◌≤◌}
use native.Mathlib.Omega.{arith}
use lib.ListN.{length, take, drop, replicate, length-take, length-replicate}
use Rattle.refusing.specs.Inner.Refused.{cleared}

pub front_cleared : (map part : List ℕ) (count : ℕ) → count ≤ length map → part ≡ replicate (length (take count map)) 0
    → part ++ drop count map ≡ cleared count map
front_cleared map part count h e =
    let long : length (take count map) ≡ count = length-take count map ∙ omega arith in
    ap₂ (λ x k. x ++ drop k map) (e ∙ ap (λ k. replicate k 0) long) (sym (length-replicate count 0))
