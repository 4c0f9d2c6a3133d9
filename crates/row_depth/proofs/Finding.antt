-- Single steps of a depth. Looking for a number: it is where it is found, and where it is not found it stands nowhere. In 16 bits: the
-- bits before a cut, which are no more than the number.
use mathlib.Core.Path.{◌≡◌, refl, sym, ◌∙◌}
use mathlib.Core.Bool.{Bool, true, false, cond, not}
use mathlib.Core.List.{List, [], ◌∷◌}
use Prim.Native.Nat.{ℕ, zero, suc, ◌+◌, ◌*◌, ◌/◌, ◌%◌, ◌^◌, ◌≤◌, ◌<◌}
use native.Mathlib.Omega.{arith}
use native.Mathlib.Nat.{mod-eq_of_lt, div-mul-le_self}
use lib.ListN.{length, get_or, take}
use lib.Seq.{length-take-le}
use lib.Dec.{ltb}
use borrow.Author.Tests.{ltb-false}
use Rattle.std.specs.Prelude.{◌==◌, Option, Some, None, position}
use Rattle.std.specs.List.{position_or_len}
use Rattle.std.proofs.lemmas.List.{get_or-take}
use Rattle.std.proofs.lemmas.List.Quantifiers.{position-Some}
use Rattle.std.proofs.lemmas.Bool.{eqb-true, eqb-false}

-- ---- looking for a number

-- the first w numbers have x in the place found, or nowhere
abbrev pub Found : List ℕ → ℕ → ℕ → Option ℕ → Type 0
Found seen w x None = (j : ℕ) → j < w → get_or seen j 0 ≡ x → ⊥
Found seen w x (Some o) = (o < w) × (get_or seen o 0 ≡ x)

-- no number before the first that is x is x
others : (x : ℕ) (xs : List ℕ) (j : ℕ) → j < position_or_len (λ s. s == x) xs → get_or xs j 0 ≡ x → ⊥
others x [] j h e = absurd (omega arith)
others x (y ∷ xs) j h e = go (y == x) refl j h e (others x xs)
  where
    go : (t : Bool) → (y == x) ≡ t → (j : ℕ) → j < cond (not t) (1 + position_or_len (λ s. s == x) xs) 0 → get_or (y ∷ xs) j 0 ≡ x
        → ((j : ℕ) → j < position_or_len (λ s. s == x) xs → get_or xs j 0 ≡ x → ⊥) → ⊥
    go true q j h e rest = absurd (omega arith)
    go false q zero h e rest = eqb-false y x q e
    go false q (suc j) h e rest = rest j (omega arith) e

pub found_is : (seen : List ℕ) (w x : ℕ) (found : Option ℕ) → w ≤ length seen → found ≡ position (λ s. s == x) (take w seen)
    → Found seen w x found
found_is seen w x (Some o) room e =
    let at = position-Some (λ s. s == x) (take w seen) o 0 (sym e) in
    let inside : o < w = omega (arith, at.0, length-take-le w seen room) in
    (inside, sym (get_or-take w seen o 0 inside) ∙ eqb-true _ _ at.1)
found_is seen w x None room e =
    λ j h q. others x (take w seen) j (omega (arith, length-take-le w seen room, none (ltb n (length (take w seen))) refl (sym e)))
    (get_or-take w seen j 0 h ∙ q)
  where
    n : ℕ
    n = position_or_len (λ s. s == x) (take w seen)

    none : (t : Bool) → ltb n (length (take w seen)) ≡ t → cond t (Some n) None ≡ None → length (take w seen) ≤ n
    none true l q = absurd cc
    none false l q = ltb-false n (length (take w seen)) l

-- ---- cuts in 16 bits

pub cut_is : (x c : ℕ) → x < 65536 → (x / 2 ^ c * 2 ^ c) % 2 ^ 16 ≡ x / 2 ^ c * 2 ^ c
cut_is x c h = mod-eq_of_lt (omega (arith, div-mul-le_self x (2 ^ c)))
