-- A search for the first number that passes a test, as a loop makes it. Nothing below i passes: that holds at the start, a number that does
-- not pass keeps it, and a number that passes is then the first, of which there is only one.
use mathlib.Core.Path.{◌≡◌, refl, sym}
use mathlib.Core.Bool.{Bool, true, false, cond}
use Prim.Native.Nat.{ℕ, ◌+◌, ◌≤◌, ◌<◌}
use native.Mathlib.Omega.{arith}
use borrow.Author.Count.{below_none, below_more}
use lib.Dec.{ltb}
use borrow.Author.Tests.{lt-ltb, le-ltb, ltb-true, ltb-false}
use Rattle.std.specs.Prelude.{Some, None}
use Rattle.std.proofs.lemmas.Option.{none-some, cond_some}
use Rattle.trellis.specs.Lists.{first, found_below}
use Rattle.trellis.proofs.Bools.{holds, fails, is_false}
use Rattle.trellis.proofs.Lists.{first_ok, first_is}

-- none below i passes
abbrev pub Clear : (ℕ → Bool) → ℕ → Type 0
Clear test i = (j : ℕ) → j < i → test j ≡ false

pub clear_start : (test : ℕ → Bool) → Clear test 0
clear_start test = below_none (λ j. test j ≡ false)

module _ {test : ℕ → Bool} {i : ℕ} (s : Clear test i) where
  pub clear_next : test i ≡ false → Clear test (i + 1)
  clear_next e = below_more (λ j. test j ≡ false) i s e

  pub clear_first : {m : ℕ} → i < m → test i ≡ true → first test m ≡ i
  clear_first {m} h e = first_is test m i (record { most = omega arith; hit = λ g. holds e; miss = λ j g t. fails (s j g) t })

  pub clear_none : {m : ℕ} → m ≤ i → first test m ≡ m
  clear_none {m} h = first_is test m m
      (record { most = omega arith; hit = λ g. absurd (omega arith); miss = λ j g t. fails (s j (omega arith)) t })

  -- what the search answers
  pub clear_found : {m : ℕ} → i < m → test i ≡ true → Some i ≡ found_below m (first test m)
  clear_found {m} h e = simp (clear_first h e, lt-ltb i m h)

  pub clear_all : {m : ℕ} → m ≤ i → None ≡ found_below m (first test m)
  clear_all {m} h = simp (clear_none h, le-ltb m m (omega arith))

-- what an answer says
pub found_is : {i m f : ℕ} → Some i ≡ found_below m f → (i ≡ f) × (i < m)
found_is {i} {m} {f} e =
    let c = cond_some (ltb f m) f i (sym e) in
    let l = ltb-true f m c.0 in
    (sym c.1, omega (arith, l, c.1))

pub none_below : {m f : ℕ} → None ≡ found_below m f → m ≤ f
none_below {m} {f} e = go (ltb f m) refl e
  where
    go : (b : Bool) → ltb f m ≡ b → None ≡ cond b (Some f) None → m ≤ f
    go true q e = absurd (none-some f e)
    go false q e = ltb-false f m q

-- what it means that nothing is found
pub none_passes : (test : ℕ → Bool) (m : ℕ) → m ≤ first test m → (j : ℕ) → j < m → test j ≡ false
none_passes test m h j g = is_false (test j) ((first_ok test m).miss j (omega arith))

pub nothing_found : (test : ℕ → Bool) (m : ℕ) → ((j : ℕ) → j < m → test j ≡ false) → m ≡ first test m
nothing_found test m f = sym (clear_none f (omega arith))
