-- The checks of generator rows. The sizes are compared one after another, and where all fit each bound is known. A row is wide where it is
-- not below 2 ^ width; so where the search for the first wide row finds none, all are narrow, and the other way round. In the same way the
-- search for the first row that is a sum of those before it finds none exactly if there is none.
use mathlib.Core.Path.{◌≡◌, refl, sym, ap, ◌∙◌}
use mathlib.Core.Bool.{Bool, cond, true, ◌&&◌}
use mathlib.Core.Logic.{◌↔◌}
use mathlib.Core.List.{List}
use Prim.Native.Nat.{ℕ, ◌*◌, ◌%◌, ◌^◌, ◌≤◌, ◌<◌}
use native.Mathlib.Omega.{arith}
use native.Mathlib.Numerals.{one-add}
use native.Mathlib.Nat.{one-mul, mod-eq_of_lt}
use lib.ListN.{length, get_or, take}
use lib.Dec.{leb, leb→le}
use lib.Pow.{pow_mono}
use borrow.Author.Tests.{leb-false}
use Rattle.std.specs.Prelude.{position}
use Rattle.std.specs.List.{position_or_len}
use Rattle.std.proofs.lemmas.List.Recursion.{is_position_or_len}
use Rattle.trellis.specs.Bounds.{most_symbols, most_state_bits, most_rows}
use Rattle.trellis.specs.Lists.{first, within, found_below}
use Rattle.trellis.proofs.Bools.{is_false, left_true, right_true}
use Rattle.trellis.proofs.Lists.{first_is, first_ok}
use Rattle.numbers.proofs.Bounds.{within_of}
use Rattle.rows.specs.Sums.{IsSum, is_dependent, first_dependent}
use Rattle.rows.specs.Inner.Reduced.{Narrow}
use Rattle.rows.proofs.Growing.{dependent_yes, dependent_of}
use Rattle.rows.specs.Table.{sizes_fit, first_wide}

-- ---- the sizes

module _ (s n count : ℕ) where
  pub by_tests : {a b c : Bool} → a ≡ within 0 most_state_bits s → b ≡ within 1 most_symbols n → c ≡ within 1 most_rows count
      → a && (b && c) ≡ sizes_fit s n count
  unfolding sizes_fit
  by_tests e f g = rw (e, f, g) refl

  module _ (fit : sizes_fit s n count ≡ true) where
    others : (within 1 most_symbols n && within 1 most_rows count) ≡ true
    unfolding sizes_fit
    others = right_true (within 0 most_state_bits s) (within 1 most_symbols n && within 1 most_rows count) fit

    pub fit_bits : s ≤ most_state_bits
    unfolding sizes_fit
    fit_bits =
        (within_of 0 most_state_bits s (left_true (within 0 most_state_bits s) (within 1 most_symbols n && within 1 most_rows count) fit)).1

    symbols : (1 ≤ n) × (n ≤ most_symbols)
    symbols = within_of 1 most_symbols n (left_true (within 1 most_symbols n) (within 1 most_rows count) others)

    rows_within : (1 ≤ count) × (count ≤ most_rows)
    rows_within = within_of 1 most_rows count (right_true (within 1 most_symbols n) (within 1 most_rows count) others)

    pub fit_some : 0 < n
    fit_some = symbols.0

    pub fit_symbols : n ≤ most_symbols
    fit_symbols = symbols.1

    pub fit_rows : count ≤ most_rows
    fit_rows = rows_within.1

-- ---- 1 shifted

pub words_is : (k : ℕ) → k ≤ 10 → ((1 * 2 ^ k) % 18446744073709551616 ≡ 2 ^ k) × ((1 * 2 ^ k) % 18446744073709551616 ≤ 1024)
words_is k h =
    let l : 2 ^ k ≤ 1024 = pow_mono {i = k} {j = 10} h in
    let e : (1 * 2 ^ k) % 18446744073709551616 ≡ 2 ^ k = ap (λ m. m % 18446744073709551616) (one-mul (2 ^ k)) ∙ mod-eq_of_lt (omega arith) in
    (e, omega arith)

-- ---- wide rows

-- the first that passes a test, as the library counts it
first_position : (test : ℕ → Bool) (rows : List ℕ) → first (λ j. test (get_or rows j 0)) (length rows) ≡ position_or_len test rows
unfolding first
first_position test = is_position_or_len (λ rows. first (λ j. test (get_or rows j 0)) (length rows)) test refl
    (λ row rows. ap (λ k. cond (test row) 0 k) (sym (one-add (first (λ j. test (get_or rows j 0)) (length rows)))))

pub found_wide : (width : ℕ) (rows : List ℕ)
    → position (λ row. leb (2 ^ width) row) rows ≡ found_below (length rows) (first_wide width rows)
unfolding first_wide
found_wide width rows = ap (found_below (length rows)) (sym (first_position (λ row. leb (2 ^ width) row) rows))

module _ (width : ℕ) (rows : List ℕ) where
  abbrev is_wide : ℕ → Bool
  is_wide j = leb (2 ^ width) (get_or rows j 0)

  -- none is wide exactly if all are narrow
  pub not_wide : (first_wide width rows < length rows → ⊥) → Narrow width rows
  unfolding first_wide
  not_wide none j h =
      let F = first_ok is_wide (length rows) in
      leb-false (2 ^ width) (get_or rows j 0) (is_false (is_wide j) (F.miss j (omega (arith, F.most))))

  pub wide_of : Narrow width rows → first_wide width rows ≡ length rows
  unfolding first_wide
  wide_of narrow = first_is is_wide (length rows) (length rows) (record {
    most = omega arith;
    hit = λ h. absurd (omega arith);
    miss = λ i h t. omega (arith, narrow i h, leb→le (2 ^ width) (get_or rows i 0) t);
  })

-- ---- dependent rows

pub independent : (rows : List ℕ)
    → (first_dependent rows < length rows → ⊥) ↔ ((j : ℕ) → j < length rows → IsSum (take j rows) (get_or rows j 0) → ⊥)
unfolding first_dependent
independent rows =
    let F = first_ok (is_dependent rows) (length rows) in (
      λ none j h S. F.miss j (omega (arith, F.most)) (dependent_of rows j S),
      λ none h. none (first_dependent rows) h (dependent_yes rows (first_dependent rows) (F.hit h)),
    )
