-- A table cut at depth t, in numbers. The number of a beginning is the root followed by t symbols, so numbers are equal exactly if
-- beginnings are, by one division with remainder; endings alike. The order of words is that of their beginnings and then of their endings.
-- So what is said of the numbers is said of the words.
use mathlib.Core.Path.{◌≡◌, sym, ap, ap₂, subst, ◌∙◌}
use mathlib.Core.List.{List, [], ◌∷◌}
use Prim.Native.Nat.{ℕ, zero, suc, ◌+◌, ◌-◌, ◌*◌, ◌/◌, ◌%◌, ◌^◌, ◌≤◌, ◌<◌}
use native.Mathlib.Omega.{arith}
use native.Mathlib.Nat.{div-lt_iff_lt-mul, div-add-mod', not-suc-le-zero}
use native.Mathlib.Decide.{ℕ_discrete}
use lib.ListN.{length}
use lib.Dec.{eqb, eqb→eq}
use lib.Arith.{digits_lt, digits_div, digits_mod}
use lib.Pow.{pow-add}
use Rattle.trellis.specs.Lists.{◌∈◌, by_first, by_second, by_third}
use Rattle.trellis.specs.Label.{front, back}
use Rattle.trellis.specs.Word.{Word, word_at, Before, Table, beginning, ending, joined, RectangularAt}
use Rattle.trellis.specs.Witness.{same_beginning, same_ending}
use Rattle.trellis.proofs.Labels.{four_pos, front_mono}
use Rattle.trellis.proofs.Words.{word_in, index, beginning_root, beginning_front, beginning_eq, ending_back, ending_goal, ending_eq}
use Rattle.trellis.proofs.Words.{joined_beginning, joined_ending, joined_is, rectangular_by}
use Rattle.trellis.proofs.Witness.{begins_yes, begins_of, ends_yes, ends_of}
use Rattle.runs.specs.Inner.Runs.{Cut, Shared, Rectangle}
use Rattle.runs.specs.Inner.Cuts.{above_goals, beginning_number, ending_number, beginning_at, ending_at}
use Rattle.trellis.proofs.Bools.{eqb_of, same_test}

above_pos : (table : List Word) → 0 < above_goals table
unfolding above_goals
above_pos [] = omega arith
above_pos (w ∷ table) = omega (arith, above_pos table)

goal_below : (table : List Word) (i : ℕ) → i < length table → (word_at table i).goal < above_goals table
unfolding above_goals
goal_below [] i h = absurd (not-suc-le-zero h)
goal_below (w ∷ table) zero h = omega (arith, above_pos table)
goal_below (w ∷ table) (suc i) h = omega (arith, goal_below table i (omega arith))

front_below : (n t x : ℕ) → t ≤ n → x < 4 ^ n → front n t x < 4 ^ t
unfolding front
front_below n t x h l =
    let e : n ≡ t + (n - t) = omega arith in
    let p : 4 ^ n ≡ 4 ^ t * 4 ^ (n - t) = ap (λ k. 4 ^ k) e ∙ pow-add 4 t (n - t) in
    (div-lt_iff_lt-mul (four_pos (n - t))).1 (subst (λ k. x < k) p l)

-- ---- numbers for beginnings and endings

module _ (n t : ℕ) (v w : Word) where
  number_beginning : t ≤ n → v.label < 4 ^ n → w.label < 4 ^ n → beginning_number n t v ≡ beginning_number n t w
      → beginning n t v ≡ beginning n t w
  unfolding beginning_number
  number_beginning h a b e =
      let p = front_below n t v.label h a in
      let q = front_below n t w.label h b in
      beginning_eq (sym (digits_div v.root p) ∙ ap (λ k. k / 4 ^ t) e ∙ digits_div w.root q)
      (sym (digits_mod v.root p) ∙ ap (λ k. k % 4 ^ t) e ∙ digits_mod w.root q)

  pub beginning_number_lem : beginning n t v ≡ beginning n t w → beginning_number n t v ≡ beginning_number n t w
  unfolding beginning_number
  beginning_number_lem e = ap₂ (λ a b. a * 4 ^ t + b) (beginning_root e) (beginning_front e)

  module _ (high : ℕ) where
    number_ending : v.goal < high → w.goal < high → ending_number n t high v ≡ ending_number n t high w → ending n t v ≡ ending n t w
    unfolding ending_number
    number_ending p q e = ending_eq
        (sym (digits_div (back n t v.label) p) ∙ ap (λ k. k / high) e ∙ digits_div (back n t w.label) q)
        (sym (digits_mod (back n t v.label) p) ∙ ap (λ k. k % high) e ∙ digits_mod (back n t w.label) q)

    pub ending_number_lem : ending n t v ≡ ending n t w → ending_number n t high v ≡ ending_number n t high w
    unfolding ending_number
    ending_number_lem e = ap₂ (λ a b. a * high + b) (ending_back e) (ending_goal e)

-- ---- the order of words is that of their beginnings, then of their endings

rise : (n t : ℕ) (v w : Word) → t ≤ n → v.label < 4 ^ n → Before v w → beginning_number n t v ≤ beginning_number n t w
unfolding beginning_number
rise n t v w h a (by_first r) = omega (arith, digits_lt r (front_below n t v.label h a))
rise n t v w h a (by_second r l) =
    let e : v.root * 4 ^ t ≡ w.root * 4 ^ t = ap (λ k. k * 4 ^ t) r in
    omega (arith, front_mono n t {x = v.label} {y = w.label} (omega arith))
rise n t v w h a (by_third r l g) =
    let e : v.root * 4 ^ t ≡ w.root * 4 ^ t = ap (λ k. k * 4 ^ t) r in
    omega (arith, ap (front n t) l)

back_less : (n t x y : ℕ) → front n t x ≡ front n t y → x < y → back n t x < back n t y
unfolding front back
back_less n t x y e l =
    let p : x / 4 ^ (n - t) * 4 ^ (n - t) ≡ y / 4 ^ (n - t) * 4 ^ (n - t) = ap (λ k. k * 4 ^ (n - t)) e in
    omega (arith, div-add-mod' x (4 ^ (n - t)), div-add-mod' y (4 ^ (n - t)))

later : (n t high : ℕ) (v w : Word) → v.goal < high → beginning n t v ≡ beginning n t w → Before v w
    → ending_number n t high v < ending_number n t high w
unfolding ending_number
later n t high v w p b (by_first r) = let e = beginning_root b in absurd (omega arith)
later n t high v w p b (by_second r l) = omega (arith, digits_lt (back_less n t v.label w.label (beginning_front b) l) p)
later n t high v w p b (by_third r l g) = let e : back n t v.label * high ≡ back n t w.label * high = ap (λ x. back n t x * high) l in
    omega arith

-- ---- the table

module _ {n : ℕ} {table : List Word} (G : Table n table) (t : ℕ) (h : t ≤ n) where
  fits_at : (i : ℕ) → i < length table → (word_at table i).label < 4 ^ n
  fits_at i l = G.fits (word_at table i) (word_in table i l)

  pub same_beginning_lem : (i j : ℕ) → i < length table → j < length table → beginning_at n table t i ≡ beginning_at n table t j
      → beginning n t (word_at table i) ≡ beginning n t (word_at table j)
  same_beginning_lem i j a b e = number_beginning n t (word_at table i) (word_at table j) h (fits_at i a) (fits_at j b) e

  pub same_ending_lem : (i j : ℕ) → i < length table → j < length table → ending_at n table t i ≡ ending_at n table t j
      → ending n t (word_at table i) ≡ ending n t (word_at table j)
  same_ending_lem i j a b e =
      number_ending n t (word_at table i) (word_at table j) (above_goals table) (goal_below table i a) (goal_below table j b) e

  -- ---- the tests that the witness search makes, on numbers

  pub begins_eq : (i j : ℕ) → i < length table → j < length table
      → same_beginning n t (word_at table i) (word_at table j) ≡ eqb (beginning_at n table t i) (beginning_at n table t j)
  begins_eq i j a b = same_test (same_beginning n t (word_at table i) (word_at table j))
      (eqb (beginning_at n table t i) (beginning_at n table t j))
      (λ u. eqb_of (beginning_number_lem n t (word_at table i) (word_at table j) (begins_yes n t (word_at table i) (word_at table j) u)))
      (λ u. begins_of n t (word_at table i) (word_at table j)
      (same_beginning_lem i j a b (eqb→eq (beginning_at n table t i) (beginning_at n table t j) u)))

  pub ends_eq : (i j : ℕ) → i < length table → j < length table
      → same_ending n t (word_at table i) (word_at table j) ≡ eqb (ending_at n table t i) (ending_at n table t j)
  ends_eq i j a b = same_test (same_ending n t (word_at table i) (word_at table j)) (eqb (ending_at n table t i) (ending_at n table t j))
      (λ u. eqb_of (ending_number_lem n t (word_at table i) (word_at table j) (above_goals table)
      (ends_yes n t (word_at table i) (word_at table j) u)))
      (λ u. ends_of n t (word_at table i) (word_at table j) (same_ending_lem i j a b (eqb→eq (ending_at n table t i) (ending_at n table t j) u)))

  pub cut : Cut (length table) (beginning_at n table t) (ending_at n table t)
  cut = record {
    rises = λ i j a b. go i j a b (ℕ_discrete i j);
    within = λ i j a b e.
        later n t (above_goals table) (word_at table i) (word_at table j) (goal_below table i (omega arith))
        (same_beginning_lem i j (omega arith) b e) (G.ascends i j a b);
  }
    where
      go : (i j : ℕ) → i ≤ j → j < length table → Dec (i ≡ j) → beginning_at n table t i ≤ beginning_at n table t j
      go i j a b (yes e) = let q = ap (beginning_at n table t) e in omega arith
      go i j a b (no e) = rise n t (word_at table i) (word_at table j) h (fits_at i (omega arith)) (G.ascends i j (omega arith) b)

  -- ---- words share a vertex where the joined word is in the table

  pub shared_joined : (i j : ℕ) → i < length table → j < length table
      → Shared (length table) (beginning_at n table t) (ending_at n table t) i j
      → joined n t (word_at table i) (word_at table j) ∈ table
  shared_joined i j a b m = subst (λ w. w ∈ table)
      (joined_is n t (word_at table m.at) (word_at table i) (word_at table j)
      (same_beginning_lem m.at i m.inside a m.begins) (same_ending_lem m.at j m.inside b m.ends))
      (word_in table m.at m.inside)

  pub joined_shared : (i j : ℕ) → joined n t (word_at table i) (word_at table j) ∈ table
      → Shared (length table) (beginning_at n table t) (ending_at n table t) i j
  joined_shared i j m =
      let w = joined n t (word_at table i) (word_at table j) in
      let x = index table w m in
      record {
        at = x.at;
        inside = x.below;
        begins = ap (beginning_number n t) x.is
            ∙ beginning_number_lem n t w (word_at table i) (joined_beginning n t (word_at table i) (word_at table j));
        ends = ap (ending_number n t (above_goals table)) x.is
            ∙ ending_number_lem n t w (word_at table j) (above_goals table) (joined_ending n t (word_at table i) (word_at table j));
      }

  -- ---- rectangular, in numbers

  pub rectangle_of : RectangularAt n t table → Rectangle (length table) (beginning_at n table t) (ending_at n table t)
  rectangle_of R i j k a b c e f = joined_shared k j
      (R (word_at table i) (word_at table j) (word_at table k) (word_in table i a) (word_in table j b) (word_in table k c)
      (same_beginning_lem i j a b e) (same_ending_lem i k a c f))

  pub of_rectangle : Rectangle (length table) (beginning_at n table t) (ending_at n table t) → RectangularAt n t table
  of_rectangle R = rectangular_by n t table (λ i j k a b c e f. shared_joined k j c b
      (R i j k a b c (beginning_number_lem n t (word_at table i) (word_at table j) e)
      (ending_number_lem n t (word_at table i) (word_at table k) (above_goals table) f)))
