-- How a parity check grows row by row. No rows: each number is its own syndrome. One row more, of syndrome z: where z is 0 the row is a sum
-- of those before it, since a number differs from its syndrome by a sum. Else z has a bit p, and each column with bit p gets z added. Then
-- a syndrome y becomes y, or y + z where y has bit p; so 0 stays 0, z becomes 0, and y changes at most by z, a sum of the rows.
use mathlib.Core.Path.{◌≡◌, sym, ap, ap₂, ◌∙◌}
use mathlib.Core.List.{List, [], ◌∷◌, ◌++◌}
use Prim.Native.Nat.{ℕ, ◌/◌, ◌%◌, ◌^◌, ◌<◌}
use lib.Bits.{xor_self, xor_comm, xor_zero_r}
use lib.ListN.{length-map}
use Rattle.trellis.proofs.Lists.{length_run}
use Rattle.rows.specs.Sums.{◌⊕◌, chosen, sum_of, choices, IsSum}
use Rattle.rows.specs.Check.{ParityCheck}
use Rattle.rows.specs.Inner.Reduced.{Checks, bit_at, no_rows, cleared, add_row}
use Rattle.rows.proofs.Xor.{xor_assoc, xor_four, xor_again, bit_xor}
use Rattle.rows.proofs.Bits.{bit_lt}
use Rattle.rows.proofs.Sums.{Additive, additive_zero, additive_chosen, chosen_differ, chosen_none, sum_nil, sum_xor, sum_map, sum_is}
use Rattle.rows.proofs.Sums.{sum_cast, sum_none, sum_add, sum_chosen, sum_last, sum_old, sum_new, sum_powers}

-- ---- columns changed

pub cleared_adds : (p z : ℕ) → Additive (cleared p z)
unfolding cleared
cleared_adds p z = record {
  adds = λ x y.
      ap (λ k. (x ⊕ y) ⊕ k) (ap (λ k. chosen k z) (bit_xor p x y) ∙ chosen_differ (bit_at p x) (bit_at p y) z (bit_lt p x) (bit_lt p y))
      ∙ xor_four x y (chosen (bit_at p x) z) (chosen (bit_at p y) z);
}

pub cleared_self : (p z : ℕ) → bit_at p z ≡ 1 → cleared p z z ≡ 0
unfolding cleared chosen
cleared_self p z h = ap (λ k. z ⊕ chosen k z) h ∙ xor_self z

pub added_sum : (p z : ℕ) (columns : List ℕ) (x : ℕ) → sum_of (add_row p z columns) x ≡ cleared p z (sum_of columns x)
unfolding add_row
added_sum p z columns x = sum_map (cleared_adds p z) columns x

-- ---- the check

pub check_none : (N : ℕ) → Checks N [] (no_rows N)
unfolding no_rows
check_none N = record {
  wide = length_run (λ m. 2 ^ m) 0 N;
  kills = λ x S. ap (sum_of (no_rows N)) (S.is ∙ sum_nil S.choice) ∙ additive_zero (sum_xor (no_rows N));
  covers = λ x h. sum_cast (sym (xor_self x) ∙ ap (λ k. x ⊕ k) (sym (sum_powers N x h))) sum_none;
}

module _ {N : ℕ} {rows columns : List ℕ} (C : Checks N rows columns) where
  -- just the sums have syndrome 0
  pub check_sum : (x : ℕ) → x < 2 ^ N → sum_of columns x ≡ 0 → IsSum rows x
  check_sum x h e = sum_cast (ap (λ k. x ⊕ k) e ∙ xor_zero_r x) (C.covers x h)

  pub parity_check : ParityCheck N rows columns
  parity_check = record { tells = λ x h. (λ e. check_sum x h e, λ S. C.kills x S) }

  module _ (r : ℕ) (inside : r < 2 ^ N) where
    -- a syndrome is a sum of the rows and the new one
    syndrome_sum : IsSum (rows ++ (r ∷ [])) (sum_of columns r)
    syndrome_sum = sum_cast (ap (λ k. k ⊕ r) (xor_comm r (sum_of columns r)) ∙ xor_again (sum_of columns r) r)
        (sum_add (sum_old rows r (C.covers r inside)) (sum_new rows r))

    pub check_more : (p : ℕ) → bit_at p (sum_of columns r) ≡ 1 → Checks N (rows ++ (r ∷ [])) (add_row p (sum_of columns r) columns)
    unfolding add_row cleared
    check_more p set = record {
      wide = length-map columns (cleared p z) ∙ C.wide;
      kills = λ x S. ap (sum_of (add_row p z columns)) (S.is ∙ sum_last rows r S.choice) ∙ gone S.choice;
      covers = λ x h. sum_cast (covered x) (sum_add (sum_old rows r (C.covers x h)) (sum_chosen (bit_at p (sum_of columns x)) syndrome_sum));
    }
      where
        z : ℕ
        z = sum_of columns r

        gone : (i : ℕ) → sum_of (add_row p z columns) (sum_of rows i ⊕ chosen (i / choices rows % 2) r) ≡ 0
        gone i = added_sum p z columns (sum_of rows i ⊕ chosen (i / choices rows % 2) r)
            ∙ ap (cleared p z) ((sum_xor columns).adds (sum_of rows i) (chosen (i / choices rows % 2) r)
            ∙ ap₂ (λ a b. a ⊕ b) (C.kills (sum_of rows i) (sum_is rows i)) (additive_chosen (sum_xor columns) (i / choices rows % 2) r))
            ∙ additive_chosen (cleared_adds p z) (i / choices rows % 2) z
            ∙ ap (chosen (i / choices rows % 2)) (cleared_self p z set)
            ∙ chosen_none (i / choices rows % 2)

        covered : (x : ℕ) → (x ⊕ sum_of columns x) ⊕ chosen (bit_at p (sum_of columns x)) z ≡ x ⊕ sum_of (add_row p z columns) x
        covered x = xor_assoc x (sum_of columns x) (chosen (bit_at p (sum_of columns x)) z) ∙ ap (λ k. x ⊕ k) (sym (added_sum p z columns x))

    -- a row that is a sum of those before it changes nothing
    pub check_same : sum_of columns r ≡ 0 → Checks N (rows ++ (r ∷ [])) columns
    check_same e = record {
      wide = C.wide;
      kills = λ x S. ap (sum_of columns) (S.is ∙ sum_last rows r S.choice)
          ∙ (sum_xor columns).adds (sum_of rows S.choice) (chosen (S.choice / choices rows % 2) r)
          ∙ ap₂ (λ a b. a ⊕ b) (C.kills (sum_of rows S.choice) (sum_is rows S.choice))
          (additive_chosen (sum_xor columns) (S.choice / choices rows % 2) r
          ∙ ap (chosen (S.choice / choices rows % 2)) e ∙ chosen_none (S.choice / choices rows % 2));
      covers = λ x h. sum_old rows r (C.covers x h);
    }
