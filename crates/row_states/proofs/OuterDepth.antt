-- An outer depth. The reduced rows of the values' check make, by rising choice, all sums of the values, ascending; they are at most 4,
-- since the values have 4 bits. The rank of a sum of values is the sum of these values' ranks. So the sums of the ranks, by rising choice,
-- are the numbers of all words.
use mathlib.Core.Path.{◌≡◌, sym, ap, ◌∙◌}
use mathlib.Core.List.{List, map}
use Prim.Native.Nat.{ℕ, ◌+◌, ◌^◌, ◌≤◌}
use native.Mathlib.Omega.{arith}
use lib.ListN.{length, take, drop, length-map}
use lib.Seq.{length-take-le, take-append_seam}
use lib.Pow.{pow_mono}
use Rattle.trellis.specs.Lists.{each, rank}
use Rattle.trellis.specs.Inner.Write.{Wrote}
use Rattle.trellis.proofs.Lists.{length_run, each_at}
use Rattle.trellis.proofs.Write.{wrote_length, wrote_front, wrote_before, wrote_at, wrote_behind}
use Rattle.rows.specs.Sums.{sum_of, sums}
use Rattle.rows.specs.Inner.Reduced.{Narrow, Spans, reduced_rows}
use Rattle.rows.proofs.Growing.{spans_sums}
use Rattle.rows.proofs.Spanning.{reduced_few}
use Rattle.rows.proofs.Ranks.{rank_sum}
use Rattle.parity.specs.Inner.Steps.{Basis}
use Rattle.parity.specs.Inner.Front.{Front}
use Rattle.reduced_rows.proofs.ReadingOff.{basis_length}
use Rattle.row_states.specs.Inner.Outer.{OuterAsked, OuterPut}

-- all sums of rows by rising choice
abbrev pub all_sums : List ℕ → List ℕ
all_sums rows = each (sum_of rows) (2 ^ length rows)

all_length : (rows : List ℕ) → length (all_sums rows) ≡ 2 ^ length rows
all_length rows = length_run (sum_of rows) 0 (2 ^ length rows)

pub values_narrow : {values old : List ℕ} {place : ℕ} → OuterAsked values old place → Narrow 16 values
values_narrow A j h = omega (arith, A.narrow j h)

module _ {values old columns base given : List ℕ} {place dim : ℕ} (A : OuterAsked values old place) (S : Spans 16 values columns)
    (B : Basis columns base dim) (lent : given ≡ take dim base) where
  -- ---- the states

  given_are : given ≡ reduced_rows columns
  given_are = lent ∙ B.are

  given_length : dim ≡ length given
  given_length = basis_length B ∙ ap length (sym lent)

  basis_few : dim ≤ 4
  basis_few = omega (arith, given_length, ap length given_are, reduced_few {N = 16} {M = 4} S (values_narrow A) A.narrow)

  basis_sums : 2 ^ length (given) ≤ 16
  basis_sums = pow_mono {i = length (given)} {j = 4} (omega (arith, given_length, basis_few))

  pub basis_asked : (length (given) ≤ 10) × (0 + 2 ^ length (given) ≤ 16)
  basis_asked = (omega (arith, given_length, basis_few), omega (arith, basis_sums))

  sums_are : all_sums (given) ≡ sums values
  sums_are = ap all_sums given_are ∙ sym (spans_sums S (values_narrow A))

  module _ {none keys : List ℕ} {count : ℕ} (W : Wrote none 0 (all_sums (given)) keys count) (sixteen : length none ≡ 16) where
    count_is_lem : count ≡ length (all_sums (given))
    count_is_lem = omega (arith, W.end_is)

    keys_sixteen : length keys ≡ 16
    keys_sixteen = wrote_length W ∙ sixteen

    pub keys_inside : count ≤ length keys
    keys_inside = omega (arith, count_is_lem, all_length (given), basis_sums, keys_sixteen)

    pub keys_length : count ≡ length (take count keys)
    keys_length = sym (length-take-le count keys keys_inside)

    keys_are : take count keys ≡ sums values
    keys_are =
        let room : length (all_sums (given)) ≤ length none = omega (arith, count_is_lem, keys_inside, wrote_length W) in
        ap (λ k. take k keys) count_is_lem ∙ ap (take (length (all_sums (given)))) (wrote_front W room)
        ∙ take-append_seam (all_sums (given)) (drop (length (all_sums (given))) none) ∙ sums_are

    pub keys_few : length (take count keys) ≤ 1024
    keys_few = omega (arith, keys_length, keys_inside, keys_sixteen)

    -- ---- the words

    module _ {ranks : List ℕ} (R : Front (map (λ x. rank x (take count keys)) values) ranks) where
      ranks_are : take (length values) ranks ≡ map (λ x. rank x (sums values)) values
      ranks_are = ap (λ k. take k ranks) (sym (length-map values (λ x. rank x (take count keys)))) ∙ R.are
          ∙ ap (λ l. map (λ x. rank x l) values) keys_are

      pub ranks_length : length values ≡ length (take (length values) ranks)
      ranks_length = sym (length-take-le (length values) ranks (omega (arith, A.few, R.sixteen)))

      ranks_choices : 2 ^ length values ≡ 2 ^ length (take (length values) ranks)
      ranks_choices = ap (λ k. 2 ^ k) ranks_length

      pub ranks_asked : (length (take (length values) ranks) ≤ 10) × (place + 2 ^ length (take (length values) ranks) ≤ length old)
      ranks_asked = (omega (arith, ranks_length, A.few), omega (arith, ranks_choices, A.room))

      pub outer_put : {new : List ℕ} {end : ℕ} → Wrote old place (all_sums (take (length values) ranks)) new end
          → OuterPut values old place new keys dim
      outer_put {new} {end} P = record {
        len = wrote_length P;
        row = λ i h.
            wrote_at P (omega (arith, long, A.room)) i (omega (arith, long))
            ∙ each_at (sum_of (take (length values) ranks)) (2 ^ length (take (length values) ranks)) i 0 (omega (arith, ranks_choices))
            ∙ ap (λ l. sum_of l i) ranks_are ∙ sym (rank_sum 16 values (values_narrow A) i);
        front = λ i h. wrote_before P i h;
        behind = λ i h. wrote_behind P i (omega (arith, long));
        states = record { are = ap (λ k. take k keys) (sym sums_count) ∙ keys_are; sixteen = keys_sixteen };
        counted = ap (λ k. 2 ^ k) given_length ∙ sym (all_length (given)) ∙ ap length sums_are;
        few = basis_few;
      }
        where
          sums_count : count ≡ length (sums values)
          sums_count = count_is_lem ∙ ap length sums_are

          long : length (all_sums (take (length values) ranks)) ≡ 2 ^ length values
          long = all_length (take (length values) ranks) ∙ sym ranks_choices
