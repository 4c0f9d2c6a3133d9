-- Ranks of sums among all sums keep addition. The rank of a sum is the choice of reduced rows that makes it; the sum of two such choices
-- makes the sum of the two, and it is the only choice that does. So the rank of a sum of rows is the sum of the ranks of these rows.
use mathlib.Core.Path.{◌≡◌, sym, ap, ap₂, ◌∙◌}
use mathlib.Core.List.{List, map}
use Prim.Native.Nat.{ℕ, ◌%◌, ◌^◌, ◌<◌}
use native.Mathlib.Omega.{arith}
use native.Mathlib.Nat.{mod-lt}
use lib.ListN.{length, length-map}
use lib.Pow.{pow_pos}
use lib.Bits.{xor_lt}
use Rattle.trellis.specs.Lists.{rank}
use Rattle.rows.specs.Sums.{◌⊕◌, sum_of, choices, IsSum, sums}
use Rattle.rows.specs.Inner.Reduced.{reduced_rows, Narrow}
use Rattle.rows.proofs.Sums.{Additive, sum_xor, sum_is, sum_low, sum_power}
use Rattle.rows.proofs.Tables.{map_at}
use Rattle.rows.proofs.Order.{sum_reduced}
use Rattle.rows.proofs.Growing.{narrow_sum}
use Rattle.rows.proofs.Spanning.{Spanned, spanned}
pub use Rattle.rows.proofs.Spanning.{spans_length}
use Rattle.rows.proofs.Edges.{sum_parts, rank_is}

module _ (N : ℕ) (fs : List ℕ) (narrow : Narrow N fs) where
  -- the number of sums is a power of 2
  pub sums_power : length (sums fs) ≡ 2 ^ length (reduced_rows (spanned N fs narrow).columns)
  sums_power = spans_length (spanned N fs narrow).spans narrow

  abbrev S : Spanned N fs
  S = spanned N fs narrow

  abbrev B : List ℕ
  B = reduced_rows S.columns

  -- the choice of reduced rows for the sum of choice i
  made : (i : ℕ) → IsSum B (sum_of fs i)
  made i = sum_reduced S.spans.checks S.spans.reduced (sum_of fs i) (narrow_sum N fs narrow (sum_of fs i) (sum_is fs i)) (sum_is fs i)

  rank_of : (v x : ℕ) → v < choices B → sum_of B v ≡ x → rank x (sums fs) ≡ v
  rank_of v x h e = rank_is S.spans.checks S.spans.reduced (narrow_sum N fs narrow) v x h e

  rank_made : (i : ℕ) → rank (sum_of fs i) (sums fs) ≡ (made i).choice
  rank_made i = rank_of (made i).choice (sum_of fs i) (made i).inside (sym (made i).is)

  pub rank_adds : Additive (λ i. rank (sum_of fs i) (sums fs))
  rank_adds = record {
    adds = λ i j.
        rank_of ((made i).choice ⊕ (made j).choice) (sum_of fs (i ⊕ j))
        (xor_lt (length B) (made i).choice (made j).choice (made i).inside (made j).inside)
        ((sum_xor B).adds (made i).choice (made j).choice ∙ ap₂ (λ a b. a ⊕ b) (sym (made i).is) (sym (made j).is)
        ∙ sym ((sum_xor fs).adds i j))
        ∙ ap₂ (λ a b. a ⊕ b) (sym (rank_made i)) (sym (rank_made j));
  }

  pub rank_sum : (i : ℕ) → rank (sum_of fs i) (sums fs) ≡ sum_of (map (λ f. rank f (sums fs)) fs) i
  rank_sum i = ap (λ x. rank x (sums fs)) (sym (sum_low fs i)) ∙ low (i % choices fs) (mod-lt i (pow_pos (length fs)))
      ∙ ap (λ k. sum_of parts (i % 2 ^ k)) (sym long) ∙ sum_low parts i
    where
      parts : List ℕ
      parts = map (λ f. rank f (sums fs)) fs

      long : length parts ≡ length fs
      long = length-map fs (λ f. rank f (sums fs))

      low : (k : ℕ) → k < choices fs → rank (sum_of fs k) (sums fs) ≡ sum_of parts k
      low k h = sum_parts rank_adds parts
          (λ b l. ap (λ x. rank x (sums fs)) (sum_power fs b) ∙ sym (map_at (λ f. rank f (sums fs)) 0 0 fs b (omega (arith, long))))
          k (omega (arith, ap (λ m. 2 ^ m) long))
