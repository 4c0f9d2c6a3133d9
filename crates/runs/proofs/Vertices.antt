-- What the runs say of a table at an inner depth t, from any key that tells the endings there apart: the table is rectangular exactly if
-- its runs agree; first_word i is the first word that shares its vertex with word i, rectangular or not; and where the table is rectangular,
-- the vertex of word i is the number of first words before first_word i, since vertices are numbered by ascending first word and a first
-- word is its own.
use mathlib.Core.Path.{◌≡◌, sym, ap, ◌∙◌}
use mathlib.Core.Logic.{◌↔◌}
use mathlib.Core.List.{List}
use Prim.Native.Nat.{ℕ, ◌≤◌, ◌<◌}
use native.Mathlib.Omega.{arith}
use lib.ListN.{length}
use lib.Dec.{eqb}
use Rattle.trellis.specs.Word.{Word, Table, RectangularAt}
use Rattle.trellis.specs.Own.{shares, first_sharing, key, keys, vertex_of, vertex_count}
use Rattle.trellis.proofs.Lists.{first_is}
use Rattle.trellis.proofs.Vertices.{key_inner, shares_yes, shares_of}
use Rattle.runs.specs.Inner.Runs.{first_like, below, number_of, Tells, first_word_by, RunsAgree}
use Rattle.runs.specs.Inner.Cuts.{beginning_at, ending_at}
use Rattle.runs.proofs.Counting.{below_cong, rank_counts, length_counts}
use Rattle.runs.proofs.Agreement.{first_shares, first_least, first_le_lem, first_twice, agree_iff}
use Rattle.runs.proofs.Cuts.{cut, shared_joined, joined_shared, rectangle_of, of_rectangle}

module _ {n : ℕ} {table : List Word} (G : Table n table) (t : ℕ) (inner : 0 < t) (deep : t < n)
    {told : ℕ → ℕ} (K : Tells (length table) (ending_at n table t) told) where
  abbrev first_word : ℕ → ℕ
  first_word i = first_word_by (beginning_at n table t) told i

  le : t ≤ n
  le = omega arith

  pub rectangular_iff : RectangularAt n t table
      ↔ RunsAgree (length table) (first_like (beginning_at n table t)) (first_word_by (beginning_at n table t) told)
  rectangular_iff =
      let a = agree_iff (cut G t le) K in
      (λ R. a.0 (rectangle_of G t le R), λ A. of_rectangle G t le (a.1 A))

  pub first_sharing_is : (i : ℕ) → i < length table → first_sharing n table t i ≡ first_word i
  unfolding first_sharing
  first_sharing_is i h =
      let l = first_le_lem (cut G t le) K i in
      first_is (λ j. shares n table t j i) i (first_word i) (record {
        most = l;
        hit = λ k. shares_of n table t (first_word i) i
            (shared_joined G t le (first_word i) i (omega arith) h (first_shares (cut G t le) K i h));
        miss = λ j k s. let m = first_least (cut G t le) K i j h (joined_shared G t le j i (shares_yes n table t j i s)) in omega arith;
      })

  -- ---- where the table is rectangular

  module _ (R : RectangularAt n t table) where
    key_is : (i : ℕ) → i < length table → key n table t i ≡ first_word i
    key_is i h = key_inner n table t i inner deep ∙ first_sharing_is i h

    key_le : (i : ℕ) → i < length table → key n table t i ≤ i
    key_le i h = omega (arith, key_is i h, first_le_lem (cut G t le) K i)

    key_twice : (i : ℕ) → i < length table → key n table t (key n table t i) ≡ key n table t i
    key_twice i h =
        ap (key n table t) (key_is i h)
        ∙ key_is (first_word i) (omega (arith, first_le_lem (cut G t le) K i))
        ∙ first_twice (cut G t le) K (rectangle_of G t le R) i h
        ∙ sym (key_is i h)

    pub vertex_is : (i : ℕ) → i < length table → vertex_of n table t i ≡ number_of (first_word_by (beginning_at n table t) told) i
    unfolding vertex_of keys number_of
    vertex_is i h =
        rank_counts (length table) (key n table t) key_le key_twice i h
        ∙ ap (below (λ j. eqb (key n table t j) j)) (key_is i h)
        ∙ below_cong (λ j. eqb (key n table t j) j) (λ j. eqb (first_word j) j) (first_word i)
        (λ j k. ap (λ x. eqb x j) (key_is j (omega (arith, first_le_lem (cut G t le) K i))))

    pub count_is_lem : vertex_count n table t ≡ below (λ j. eqb (first_word_by (beginning_at n table t) told j) j) (length table)
    unfolding vertex_count keys
    count_is_lem =
        length_counts (length table) (key n table t) key_le key_twice
        ∙ below_cong (λ j. eqb (key n table t j) j) (λ j. eqb (first_word j) j) (length table) (λ j k. ap (λ x. eqb x j) (key_is j k))
