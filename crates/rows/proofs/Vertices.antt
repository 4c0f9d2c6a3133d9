-- The vertices of a table of sums at an inner depth, by syndromes. Word number i is the sum of the rows that the bits of i choose, since
-- the rows are reduced. Two words share a vertex exactly if their syndromes at the cut agree; so the first word that shares with word i is
-- the first with its syndrome, and vertices are numbered by first syndromes.
use mathlib.Core.Path.{◌≡◌, sym, ap, ap₂, subst, ◌∙◌}
use mathlib.Core.Logic.{◌↔◌}
use mathlib.Core.List.{List}
use Prim.Native.Nat.{ℕ, ◌*◌, ◌/◌, ◌^◌, ◌≤◌, ◌<◌}
use native.Mathlib.Omega.{arith}
use native.Mathlib.Nat.{add-zero}
use lib.ListN.{length, get_or}
use lib.Dec.{T, eqb}
use lib.Pow.{pow_pos}
use lib.Bits.{xor_shr, xor_block}
use Rattle.trellis.specs.Lists.{◌∈◌}
use Rattle.trellis.specs.Word.{Word, word_at, joined}
use Rattle.trellis.specs.Own.{shares, first_sharing, key, keys, vertex_of, vertex_count}
use Rattle.trellis.proofs.Lists.{first_is, each_at}
use Rattle.trellis.proofs.Vertices.{key_inner, shares_yes, shares_of}
use Rattle.runs.specs.Inner.Runs.{first_like, below, number_of}
use Rattle.runs.proofs.FirstLike.{like_le, like_is, like_least, like_twice}
use Rattle.runs.proofs.Counting.{below_cong, rank_counts, length_counts}
use Rattle.rows.specs.Sums.{◌⊕◌, sum_of, IsSum}
use Rattle.rows.specs.Table.{word_of, cut_at, table_of}
use Rattle.rows.specs.Check.{syndrome_at}
use Rattle.rows.specs.Inner.Reduced.{Narrow, Echelon}
use Rattle.rows.specs.Inner.Numbering.{number, numbers_below}
use Rattle.rows.proofs.Sums.{Additive, sum_xor, sum_is}
use Rattle.rows.proofs.Check.{parity_check}
use Rattle.rows.proofs.Tables.{table_length, table_at, shared_syndrome}
use Rattle.rows.proofs.Growing.{echelon_sums, echelon_length, narrow_sum}

-- cutting keeps addition
pub cut_adds : (c : ℕ) → Additive (λ x. x / 2 ^ c * 2 ^ c)
cut_adds c = record { adds = λ x y. ap (λ k. k * 2 ^ c) (xor_shr x y c) ∙ shifted (x / 2 ^ c) (y / 2 ^ c) }
  where
    shifted : (a b : ℕ) → (a ⊕ b) * 2 ^ c ≡ (a * 2 ^ c) ⊕ (b * 2 ^ c)
    shifted a b = sym (ap₂ (λ x y. x ⊕ y) (sym (add-zero (a * 2 ^ c))) (sym (add-zero (b * 2 ^ c)))
        ∙ xor_block c a b 0 0 (pow_pos c) (pow_pos c) ∙ add-zero ((a ⊕ b) * 2 ^ c))

-- so syndromes at a cut keep addition of choices
pub cut_syndrome_adds : (columns rows : List ℕ) (c : ℕ) → Additive (λ i. syndrome_at columns c (sum_of rows i))
cut_syndrome_adds columns rows c = record {
  adds = λ i j.
      ap (syndrome_at columns c) ((sum_xor rows).adds i j) ∙ ap (sum_of columns) ((cut_adds c).adds (sum_of rows i) (sum_of rows j))
      ∙ (sum_xor columns).adds (sum_of rows i / 2 ^ c * 2 ^ c) (sum_of rows j / 2 ^ c * 2 ^ c);
}

module _ (s n : ℕ) {N : ℕ} {rows columns : List ℕ} (E : Echelon N rows columns) (narrow : Narrow N rows) where
  abbrev table : List Word
  table = table_of s n rows

  -- word number i as a row of bits
  abbrev pub bits_of : ℕ → ℕ
  bits_of i = sum_of rows i

  pub table_count : length (table_of s n rows) ≡ 2 ^ length rows
  table_count = table_length s n rows ∙ echelon_length E narrow

  pub word_is : (i : ℕ) → i < 2 ^ length rows → word_at (table_of s n rows) i ≡ word_of s n (sum_of rows i)
  word_is i h = table_at s n rows i (omega (arith, table_count)) ∙ ap (word_of s n)
      (ap (λ l. get_or l i 0) (echelon_sums E narrow) ∙ each_at bits_of (2 ^ length rows) i 0 h)

  pub bits_sum : (i : ℕ) → IsSum rows (bits_of i)
  bits_sum i = sum_is rows i

  bits_lt : (i : ℕ) → bits_of i < 2 ^ N
  bits_lt i = narrow_sum N rows narrow (bits_of i) (bits_sum i)

  module _ (t : ℕ) (inner : 0 < t) (deep : t < n) where
    -- the syndrome of word i at depth t
    abbrev pub syndrome : ℕ → ℕ
    syndrome i = syndrome_at columns (cut_at s n t) (sum_of rows i)

    pub syndrome_adds : Additive syndrome
    syndrome_adds = cut_syndrome_adds columns rows (cut_at s n t)

    pub share_iff : (i j : ℕ) → i < 2 ^ length rows → j < 2 ^ length rows → T (shares n (table_of s n rows) t i j)
        ↔ (syndrome i ≡ syndrome j)
    share_iff i j h k =
        let e =
        shared_syndrome s n (parity_check E.spans.checks) t (omega arith) (bits_of i) (bits_of j) (bits_sum i) (bits_lt i) (bits_sum j) (bits_lt j) in
        let w : joined n t (word_at table i) (word_at table j) ≡ joined n t (word_of s n (bits_of i)) (word_of s n (bits_of j)) =
        ap₂ (joined n t) (word_is i h) (word_is j k) in (
          λ q. e.0 (subst (λ v. v ∈ table) w (shares_yes n table t i j q)),
          λ q. shares_of n table t i j (subst (λ v. v ∈ table) (sym w) (e.1 q)),
        )

    first_sharing_lem : (i : ℕ) → i < 2 ^ length rows → first_sharing n table t i ≡ first_like syndrome i
    unfolding first_sharing
    first_sharing_lem i h =
        let l = like_le syndrome i in
        first_is (λ j. shares n table t j i) i (first_like syndrome i) (record {
          most = l;
          hit = λ k. (share_iff (first_like syndrome i) i (omega arith) h).1 (like_is syndrome i);
          miss = λ j k q. let m = like_least syndrome i j ((share_iff j i (omega arith) h).0 q) in omega arith;
        })

    key_is : (i : ℕ) → i < 2 ^ length rows → key n table t i ≡ first_like syndrome i
    key_is i h = key_inner n table t i inner deep ∙ first_sharing_lem i h

    key_le : (i : ℕ) → i < length table → key n table t i ≤ i
    key_le i h = omega (arith, key_is i (omega (arith, table_count)), like_le syndrome i)

    key_twice : (i : ℕ) → i < length table → key n table t (key n table t i) ≡ key n table t i
    key_twice i h =
        let k : i < 2 ^ length rows = omega (arith, table_count) in
        ap (key n table t) (key_is i k) ∙ key_is (first_like syndrome i) (omega (arith, like_le syndrome i))
        ∙ like_twice syndrome i ∙ sym (key_is i k)

    -- the vertex of word i is the number of its syndrome
    pub vertex_is : (i : ℕ) → i < 2 ^ length rows → vertex_of n (table_of s n rows) t i ≡ number syndrome i
    unfolding vertex_of keys number_of
    vertex_is i h =
        rank_counts (length table) (key n table t) key_le key_twice i (omega (arith, table_count))
        ∙ ap (below (λ j. eqb (key n table t j) j)) (key_is i h)
        ∙ below_cong (λ j. eqb (key n table t j) j) (λ j. eqb (first_like syndrome j) j) (first_like syndrome i)
        (λ j k. ap (λ x. eqb x j) (key_is j (omega (arith, like_le syndrome i))))

    pub count_is_lem : vertex_count n (table_of s n rows) t ≡ numbers_below syndrome (2 ^ length rows)
    unfolding vertex_count keys
    count_is_lem =
        length_counts (length table) (key n table t) key_le key_twice
        ∙ ap (below (λ j. eqb (key n table t j) j)) table_count
        ∙ below_cong (λ j. eqb (key n table t j) j) (λ j. eqb (first_like syndrome j) j) (2 ^ length rows)
        (λ j k. ap (λ x. eqb x j) (key_is j k))
