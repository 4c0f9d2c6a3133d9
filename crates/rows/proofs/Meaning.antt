-- What the section of a table of sums is like, for any rows, be they sums of one another or not. Rows have the table of their reduced rows,
-- whose vertices and edges are known by sums: so at each depth the number of vertices is a power of 2, at each step that of edges. And at
-- an inner depth two words share a vertex exactly if a parity check gives them one syndrome at the cut.
use mathlib.Core.Path.{◌≡◌, sym, ap, ap₂, subst, ◌∙◌}
use mathlib.Core.Logic.{◌↔◌}
use mathlib.Core.List.{List, map}
use Prim.Native.Nat.{ℕ, suc, ◌^◌, ◌≤◌, ◌<◌}
use native.Mathlib.Omega.{arith}
use lib.ListN.{length, get_or, length-map}
use Rattle.trellis.specs.Lists.{◌∈◌}
use Rattle.trellis.specs.Word.{Word, word_at, joined}
use Rattle.trellis.specs.Own.{vertex_of, vertex_count, edge_count}
use Rattle.trellis.proofs.Vertices.{own_numbering}
use Rattle.rows.specs.Sums.{sum_of, IsSum, sums}
use Rattle.rows.specs.Table.{row_width, word_of, table_of, cut_at}
use Rattle.rows.specs.Check.{ParityCheck, syndrome_at}
use Rattle.rows.specs.Power.{Power}
use Rattle.rows.specs.Inner.Reduced.{reduced_rows, Narrow, Spans}
use Rattle.rows.specs.Inner.Edges.{edge_from}
use Rattle.rows.specs.Inner.Linear.{Linear, arcs_at}
use Rattle.rows.proofs.Sums.{sum_is, sum_power}
use Rattle.rows.proofs.Tables.{sum_at, sum_at_is, table_length, table_at, rectangular, shared_syndrome}
use Rattle.rows.proofs.Order.{reduced_sum}
use Rattle.rows.proofs.Growing.{narrow_sum, echelon, same_sums}
use Rattle.rows.proofs.Spanning.{Spanned, spanned}
use Rattle.rows.proofs.Ranks.{sums_power}
use Rattle.rows.proofs.Linear.{linear}
use Rattle.rows.proofs.Steps.{step_sums_lem, arcs_narrow}

-- ---- rows have the table of their reduced rows

pub same_table : (s n : ℕ) {N : ℕ} {rows columns : List ℕ} → Spans N rows columns → Narrow N rows
    → table_of s n rows ≡ table_of s n (reduced_rows columns)
unfolding table_of
same_table s n S narrow = ap (map (word_of s n)) (same_sums S narrow)

-- and these are as narrow
pub reduced_narrow : (M : ℕ) {N : ℕ} {rows columns : List ℕ} → Spans N rows columns → Narrow M rows → Narrow M (reduced_rows columns)
reduced_narrow M {N} {rows} {columns} S narrow j h = subst (λ x. x < 2 ^ M) (sum_power (reduced_rows columns) j)
    (narrow_sum M rows narrow (sum_of (reduced_rows columns) (2 ^ j))
    (reduced_sum S.checks S.reduced (sum_of (reduced_rows columns) (2 ^ j)) (sum_is (reduced_rows columns) (2 ^ j))))

-- ---- powers of 2

module _ (s n : ℕ) (rows : List ℕ) (some : 0 < n) (narrow : Narrow (row_width s n) rows) where
  abbrev S : Spanned (row_width s n) rows
  S = spanned (row_width s n) rows narrow

  abbrev B : List ℕ
  B = reduced_rows S.columns

  depth_linear : (t : ℕ) → t ≤ n → Linear s n B t
  depth_linear t h = linear s n (echelon S.spans) (omega arith) (reduced_narrow (row_width s n) S.spans narrow) some t h

  pub vertex_power : (t : ℕ) → t ≤ n → Power (vertex_count n (table_of s n rows) t)
  vertex_power t h = record {
    exponent = (depth_linear t h).dim;
    is = ap (λ table. vertex_count n table t) (same_table s n S.spans narrow) ∙ (depth_linear t h).count;
  }

  pub edge_power : (t : ℕ) → t < n → Power (edge_count n (table_of s n rows) t)
  unfolding edge_count
  edge_power t h =
      let L = depth_linear t (omega arith) in
      let M = depth_linear (suc t) h in
      let fs = arcs_at s n B M.dim t in
      let few = arcs_narrow s n t h L M in
      record {
        exponent = length (reduced_rows (spanned (row_width s n) fs few).columns);
        is = ap (λ table. edge_count n table t) (same_table s n S.spans narrow)
            ∙ ap length (step_sums_lem s n (echelon S.spans) (reduced_narrow (row_width s n) S.spans narrow) t h L M)
            ∙ length-map (sums fs) (edge_from M.dim) ∙ sums_power (row_width s n) fs few;
      }

-- ---- vertices by syndromes

pub share_syndrome : (s n : ℕ) {N : ℕ} {rows columns : List ℕ} → ParityCheck N rows columns → Narrow N rows → 0 < n → (t : ℕ) → 0 < t → t < n
    → (i j : ℕ) → i < length (table_of s n rows) → j < length (table_of s n rows)
    → (vertex_of n (table_of s n rows) t i ≡ vertex_of n (table_of s n rows) t j)
    ↔ (syndrome_at columns (cut_at s n t) (get_or (sums rows) i 0) ≡ syndrome_at columns (cut_at s n t) (get_or (sums rows) j 0))
share_syndrome s n {N} {rows} {columns} C narrow some t inner deep i j h k =
    let v = (own_numbering n table some (rectangular s n rows)).inner t inner deep i j h k in
    let w : joined n t (word_at table i) (word_at table j) ≡ joined n t (word_of s n (sum_at rows i)) (word_of s n (sum_at rows j)) =
    ap₂ (joined n t) (table_at s n rows i h) (table_at s n rows j k) in
    let e = shared_syndrome s n C t (omega arith) (sum_at rows i) (sum_at rows j) (sum i h) (bound i h) (sum j k) (bound j k) in
    (λ q. e.0 (subst (λ x. x ∈ table) w (v.0 q)), λ q. v.1 (subst (λ x. x ∈ table) (sym w) (e.1 q)))
  where
    table : List Word
    table = table_of s n rows

    sum : (m : ℕ) → m < length table → IsSum rows (sum_at rows m)
    sum m l = sum_at_is rows m (omega (arith, table_length s n rows))

    bound : (m : ℕ) → m < length table → sum_at rows m < 2 ^ N
    bound m l = narrow_sum N rows narrow (sum_at rows m) (sum m l)
