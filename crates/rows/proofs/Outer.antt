-- The vertices of the outer depths of a table of sums. At depth 0 the key of a word is its root state, the high bits of its row, and at
-- depth n its goal state, the low bits. Both keep addition; so the keys are the sums of the rows' keys, and the vertex of a word, the rank
-- of its key, is the sum of the ranks of the rows' keys.
use mathlib.Core.Path.{◌≡◌, sym, ap, ap₂, subst, ◌∙◌}
use mathlib.Core.List.{List, map}
use Prim.Native.Nat.{ℕ, ◌+◌, ◌/◌, ◌%◌, ◌^◌, ◌<◌}
use native.Mathlib.Omega.{arith}
use native.Mathlib.Nat.{mod-le}
use lib.ListN.{length, get_or, length-map}
use lib.Pow.{shr_le}
use lib.Bits.{xor_shr, xor_mod}
use Rattle.trellis.specs.Lists.{rank}
use Rattle.trellis.specs.Word.{Word}
use Rattle.trellis.specs.Own.{key, keys, vertex_of}
use Rattle.trellis.proofs.Vertices.{key_root, key_goal}
use Rattle.rows.specs.Sums.{sum_of, sums}
use Rattle.rows.specs.Table.{table_of}
use Rattle.rows.specs.Inner.Reduced.{Narrow, Echelon}
use Rattle.rows.proofs.Sums.{Additive, sum_map}
use Rattle.rows.proofs.Tables.{map_at}
use Rattle.rows.proofs.Vertices.{table_count, word_is}
use Rattle.rows.proofs.Edges.{ascending_sums}
use Rattle.rows.proofs.Ranks.{rank_sum}

pub high_adds : (c : ℕ) → Additive (λ x. x / 2 ^ c)
high_adds c = record { adds = λ x y. xor_shr x y c }

pub low_adds : (c : ℕ) → Additive (λ x. x % 2 ^ c)
low_adds c = record { adds = λ x y. xor_mod x y c }

-- rows of N bits become rows of M bits where f makes numbers of M bits of numbers of N bits
pub map_narrow : (N M : ℕ) (f : ℕ → ℕ) (rows : List ℕ) → ((x : ℕ) → x < 2 ^ N → f x < 2 ^ M) → Narrow N rows → Narrow M (map f rows)
map_narrow N M f rows h narrow j k =
    let l : j < length rows = omega (arith, length-map rows f) in
    subst (λ x. x < 2 ^ M) (sym (map_at f 0 0 rows j l)) (h (get_or rows j 0) (narrow j l))

module _ (s n : ℕ) {N : ℕ} {rows columns : List ℕ} (E : Echelon N rows columns) (narrow : Narrow N rows) where
  abbrev table : List Word
  table = table_of s n rows

  -- a depth where the key of a word is f of its row
  module _ (t : ℕ) {f : ℕ → ℕ} (A : Additive f)
      (key_is : (i : ℕ) → i < 2 ^ length rows → key n (table_of s n rows) t i ≡ f (sum_of rows i)) where
    outer_keys : keys n table t ≡ sums (map f rows)
    unfolding keys
    outer_keys = ascending_sums (key n table t) (map f rows) (length table)
        (table_count s n E narrow ∙ ap (λ k. 2 ^ k) (sym (length-map rows f)))
        (λ i h. key_is i (omega (arith, table_count s n E narrow)) ∙ sym (sum_map A rows i))

    outer_vertex : (i : ℕ) → i < 2 ^ length rows → vertex_of n table t i ≡ rank (f (sum_of rows i)) (sums (map f rows))
    unfolding vertex_of
    outer_vertex i h = ap₂ rank (key_is i h) outer_keys

    outer_row : Narrow N (map f rows) → (i : ℕ) → i < 2 ^ length rows
        → vertex_of n table t i ≡ sum_of (map (λ x. rank x (sums (map f rows))) (map f rows)) i
    outer_row keys-narrow i h = outer_vertex i h ∙ ap (λ x. rank x (sums (map f rows))) (sym (sum_map A rows i))
        ∙ rank_sum N (map f rows) keys-narrow i

  -- ---- depth 0

  root_key : (i : ℕ) → i < 2 ^ length rows → key n table 0 i ≡ sum_of rows i / 2 ^ (n + s)
  root_key i h = key_root n table i ∙ ap (λ (w : Word). w.root) (word_is s n E narrow i h)

  pub root_keys : keys n (table_of s n rows) 0 ≡ sums (map (λ r. r / 2 ^ (n + s)) rows)
  root_keys = outer_keys 0 (high_adds (n + s)) root_key

  pub root_vertex : (i : ℕ) → i < 2 ^ length rows
      → vertex_of n (table_of s n rows) 0 i ≡ rank (sum_of rows i / 2 ^ (n + s)) (sums (map (λ r. r / 2 ^ (n + s)) rows))
  root_vertex = outer_vertex 0 (high_adds (n + s)) root_key

  pub root_row : (i : ℕ) → i < 2 ^ length rows → vertex_of n (table_of s n rows) 0 i
      ≡ sum_of (map (λ f. rank f (sums (map (λ r. r / 2 ^ (n + s)) rows))) (map (λ r. r / 2 ^ (n + s)) rows)) i
  root_row = outer_row 0 (high_adds (n + s)) root_key
      (map_narrow N N (λ r. r / 2 ^ (n + s)) rows (λ x h. omega (arith, shr_le x (n + s))) narrow)

  -- ---- depth n

  module _ (some : 0 < n) where
    goal_key : (i : ℕ) → i < 2 ^ length rows → key n table n i ≡ sum_of rows i % 2 ^ s
    goal_key i h = key_goal n table i some ∙ ap (λ (w : Word). w.goal) (word_is s n E narrow i h)

    pub goal_keys : keys n (table_of s n rows) n ≡ sums (map (λ r. r % 2 ^ s) rows)
    goal_keys = outer_keys n (low_adds s) goal_key

    pub goal_vertex : (i : ℕ) → i < 2 ^ length rows
        → vertex_of n (table_of s n rows) n i ≡ rank (sum_of rows i % 2 ^ s) (sums (map (λ r. r % 2 ^ s) rows))
    goal_vertex = outer_vertex n (low_adds s) goal_key

    pub goal_row : (i : ℕ) → i < 2 ^ length rows → vertex_of n (table_of s n rows) n i
        ≡ sum_of (map (λ f. rank f (sums (map (λ r. r % 2 ^ s) rows))) (map (λ r. r % 2 ^ s) rows)) i
    goal_row = outer_row n (low_adds s) goal_key (map_narrow N N (λ r. r % 2 ^ s) rows (λ x h. omega (arith, mod-le x (2 ^ s))) narrow)
