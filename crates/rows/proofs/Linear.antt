-- Vertices of a table of sums keep addition at every depth, where the rows are in reduced form. At an inner depth vertices are numbered by
-- first syndromes; syndromes keep addition, so by doubling the numbers do too. At depth 0 and depth n they are ranks of states, which keep
-- addition as well. There are 2 ^ d vertices, and d is at most the number of bits before the cut, and at most that behind it, since either
-- part of a word decides its syndrome: before the cut by definition, and behind it because the whole word has syndrome 0.
use mathlib.Core.Path.{◌≡◌, refl, sym, ap, subst, ◌∙◌}
use mathlib.Core.List.{List, map}
use Prim.Native.Nat.{ℕ, zero, suc, ◌+◌, ◌*◌, ◌/◌, ◌%◌, ◌^◌, ◌≤◌, ◌<◌}
use native.Mathlib.Omega.{arith}
use native.Mathlib.Nat.{mod-lt, mod-le, le_antisymm}
use native.Mathlib.Decide.{dec_lt}
use lib.ListN.{length, length-map}
use lib.Seq.{ext_get_or}
use lib.Dec.{ltb, eqb, eqb→eq, eqb_refl}
use lib.Pow.{pow_pos, pow-lt, pow_mono, shr_lt, shr_le}
use Rattle.trellis.specs.Lists.{◌∈◌, each, rank, ascending}
use Rattle.trellis.specs.Own.{keys, vertex_of, vertex_count}
use Rattle.trellis.proofs.Lists.{From, in_each, of_each, each_at, length_run}
use Rattle.trellis.proofs.Ascending.{numbers, once_of, ascends, of_ascending}
use Rattle.trellis.proofs.Distinct.{once_le, once_map}
use Rattle.trellis.proofs.Vertices.{vertex_below}
use Rattle.runs.specs.Inner.Runs.{first_like}
use Rattle.runs.proofs.FirstLike.{like_le, like_is, like_least, like_eq, like_twice}
use Rattle.runs.proofs.Counting.{length_counts}
use Rattle.rows.specs.Sums.{sum_of, choices, sums}
use Rattle.rows.specs.Table.{row_width, cut_at, table_of}
use Rattle.rows.specs.Inner.Reduced.{reduced_rows, Narrow, Echelon}
use Rattle.rows.specs.Inner.Numbering.{numbers_below, Numbered}
use Rattle.rows.specs.Inner.Linear.{parts_at, Linear}
use Rattle.rows.proofs.Sums.{Additive, sum_is, sum_low, sum_power}
use Rattle.rows.proofs.Tables.{of_map, rest_is}
use Rattle.rows.proofs.Growing.{narrow_sum}
use Rattle.rows.proofs.Spanning.{power_le, spanned, reduced_few}
use Rattle.rows.proofs.Numbering.{numbered_none, numbered_old, numbered_new}
use Rattle.rows.proofs.Vertices.{table_count, syndrome, syndrome_adds, vertex_is, count_is_lem}
use Rattle.rows.proofs.Ranks.{sums_power}
use Rattle.rows.proofs.Outer.{map_narrow, root_keys, root_row, goal_keys, goal_row}

pub power_same : (a b : ℕ) → 2 ^ a ≡ 2 ^ b → a ≡ b
power_same a b e = le_antisymm (power_le a b (omega arith)) (power_le b a (omega arith))

-- ---- numbers of a function that keeps addition

pub record Dimension (g : ℕ → ℕ) (b : ℕ) : Type 0 where
  pub dim : ℕ
  pub is : Numbered g b dim

pub numbered : {g : ℕ → ℕ} → Additive g → (b : ℕ) → Dimension g b
numbered A zero = record { dim = 0; is = numbered_none A }
numbered {g} A (suc b) = go (numbered A b) (dec_lt (first_like g (2 ^ b)) (2 ^ b))
  where
    go : Dimension g b → Dec (first_like g (2 ^ b) < 2 ^ b) → Dimension g (suc b)
    go D (yes h) = record { dim = D.dim; is = numbered_old A D.is (first_like g (2 ^ b)) h (like_is g (2 ^ b)) }
    go D (no h) = record {
      dim = suc D.dim;
      is = numbered_new A D.is (λ o k e. let l = like_least g (2 ^ b) o e in omega arith);
    }

-- ---- there are no more numbers than values

-- where all values of g are among m values, there are at most m numbers
numbers_few : (g : ℕ → ℕ) (W : ℕ) (value : ℕ → ℕ) (m : ℕ) → ((i : ℕ) → i < W → From value m (g i)) → numbers_below g W ≤ m
numbers_few g W value m h = omega (
  arith,
  length_counts W (first_like g) (λ i k. like_le g i) (λ i k. like_twice g i),
  length-map firsts g,
  once_le eqb eqb→eq eqb_refl (map g firsts) (each value m)
      (once_map g firsts (once_of ltb numbers firsts (ascends ltb numbers (each (first_like g) W))) apart) inside,
  length_run value 0 m,
)
  where
    firsts : List ℕ
    firsts = ascending ltb (each (first_like g) W)

    source : (x : ℕ) → x ∈ firsts → From (first_like g) W x
    source x u = of_each (first_like g) W x (of_ascending ltb numbers x (each (first_like g) W) u)

    apart : (x y : ℕ) → x ∈ firsts → y ∈ firsts → g x ≡ g y → x ≡ y
    apart x y p q e =
        let a = source x p in
        let b = source y q in
        a.is ∙ like_eq g a.at b.at (sym (like_is g a.at) ∙ ap g (sym a.is) ∙ e ∙ ap g b.is ∙ like_is g b.at)
        ∙ sym b.is

    inside : (y : ℕ) → y ∈ map g firsts → y ∈ each value m
    inside y u =
        let I = of_map g firsts y u in
        let a = source I.source I.listed in
        let v = h a.at a.below in
        in_each value m v.at y v.below (I.is ∙ ap g a.is ∙ like_is g a.at ∙ v.is)

-- ---- one depth

module _ (s n : ℕ) {N : ℕ} {rows columns : List ℕ} (E : Echelon N rows columns) (narrow : Narrow N rows) where
  -- where vertices are sums of parts, the parts are the vertices of the rows
  linear_of : (t dim : ℕ) (parts : List ℕ) → vertex_count n (table_of s n rows) t ≡ 2 ^ dim → length parts ≡ length rows
      → ((i : ℕ) → i < 2 ^ length rows → vertex_of n (table_of s n rows) t i ≡ sum_of parts i)
      → dim ≤ s + t → dim ≤ cut_at s n t → Linear s n rows t
  unfolding parts_at
  linear_of t dim parts count wide is before behind = record {
    dim = dim;
    count = count;
    is = λ i h. is i h ∙ ap (λ l. sum_of l i) (sym same);
    small = λ i. subst (λ x. x < 2 ^ dim) (sum_low parts i ∙ ap (λ l. sum_of l i) (sym same))
        (low (i % choices parts) (omega (arith, mod-lt i (pow_pos (length parts)), ap (λ k. 2 ^ k) wide)));
    before = before;
    behind = behind;
  }
    where
      vertex : ℕ → ℕ
      vertex i = vertex_of n (table_of s n rows) t i

      same : each (λ b. vertex_of n (table_of s n rows) t (2 ^ b)) (length rows) ≡ parts
      same =
          let e = length_run (λ b. vertex (2 ^ b)) 0 (length rows) in
          ext_get_or 0 (each (λ b. vertex (2 ^ b)) (length rows)) parts (e ∙ sym wide)
          (λ b h.
          let k : b < length rows = omega arith in
          each_at (λ c. vertex (2 ^ c)) (length rows) b 0 k ∙ is (2 ^ b) (pow-lt k) ∙ sum_power parts b)

      low : (i : ℕ) → i < 2 ^ length rows → sum_of parts i < 2 ^ dim
      low i h = omega (arith, is i h, vertex_below n (table_of s n rows) t i (omega (arith, table_count s n E narrow)), count)

  -- ---- depth 0 and depth n: keys are sums of rows of s bits

  outer : (t : ℕ) (fs : List ℕ) → length fs ≡ length rows → Narrow N fs → Narrow s fs → keys n (table_of s n rows) t ≡ sums fs
      → ((i : ℕ) → i < 2 ^ length rows → vertex_of n (table_of s n rows) t i ≡ sum_of (map (λ f. rank f (sums fs)) fs) i) → Linear s n rows t
  unfolding vertex_count
  outer t fs wide wider small keys_are is =
      let S = spanned N fs wider in
      let few = reduced_few S.spans wider small in
      linear_of t (length (reduced_rows S.columns)) (map (λ f. rank f (sums fs)) fs) (ap length keys_are ∙ sums_power N fs wider)
      (length-map fs (λ f. rank f (sums fs)) ∙ wide) is (omega arith) (omega arith)

  -- ---- depths between

  module _ (fits : Narrow (row_width s n) rows) (t : ℕ) (inner : 0 < t) (deep : t < n) where
    abbrev c : ℕ
    c = cut_at s n t

    abbrev told : ℕ → ℕ
    told i = syndrome s n E narrow t inner deep i

    by_high : (i : ℕ) → From (λ h. sum_of columns (h * 2 ^ c)) (2 ^ (s + t)) (told i)
    by_high i =
        let e : row_width s n ≡ (s + t) + c = omega arith in
        record {
          at = sum_of rows i / 2 ^ c;
          below =
              shr_lt (s + t) c (subst (λ k. sum_of rows i < 2 ^ k) e (narrow_sum (row_width s n) rows fits (sum_of rows i) (sum_is rows i)));
          is = refl;
        }

    by_low : (i : ℕ) → From (sum_of columns) (2 ^ c) (told i)
    by_low i = record {
      at = sum_of rows i % 2 ^ c;
      below = mod-lt (sum_of rows i) (pow_pos c);
      is = sym (rest_is columns c (sum_of rows i) (E.spans.checks.kills (sum_of rows i) (sum_is rows i)));
    }

    between : Linear s n rows t
    between =
        let D = numbered (syndrome_adds s n E narrow t inner deep) (length rows) in
        let few = numbers_few told (2 ^ length rows) in
        linear_of t D.dim D.is.parts (count_is_lem s n E narrow t inner deep ∙ D.is.count) D.is.wide
        (λ i h. vertex_is s n E narrow t inner deep i h ∙ D.is.is i h)
        (power_le D.dim (s + t) (omega (arith, D.is.count, few (λ h. sum_of columns (h * 2 ^ c)) (2 ^ (s + t)) (λ i h. by_high i))))
        (power_le D.dim c (omega (arith, D.is.count, few (sum_of columns) (2 ^ c) (λ i h. by_low i))))

-- ---- all depths

pub linear : (s n : ℕ) {N : ℕ} {rows columns : List ℕ} → Echelon N rows columns → row_width s n ≤ N → Narrow (row_width s n) rows → 0 < n
    → (t : ℕ) → t ≤ n → Linear s n rows t
linear s n {N} {rows} {columns} E wide fits some t inside = go (dec_lt 0 t) (dec_lt t n)
  where
    narrow : Narrow N rows
    narrow j h = omega (arith, fits j h, pow_mono {i = row_width s n} {j = N} wide)

    root_lt : (x : ℕ) → x < 2 ^ row_width s n → x / 2 ^ (n + s) < 2 ^ s
    root_lt x h = let e : row_width s n ≡ s + (n + s) = omega arith in shr_lt s (n + s) (subst (λ k. x < 2 ^ k) e h)

    start : Linear s n rows 0
    start = outer s n E narrow 0 (map (λ r. r / 2 ^ (n + s)) rows) (length-map rows (λ r. r / 2 ^ (n + s)))
        (map_narrow N N (λ r. r / 2 ^ (n + s)) rows (λ x h. omega (arith, shr_le x (n + s))) narrow)
        (map_narrow (row_width s n) s (λ r. r / 2 ^ (n + s)) rows root_lt fits)
        (root_keys s n E narrow) (root_row s n E narrow)

    end : Linear s n rows n
    end = outer s n E narrow n (map (λ r. r % 2 ^ s) rows) (length-map rows (λ r. r % 2 ^ s))
        (map_narrow N N (λ r. r % 2 ^ s) rows (λ x h. omega (arith, mod-le x (2 ^ s))) narrow)
        (map_narrow (row_width s n) s (λ r. r % 2 ^ s) rows (λ x h. mod-lt x (pow_pos s)) fits)
        (goal_keys s n E narrow some) (goal_row s n E narrow some)

    go : Dec (0 < t) → Dec (t < n) → Linear s n rows t
    go (yes h) (yes k) = between s n E narrow fits t h k
    go (no h) k = let e : 0 ≡ t = omega arith in subst (Linear s n rows) e start
    go (yes h) (no k) = let e : n ≡ t = omega arith in subst (Linear s n rows) e end
