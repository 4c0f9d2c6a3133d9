-- Ascending values of functions that keep addition: they are the sums of their values on the powers of 2, so in order they are the sums of
-- reduced rows. This gives ranks, hence the vertices of the outer depths, and the edges of a step, which as numbers (from, symbol, to) are
-- such values.
use mathlib.Core.Path.{◌≡◌, refl, sym, ap, subst, ◌∙◌}
use mathlib.Core.List.Memᴰ
use mathlib.Core.List.{List, [], ◌∷◌, map}
use Prim.Native.Nat.{ℕ, ◌+◌, ◌*◌, ◌/◌, ◌%◌, ◌^◌, ◌≤◌, ◌<◌}
use native.Mathlib.Omega.{arith}
use native.Mathlib.Decide.{dec_lt}
use lib.ListN.{length, get_or}
use lib.Seq.{ext_get_or}
use lib.Dec.{T, ltb, ltb→lt}
use lib.Pow.{split, high, low, shr_mono}
use lib.Bits.{xor_block}
use Rattle.trellis.specs.Lists.{each, rank, ascending, Lower, by_first, by_second, by_third}
use Rattle.trellis.specs.Word.{Word}
use Rattle.trellis.specs.Own.{edge, edge_less, edge_of, edges_at}
use Rattle.trellis.proofs.Lists.{in_each, of_each, each_at, each_same, length_run, map_run}
use Rattle.trellis.proofs.ThreeNumbers.{lower_of}
use Rattle.trellis.proofs.Ascending.{Ascends, ascends, in_ascending, of_ascending, ascends_same, rank_at}
use Rattle.trellis.proofs.Paths.{edges_order}
use Rattle.rows.specs.Sums.{◌⊕◌, sum_of, choices, IsSum, sums}
use Rattle.rows.specs.Inner.Reduced.{Checks, Reduced, no_rows, reduced_rows}
use Rattle.rows.specs.Inner.Edges.{edge_number, edge_from}
use Rattle.rows.proofs.Sums.{Additive, sum_map, sum_powers}
use Rattle.rows.proofs.Tables.{in_map, of_map, in_sums, of_sums, sums_ascend}
use Rattle.rows.proofs.Order.{sums_are}

-- ---- values on the powers of 2

pub sum_values : {f : ℕ → ℕ} → Additive f → (k i : ℕ) → i < 2 ^ k → f i ≡ sum_of (each (λ b. f (2 ^ b)) k) i
unfolding no_rows
sum_values {f} A k i h = sym (ap (λ l. sum_of l i) (sym (map_run f (λ m. 2 ^ m) 0 k)) ∙ sum_map A (no_rows k) i ∙ ap f (sum_powers k i h))

-- so it is enough to know these values
pub sum_parts : {f : ℕ → ℕ} → Additive f → (parts : List ℕ) → ((b : ℕ) → b < length parts → f (2 ^ b) ≡ get_or parts b 0)
    → (i : ℕ) → i < choices parts → f i ≡ sum_of parts i
sum_parts {f} A parts h i k = sum_values A (length parts) i k
    ∙ ap (λ l. sum_of l i) (ext_get_or 0 (each (λ b. f (2 ^ b)) (length parts)) parts long
    (λ b l. let m : b < length parts = omega (arith, long) in each_at (λ c. f (2 ^ c)) (length parts) b 0 m ∙ h b m))
  where
    long : length (each (λ b. f (2 ^ b)) (length parts)) ≡ length parts
    long = length_run (λ b. f (2 ^ b)) 0 (length parts)

pub ascending_sums : (f : ℕ → ℕ) (fs : List ℕ) (W : ℕ) → W ≡ choices fs → ((i : ℕ) → i < W → f i ≡ sum_of fs i)
    → ascending ltb (each f W) ≡ sums fs
unfolding sums
ascending_sums f fs W e h = ap (ascending ltb) (each_same f (sum_of fs) W (choices fs) e h)

-- the rank of a sum among all sums is the choice of reduced rows that makes it
pub rank_is : {N : ℕ} {fs columns : List ℕ} → Checks N fs columns → Reduced columns → ((x : ℕ) → IsSum fs x → x < 2 ^ N)
    → (v x : ℕ) → v < choices (reduced_rows columns) → sum_of (reduced_rows columns) v ≡ x → rank x (sums fs) ≡ v
rank_is {N} {fs} {columns} C R small v x h e =
    let l : sums fs ≡ each (sum_of (reduced_rows columns)) (choices (reduced_rows columns)) = sums_are C R small in
    let p : get_or (sums fs) v 0 ≡ x =
    ap (λ k. get_or k v 0) l ∙ each_at (sum_of (reduced_rows columns)) (choices (reduced_rows columns)) v 0 h ∙ e in
    let q : v < length (sums fs) =
    omega (arith, ap length l ∙ length_run (sum_of (reduced_rows columns)) 0 (choices (reduced_rows columns))) in
    ap (λ k. rank k (sums fs)) (sym p) ∙ rank_at (sums fs) v (sums_ascend fs) q

-- ---- edges as numbers

pub edge_number_lem : (d a s b : ℕ) → s < 2 → b < 2 ^ d → edge_from d (edge_number d a s b) ≡ edge a s b
unfolding edge_number
edge_number_lem d a s b h k =
    let e : edge_number d a s b / 2 ^ d ≡ a * 2 + s = high (a * 2 + s) d k in
    λ i. edge (from e i) (mid e i) (low (a * 2 + s) d k i)
  where
    from : edge_number d a s b / 2 ^ d ≡ a * 2 + s → edge_number d a s b / 2 ^ d / 2 ≡ a
    from e = omega arith

    mid : edge_number d a s b / 2 ^ d ≡ a * 2 + s → edge_number d a s b / 2 ^ d % 2 ≡ s
    mid e = omega arith

pub edges_rise : (d x y : ℕ) → x < y → T (edge_less (edge_from d x) (edge_from d y))
edges_rise d x y h = lower_of _ _ _ _ _ _ (go (dec_lt (x / 2 ^ d / 2) (y / 2 ^ d / 2)) (dec_lt (x / 2 ^ d % 2) (y / 2 ^ d % 2)))
  where
    le : x / 2 ^ d ≤ y / 2 ^ d
    le = shr_mono {a = x} {b = y} d (omega arith)

    go : Dec (x / 2 ^ d / 2 < y / 2 ^ d / 2) → Dec (x / 2 ^ d % 2 < y / 2 ^ d % 2)
        → Lower (x / 2 ^ d / 2) (x / 2 ^ d % 2) (x % 2 ^ d) (y / 2 ^ d / 2) (y / 2 ^ d % 2) (y % 2 ^ d)
    go (yes p) q = by_first p
    go (no p) (yes q) = by_second (omega (arith, le)) q
    go (no p) (no q) =
        let e : x / 2 ^ d ≡ y / 2 ^ d = omega (arith, le) in
        let w : x / 2 ^ d * 2 ^ d ≡ y / 2 ^ d * 2 ^ d = ap (λ k. k * 2 ^ d) e in
        by_third (ap (λ k. k / 2) e) (ap (λ k. k % 2) e) (omega (arith, split x d, split y d))

map_ascends : (d : ℕ) (l : List ℕ) → Ascends ltb l → Ascends edge_less (map (edge_from d) l)
map_ascends d [] a = tt
map_ascends d (x ∷ l) a = (
  λ e m. let i = of_map (edge_from d) l e m in subst (λ z. T (edge_less (edge_from d x) z)) (sym i.is)
      (edges_rise d x i.source (ltb→lt x i.source (a.0 i.source i.listed))),
  map_ascends d l a.1,
)

-- where the edges of words are sums, as numbers, all edges of the step in order are all these sums in order
pub edges_are : (n t d : ℕ) (table : List Word) (fs : List ℕ) → length table ≡ choices fs
    → ((i : ℕ) → i < length table → edge_of n table t i ≡ edge_from d (sum_of fs i)) → edges_at n table t ≡ map (edge_from d) (sums fs)
unfolding edges_at
edges_are n t d table fs w h =
    ascends_same edge_less edges_order (ascending edge_less (each (edge_of n table t) (length table))) (map (edge_from d) (sums fs))
    (ascends edge_less edges_order (each (edge_of n table t) (length table))) (map_ascends d (sums fs) (sums_ascend fs))
    (λ e m.
    let F = of_each (edge_of n table t) (length table) e (of_ascending edge_less edges_order e (each (edge_of n table t) (length table)) m) in
    Memᴰ.cast (F.is ∙ h F.at F.below) (in_map (edge_from d) (sums fs) (sum_of fs F.at)
    (in_sums fs (sum_of fs F.at) (record { choice = F.at; inside = omega (arith, F.below); is = refl }))))
    (λ e m.
    let i = of_map (edge_from d) (sums fs) e m in
    let S = of_sums fs i.source i.listed in
    let k : S.choice < length table = omega (arith, S.inside) in
    in_ascending edge_less edges_order e (each (edge_of n table t) (length table))
    (in_each (edge_of n table t) (length table) S.choice e k (i.is ∙ ap (edge_from d) S.is ∙ sym (h S.choice k))))

-- ---- numbers of edges keep addition

edge_adds : (d a s b x y z : ℕ) → s < 2 → y < 2 → b < 2 ^ d → z < 2 ^ d
    → edge_number d (a ⊕ x) (s ⊕ y) (b ⊕ z) ≡ edge_number d a s b ⊕ edge_number d x y z
unfolding edge_number
edge_adds d a s b x y z h k p q =
    sym (xor_block d (a * 2 + s) (x * 2 + y) b z p q ∙ ap (λ m. m * 2 ^ d + (b ⊕ z)) (xor_block 1 a x s y h k))

-- from three functions that keep addition
pub edge_additive : (d : ℕ) {a s b : ℕ → ℕ} → Additive a → Additive s → Additive b → ((i : ℕ) → s i < 2) → ((i : ℕ) → b i < 2 ^ d)
    → Additive (λ i. edge_number d (a i) (s i) (b i))
edge_additive d {a} {s} {b} A S B h k = record {
  adds = λ i j.
      triple (A.adds i j) (S.adds i j) (B.adds i j) ∙ edge_adds d (a i) (s i) (b i) (a j) (s j) (b j) (h i) (h j) (k i) (k j);
}
  where
    triple : {u u' v v' w w' : ℕ} → u ≡ u' → v ≡ v' → w ≡ w' → edge_number d u v w ≡ edge_number d u' v' w'
    triple p q r = λ m. edge_number d (p m) (q m) (r m)
