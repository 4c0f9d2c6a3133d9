-- The edges of a step of a table of sums. A word's symbol is a bit of its row, and the vertices at both ends are sums; so the edges as
-- numbers are sums of the edges of the rows, and all edges of the step in order are all these sums in order. They have no more bits than a
-- row: those of the first vertex are at most the bits before the step, those of the last at most the bits behind it, and one bit is the
-- symbol.
use mathlib.Core.Path.{◌≡◌, sym, ap, subst, ◌∙◌}
use mathlib.Core.List.{List, map}
use Prim.Native.Nat.{ℕ, suc, ◌+◌, ◌*◌, ◌/◌, ◌%◌, ◌^◌, ◌≤◌, ◌<◌}
use native.Mathlib.Omega.{arith}
use native.Mathlib.Nat.{mod-lt, pow-suc}
use lib.ListN.{length, get_or}
use lib.Arith.{digits_mod, digits_lt}
use lib.Bits.{xor_shr, xor_mod}
use lib.Pow.{pow-lt, pow-add, pow_mono}
use Rattle.trellis.specs.Label.{symbol, front}
use Rattle.trellis.specs.Word.{Word, word_at}
use Rattle.trellis.specs.Own.{edge, edge_of, edges_at, vertex_of}
use Rattle.trellis.proofs.Lists.{length_run, each_at}
use Rattle.rows.specs.Sums.{sum_of, sums}
use Rattle.rows.specs.Table.{row_width, spread, cut_at, table_of}
use Rattle.rows.specs.Inner.Reduced.{bit_at, Narrow, Echelon}
use Rattle.rows.specs.Inner.Edges.{edge_number, edge_from}
use Rattle.rows.specs.Inner.Linear.{parts_at, Linear, arcs_at}
use Rattle.rows.proofs.Bits.{bit_lt}
use Rattle.rows.proofs.Sums.{Additive, sum_xor, sum_power}
use Rattle.rows.proofs.Words.{front_cut}
use Rattle.rows.proofs.Vertices.{table_count, word_is}
use Rattle.rows.proofs.Edges.{sum_parts, edge_number_lem, edges_are, edge_additive}

pub bit_adds : (p : ℕ) {f : ℕ → ℕ} → Additive f → Additive (λ i. bit_at p (f i))
unfolding bit_at
bit_adds p {f} A = record {
  adds = λ i j. ap (λ x. x / 2 ^ p % 2) (A.adds i j) ∙ ap (λ x. x % 2) (xor_shr (f i) (f j) p) ∙ xor_mod (f i / 2 ^ p) (f j / 2 ^ p) 1;
}

-- symbol t is the bit behind depth t
pub symbol_bit : (s n t x : ℕ) → t < n → symbol n t (spread n (x / 2 ^ s)) ≡ bit_at (cut_at s n (suc t)) x
unfolding symbol front spread bit_at
symbol_bit s n t x h =
    let e : front n (suc t) (spread n (x / 2 ^ s)) ≡ spread (suc t) (x / 2 ^ cut_at s n (suc t)) = front_cut s n (suc t) h x in
    let b : x / 2 ^ cut_at s n (suc t) % 2 < 2 = mod-lt (x / 2 ^ cut_at s n (suc t)) (omega arith) in
    ap (λ k. k % 4) e ∙ digits_mod (spread t (x / 2 ^ cut_at s n (suc t) / 2)) {m = 4} {r = x / 2 ^ cut_at s n (suc t) % 2} (omega arith)

edge_lt : (a d v b w : ℕ) → v < 2 ^ a → b < 2 → w < 2 ^ d → edge_number d v b w < 2 ^ (suc a + d)
unfolding edge_number
edge_lt a d v b w h k l = subst (λ x. edge_number d v b w < x) (sym (pow-add 2 (suc a) d))
    (digits_lt {q = v * 2 + b} {m = 2 ^ suc a} {r = w} {c = 2 ^ d} (omega (arith, pow-suc 2 a)) l)

-- ---- the edges of the rows

module _ (s n : ℕ) {rows : List ℕ} (t : ℕ) (inside : t < n) (L : Linear s n rows t) (M : Linear s n rows (suc t)) where
  -- the edge of word i, as a number
  abbrev arc : ℕ → ℕ
  arc i = edge_number M.dim (sum_of (parts_at s n rows t) i) (bit_at (cut_at s n (suc t)) (sum_of rows i)) (sum_of (parts_at s n rows (suc t)) i)

  abbrev row_arc : ℕ → ℕ
  row_arc b = edge_number M.dim (vertex_of n (table_of s n rows) t (2 ^ b)) (bit_at (cut_at s n (suc t)) (get_or rows b 0))
      (vertex_of n (table_of s n rows) (suc t) (2 ^ b))

  arcs_length : length (arcs_at s n rows M.dim t) ≡ length rows
  unfolding arcs_at
  arcs_length = length_run row_arc 0 (length rows)

  arc_row : (b : ℕ) → b < length rows → arc (2 ^ b) ≡ get_or (arcs_at s n rows M.dim t) b 0
  unfolding arcs_at
  arc_row b h = sym (each_at row_arc (length rows) b 0 h
      ∙ (λ k. edge_number M.dim (L.is (2 ^ b) (pow-lt h) k) (bit_at (cut_at s n (suc t)) (sym (sum_power rows b) k))
      (M.is (2 ^ b) (pow-lt h) k)))

  pub arcs_narrow : Narrow (row_width s n) (arcs_at s n rows M.dim t)
  arcs_narrow b h =
      let k : b < length rows = omega (arith, arcs_length) in
      let w : suc L.dim + M.dim ≤ row_width s n = omega (arith, L.before, M.behind) in
      omega (
        arith,
        arc_row b k,
        edge_lt L.dim M.dim (sum_of (parts_at s n rows t) (2 ^ b)) (bit_at (cut_at s n (suc t)) (sum_of rows (2 ^ b)))
            (sum_of (parts_at s n rows (suc t)) (2 ^ b)) (L.small (2 ^ b)) (bit_lt (cut_at s n (suc t)) (sum_of rows (2 ^ b)))
            (M.small (2 ^ b)),
        pow_mono {i = suc L.dim + M.dim} {j = row_width s n} w,
      )

-- ---- the edges of all words

module _ (s n : ℕ) {N : ℕ} {rows columns : List ℕ} (E : Echelon N rows columns) (narrow : Narrow N rows) (t : ℕ) (inside : t < n)
    (L : Linear s n rows t) (M : Linear s n rows (suc t)) where
  abbrev table : List Word
  table = table_of s n rows

  abbrev cut : ℕ
  cut = cut_at s n (suc t)

  abbrev arcs : List ℕ
  arcs = arcs_at s n rows M.dim t

  symbol_is : (i : ℕ) → i < 2 ^ length rows → symbol n t (word_at table i).label ≡ bit_at cut (sum_of rows i)
  symbol_is i h = ap (λ (w : Word). symbol n t w.label) (word_is s n E narrow i h) ∙ symbol_bit s n t (sum_of rows i) inside

  arc_is : (i : ℕ) → i < 2 ^ length rows → edge_of n table t i ≡ edge_from M.dim (arc s n t inside L M i)
  arc_is i h = (λ k. edge (L.is i h k) (symbol_is i h k) (M.is i h k))
      ∙ sym (edge_number_lem M.dim (sum_of (parts_at s n rows t) i) (bit_at cut (sum_of rows i)) (sum_of (parts_at s n rows (suc t)) i)
      (bit_lt cut (sum_of rows i)) (M.small i))

  arc_adds : Additive (arc s n t inside L M)
  arc_adds = edge_additive M.dim (sum_xor (parts_at s n rows t)) (bit_adds cut (sum_xor rows)) (sum_xor (parts_at s n rows (suc t)))
      (λ i. bit_lt cut (sum_of rows i)) M.small

  pub step_sums_lem : edges_at n (table_of s n rows) t ≡ map (edge_from M.dim) (sums (arcs_at s n rows M.dim t))
  step_sums_lem = edges_are n t M.dim table arcs (table_count s n E narrow ∙ ap (λ k. 2 ^ k) (sym long))
      (λ i h. whole i (omega (arith, table_count s n E narrow)))
    where
      long : length arcs ≡ length rows
      long = arcs_length s n t inside L M

      whole : (i : ℕ) → i < 2 ^ length rows → edge_of n table t i ≡ edge_from M.dim (sum_of arcs i)
      whole i h = arc_is i h ∙ ap (edge_from M.dim)
          (sum_parts arc_adds arcs (λ b l. arc_row s n t inside L M b (omega (arith, long))) i (omega (arith, ap (λ k. 2 ^ k) long)))
