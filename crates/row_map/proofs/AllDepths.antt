-- All inner depths: the row of depth t stands in front of all deeper ones, and no row reaches into another. Counts are powers of 2 by the
-- dimensions, depth by depth.
use mathlib.Core.Path.{◌≡◌, refl, sym, ap, subst, ◌∙◌}
use mathlib.Core.List.{List}
use Prim.Native.Nat.{ℕ, ◌+◌, ◌*◌, ◌^◌, ◌≤◌, ◌<◌}
use native.Mathlib.Omega.{arith}
use native.Mathlib.Nat.{suc-mul, mul-le-mul_right}
use native.Mathlib.Decide.{ℕ_discrete, dec_lt}
use lib.Arith.{digits_lt}
use lib.ListN.{length, get_or, set, replicate, length-set, length-replicate, get_or-replicate, get_or-eq_default}
use lib.Seq.{get_or-set_same, get_or-set_other}
use Rattle.rows.specs.Table.{cut_at}
use Rattle.rows.specs.Inner.Numbering.{number, numbers_below}
use Rattle.row_depth.specs.Inner.Depth.{syndrome_of, DepthAsked, DepthPut}
use Rattle.row_map.specs.Inner.Maps.{MapAsked, InnerPut, CountsOf}

-- ---- the inner depths

no_dims : (t : ℕ) → get_or {A = ℕ} (replicate 9 0) t 0 ≡ 0
no_dims t = go (dec_lt t 9)
  where
    go : Dec (t < 9) → get_or {A = ℕ} (replicate 9 0) t 0 ≡ 0
    go (yes h) = get_or-replicate 9 t 0 0 h
    go (no h) = get_or-eq_default (replicate 9 0) 0 {n = t} (omega (arith, length-replicate {A = ℕ} 9 0))

pub inner_none : (s n : ℕ) (rows columns : List ℕ) (w : ℕ) (map : List ℕ) → InnerPut s n rows columns w map map (replicate 9 0) 1
inner_none s n rows columns w map = record {
  len = refl;
  row = λ t i p q h. absurd (omega arith);
  counted = λ t p q. absurd (omega arith);
  few = λ t. omega (arith, no_dims t);
  behind = λ i h. refl;
  nine = refl;
}

-- depth t ends where depth t + 1 begins
pub row_ends : (t w n : ℕ) → t < n → t * w + w ≤ n * w
row_ends t w n h = omega (arith, suc-mul t w, mul-le-mul_right w h)

module _ {s n : ℕ} {rows columns : List ℕ} {w : ℕ} {old : List ℕ} (A : MapAsked s n rows columns w old) {new dims : List ℕ} {t : ℕ}
    (I : InnerPut s n rows columns w old new dims t) where
  pub inner_room : t < n → t * w + 2 ^ length rows ≤ length new
  inner_room h = omega (arith, A.words, A.room, suc-mul n w, I.len, row_ends t w n h)

  pub inner_asked : {cut : ℕ} → t < n → cut < 16 → DepthAsked columns rows cut new (t * w)
  inner_asked h near = record {
    sixteen = A.echelon.spans.checks.wide;
    few = A.few;
    near = near;
    room = inner_room h;
  }

  pub inner_next : {more : List ℕ} {dim : ℕ} → t < n → DepthPut columns rows (cut_at s n t) new (t * w) more dim
      → InnerPut s n rows columns w old more (set dims t dim) (t + 1)
  inner_next {more} {dim} h D = record {
    len = D.len ∙ I.len;
    row = λ u i p q l. rows_are u i p q l (ℕ_discrete u t);
    counted = λ u p q. counts_are u p q (ℕ_discrete u t);
    few = λ u. dims_few u (ℕ_discrete u t);
    behind = λ i l. D.behind i (omega (arith, A.words, row_ends t w n h)) ∙ I.behind i l;
    nine = length-set dims t dim ∙ I.nine;
  }
    where
      here : get_or (set dims t dim) t 0 ≡ dim
      here = get_or-set_same dims t dim 0 (omega (arith, I.nine, A.symbols))

      rows_are : (u i : ℕ) → 0 < u → u < t + 1 → i < w → Dec (u ≡ t)
          → get_or more (u * w + i) 0 ≡ number (syndrome_of columns rows (cut_at s n u)) i
      rows_are u i p q l (yes e) = subst (λ v. get_or more (v * w + i) 0 ≡ number (syndrome_of columns rows (cut_at s n v)) i) (sym e)
          (D.row i (omega (arith, A.words)))
      rows_are u i p q l (no e) =
          D.front (u * w + i) (digits_lt {q = u} {m = t} {r = i} {c = w} (omega arith) l) ∙ I.row u i p (omega arith) l

      counts_are : (u : ℕ) → 0 < u → u < t + 1 → Dec (u ≡ t)
          → 2 ^ get_or (set dims t dim) u 0 ≡ numbers_below (syndrome_of columns rows (cut_at s n u)) w
      counts_are u p q (yes e) =
          subst (λ v. 2 ^ get_or (set dims t dim) v 0 ≡ numbers_below (syndrome_of columns rows (cut_at s n v)) w) (sym e)
          (ap (λ k. 2 ^ k) here ∙ D.counted ∙ ap (numbers_below (syndrome_of columns rows (cut_at s n t))) (sym A.words))
      counts_are u p q (no e) = ap (λ k. 2 ^ k) (get_or-set_other dims t u dim 0 e) ∙ I.counted u p (omega arith)

      dims_few : (u : ℕ) → Dec (u ≡ t) → get_or (set dims t dim) u 0 ≤ 10
      dims_few u (yes e) = omega (arith, ap (λ v. get_or (set dims t dim) v 0) e ∙ here, D.few)
      dims_few u (no e) = omega (arith, get_or-set_other dims t u dim 0 e, I.few u)

  pub inner_end : t ≤ n → n ≤ t → InnerPut s n rows columns w old new dims n
  inner_end h l = let e : t ≡ n = omega arith in subst (λ v. InnerPut s n rows columns w old new dims v) e I

-- ---- powers of 2

-- the counts of the depths before t
pub record Counting (dims counts : List ℕ) (t : ℕ) : Type 0 where
  pub are : (u : ℕ) → u < t → get_or counts u 0 ≡ 2 ^ get_or dims u 0
  pub most : t ≤ 9
  pub nine : length counts ≡ 9

pub counting_none : (dims counts : List ℕ) → length counts ≡ 9 → Counting dims counts 0
counting_none dims counts e = record { are = λ u h. absurd (omega arith); most = omega arith; nine = e }

pub counting_next : {dims counts : List ℕ} {t x : ℕ} → Counting dims counts t → t < 9 → x ≡ 2 ^ get_or dims t 0
    → Counting dims (set counts t x) (t + 1)
counting_next {dims} {counts} {t} {x} C h e = record {
  are = λ u k. go u k (ℕ_discrete u t);
  most = omega arith;
  nine = length-set counts t x ∙ C.nine;
}
  where
    go : (u : ℕ) → u < t + 1 → Dec (u ≡ t) → get_or (set counts t x) u 0 ≡ 2 ^ get_or dims u 0
    go u k (yes q) = subst (λ v. get_or (set counts t x) v 0 ≡ 2 ^ get_or dims v 0) (sym q)
        (get_or-set_same counts t x 0 (omega (arith, C.nine)) ∙ e)
    go u k (no q) = get_or-set_other counts t u x 0 q ∙ C.are u (omega arith)

pub counting_end : {dims counts : List ℕ} {t : ℕ} → Counting dims counts t → 9 ≤ t → CountsOf dims counts
counting_end C h = record { are = λ u k. C.are u (omega arith); nine = C.nine }
