-- All inner depths, from n - 1 down to 1. Each depth writes its own row of the map and its own place of the counts, so what deeper ones
-- wrote stays; and a depth that is refused is smaller than those found before. Where no depth is refused the table is rectangular.
use mathlib.Core.Path.{◌≡◌, refl, sym, ap, subst, ◌∙◌}
use mathlib.Core.Logic.{◌↔◌}
use mathlib.Core.List.{List}
use Prim.Native.Nat.{ℕ, suc, ◌+◌, ◌-◌, ◌*◌, ◌≤◌, ◌<◌}
use native.Mathlib.Omega.{arith}
use Rattle.std.specs.Prelude.{Option, Some, None}
use native.Mathlib.Nat.{mul-le-mul_right, suc-mul}
use native.Mathlib.Decide.{ℕ_discrete}
use lib.ListN.{length, set, length-set}
use lib.Seq.{get_or-set_same}
use Rattle.trellis.specs.Bounds.{most_symbols}
use Rattle.trellis.specs.Word.{Word, RectangularAt, Rectangular}
use Rattle.trellis.specs.Own.{vertex_of, vertex_count}
use Rattle.depth_runs.specs.Inner.Rows.{at}
use Rattle.depth_runs.proofs.Places.{at_set}
use Rattle.depths.specs.Inner.Words.{words}
use Rattle.depths.specs.Inner.Merge.{EndingRow, DepthAsked, DepthMerged, DepthDone, Inner, InnerOutcome, InnerDone}

pub record InDepths (n : ℕ) (table : List Word) (old_map map old_counts counts row : List ℕ) (t : ℕ) (refused : Option ℕ) : Type 0 where
  pub some : 0 < t
  pub le : t ≤ n
  pub ends : EndingRow n table t row
  pub found : InnerOutcome n table t map counts refused
  pub before : (j : ℕ) → j < t * length table → at map j ≡ at old_map j
  pub behind : (j : ℕ) → n * length table ≤ j → at map j ≡ at old_map j
  pub len : length map ≡ length old_map
  pub root_count : at counts 0 ≡ at old_counts 0
  pub later_counts : (j : ℕ) → n ≤ j → at counts j ≡ at old_counts j
  pub nine : length counts ≡ 9

-- a row of w places ends before a later one begins
rows_apart : (t u w : ℕ) → t < u → t * w + w ≤ u * w
rows_apart t u w h = let p = mul-le-mul_right w h in omega (arith, suc-mul t w)

pub depths_none : {n : ℕ} {table : List Word} {map counts row : List ℕ} → 0 < n → EndingRow n table n row → length counts ≡ 9
    → InDepths n table map map counts counts row n None
depths_none {n} {table} {map} {counts} {row} h E k = record {
  some = h;
  le = omega arith;
  ends = E;
  found = record {
    rectangular = λ u p q. absurd (omega arith);
    vertices = λ u i p q r. absurd (omega arith);
    counted = λ u p q. absurd (omega arith);
  };
  before = λ j p. refl;
  behind = λ j p. refl;
  len = refl;
  root_count = refl;
  later_counts = λ j p. refl;
  nine = k;
}

pub depths_ask : {n : ℕ} {roots labels goals old_map map old_counts counts row : List ℕ} {t : ℕ} {refused : Option ℕ}
    → Inner n roots labels goals old_map old_counts
    → InDepths n (words roots labels goals) old_map map old_counts counts row t refused → 1 < t
    → DepthAsked n (t - 1) roots labels goals row map
depths_ask {n} {roots} {labels} {goals} {old_map} {map} {old_counts} {counts} {row} {t} I c h = record {
  held = I.held;
  inner = omega arith;
  deep = omega (arith, c.le);
  ends = let e : t ≡ suc (t - 1) = omega arith in subst (λ k. EndingRow n (words roots labels goals) k row) e c.ends;
  room = omega (arith, rows_apart (t - 1) n (length roots) (omega (arith, c.le)), I.room, c.len);
}

-- ---- one depth more

module _ (n : ℕ) (table : List Word) (t : ℕ) (map new counts : List ℕ) where
  found_merged : (refused : Option ℕ) (count : ℕ) → t < length counts → InnerOutcome n table (suc t) map counts refused
      → DepthMerged n table t map new count
      → InnerOutcome n table t new (set counts t count) refused
  found_merged None count room F D = record {
    rectangular = λ u p q. now u p q (ℕ_discrete t u);
    vertices = λ u i p q r. there u i p q r (ℕ_discrete t u);
    counted = λ u p q. tally u p q (ℕ_discrete t u);
  }
    where
      now : (u : ℕ) → t ≤ u → u < n → Dec (t ≡ u) → RectangularAt n u table
      now u p q (yes e) = subst (λ k. RectangularAt n k table) e D.rectangular
      now u p q (no e) = F.rectangular u (omega arith) q

      there : (u i : ℕ) → t ≤ u → u < n → i < length table → Dec (t ≡ u) → at new (u * length table + i) ≡ vertex_of n table u i
      there u i p q r (yes e) = subst (λ k. at new (k * length table + i) ≡ vertex_of n table k i) e (D.row.is i r)
      there u i p q r (no e) =
          D.row.behind (u * length table + i) (omega (arith, rows_apart t u (length table) (omega arith)))
          ∙ F.vertices u i (omega arith) q r

      tally : (u : ℕ) → t ≤ u → u < n → Dec (t ≡ u) → at (set counts t count) u ≡ vertex_count n table u
      tally u p q (yes e) =
          subst (λ k. at (set counts t count) k ≡ vertex_count n table k) e (get_or-set_same counts t count 0 room ∙ D.counted)
      tally u p q (no e) = at_set counts t u count (λ d. e (sym d)) ∙ F.counted u (omega arith) q
  found_merged (Some r) count room F D =
      record { from = omega (arith, F.from); inner = F.inner; fails = F.fails; sooner = λ u p q. now u p q (ℕ_discrete t u) }
    where
      now : (u : ℕ) → t ≤ u → u < r → Dec (t ≡ u) → RectangularAt n u table
      now u p q (yes e) = subst (λ k. RectangularAt n k table) e D.rectangular
      now u p q (no e) = F.sooner u (omega arith) q

found_refused : (n : ℕ) (table : List Word) (t : ℕ) (map counts : List ℕ) → 0 < t → t < n → (RectangularAt n t table → ⊥)
    → InnerOutcome n table t map counts (Some t)
found_refused n table t map counts h l f = record { from = omega arith; inner = l; fails = f; sooner = λ u p q. absurd (omega arith) }

module _ {n : ℕ} {table : List Word} {old_map map old_counts counts row new row' : List ℕ} {t : ℕ} {refused : Option ℕ}
    (c : InDepths n table old_map map old_counts counts row t refused) (short : n ≤ most_symbols) (h : 1 < t) where
  pub depths_merged : {count : ℕ} → DepthDone n (t - 1) table row' map new (Some count)
      → InDepths n table old_map new old_counts (set counts (t - 1) count) row' (t - 1) refused
  depths_merged {count} D =
      let e : t ≡ suc (t - 1) = omega arith in
      let R = D.outcome.row in
      let a = rows_apart (t - 1) t (length table) (omega arith) in
      let b = rows_apart (t - 1) n (length table) (omega (arith, c.le)) in
      record {
        some = omega arith;
        le = omega (arith, c.le);
        ends = D.ends;
        found = found_merged n table (t - 1) map new counts refused count (omega (arith, c.nine, c.le))
            (subst (λ k. InnerOutcome n table k map counts refused) e c.found) D.outcome;
        before = λ j p. R.before j p ∙ c.before j (omega arith);
        behind = λ j p. R.behind j (omega arith) ∙ c.behind j p;
        len = R.len ∙ c.len;
        root_count = at_set counts (t - 1) 0 count (λ q. omega arith) ∙ c.root_count;
        later_counts = λ j p. at_set counts (t - 1) j count (λ q. omega (arith, c.le)) ∙ c.later_counts j p;
        nine = simp length-set c.nine;
      }

  pub depths_refused : DepthDone n (t - 1) table row' map new None
      → InDepths n table old_map new old_counts counts row' (t - 1) (Some (t - 1))
  depths_refused D =
      let k : (j : ℕ) → at new j ≡ at map j = λ j. ap (λ l. at l j) D.outcome.kept in
      let a = rows_apart (t - 1) t (length table) (omega arith) in
      record {
        some = omega arith;
        le = omega (arith, c.le);
        ends = D.ends;
        found = found_refused n table (t - 1) new counts (omega arith) (omega (arith, c.le)) D.outcome.fails;
        before = λ j p. k j ∙ c.before j (omega arith);
        behind = λ j p. k j ∙ c.behind j p;
        len = ap length D.outcome.kept ∙ c.len;
        root_count = c.root_count;
        later_counts = c.later_counts;
        nine = c.nine;
      }

pub depths_end : {n : ℕ} {table : List Word} {old_map map old_counts counts row : List ℕ} {t : ℕ} {refused : Option ℕ}
    → InDepths n table old_map map old_counts counts row t refused → t ≤ 1 → InnerDone n table old_map map old_counts counts refused
depths_end {n} {table} {old_map} {map} {old_counts} {counts} {row} {t} {refused} c h =
    let e : t ≡ 1 = omega (arith, c.some) in
    record {
      found = subst (λ k. InnerOutcome n table k map counts refused) e c.found;
      before = λ j p. c.before j (omega (arith, ap (λ k. k * length table) e));
      behind = c.behind;
      len = c.len;
      root_count = c.root_count;
      later_counts = c.later_counts;
      nine = c.nine;
    }

some_none : {A : Type 0} {a : A} → ◌≡◌ {A = Option A} (Some a) None → ⊥
some_none e = let z : ◌≡◌ {A = ℕ} 0 1 = cc in omega arith

-- the answer none is that of rectangular tables
pub inner_rectangular : (n : ℕ) (table : List Word) (old_map map old_counts counts : List ℕ) (r : Option ℕ)
    → InnerDone n table old_map map old_counts counts r
    → (r ≡ None) ↔ Rectangular n table
inner_rectangular n table old_map map old_counts counts None D = (λ e t p q. D.found.rectangular t p q, λ R. refl)
inner_rectangular n table old_map map old_counts counts (Some r) D =
    (λ e. absurd (some_none e), λ R. absurd (D.found.fails (R r D.found.from D.found.inner)))
