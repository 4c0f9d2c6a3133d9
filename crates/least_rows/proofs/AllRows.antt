-- All rows, from the last depth to the first: each is saved as soon as the sweep has made it. The rows of deeper depths, saved before, stay
-- as they are, and so all depths have their row when the first is reached. By the numbers of Unranked the distances saved are the plain
-- least costs.
use mathlib.Core.Path.{◌≡◌, sym, ap, subst, ◌∙◌}
use mathlib.Core.List.{List}
use Prim.Native.Nat.{ℕ, suc, ◌+◌, ◌-◌, ◌*◌, ◌/◌, ◌≤◌, ◌<◌}
use native.Mathlib.Decide.{ℕ_discrete}
use native.Mathlib.Omega.{arith}
use lib.ListN.{length, get_or}
use Rattle.trellis.specs.Bounds.{most_words}
use Rattle.trellis.specs.Layout.{n_of, vertex_count_of, step_edges, goal_state}
use Rattle.paths.specs.Chain.{unreached}
use Rattle.paths.specs.Inner.Sections.{section_least}
use Rattle.paths.specs.Inner.Ranked.{distance_unit, top_rank, ranked_cost}
use Rattle.section_file.specs.Inner.View.{Seen}
use Rattle.section_file.specs.declared.View.{View}
use Rattle.section_file.proofs.Words.{bounded}
use Rattle.section_file.proofs.Seen.{goals_at, header}
use Rattle.lowering.specs.Inner.Rows.{side, Priced, LeastRow}
use Rattle.sweep.proofs.Sweeping.{InSweep}
use Rattle.passes.specs.Inner.Blocks.{Costs}
use Rattle.passes.specs.Inner.Loops.{GoalsRanked}
use Rattle.passes.proofs.Passing.{goal_number, last_row}
use Rattle.least_rows.specs.Inner.Rows.{rows_long, row_at, SaveAsked, RowSaved, RowsPut}
use Rattle.least_rows.proofs.Unranked.{unranked}

-- ---- a depth's own row

pub save_asked : {l row rows : List ℕ} {at : View} {t count : ℕ} → Seen l at → t ≤ n_of l → count ≡ get_or l (3 + t) 0
    → length row ≡ most_words → ((v : ℕ) → v < vertex_count_of l t → get_or row v 0 ≤ top_rank) → length rows ≡ rows_long
    → SaveAsked t count row rows
unfolding vertex_count_of
save_asked {t = t} S h c r s k = record {
  deep = omega (arith, S.sound.n_to);
  few = omega (arith, S.sound.vertices_to t h);
  row_long = r;
  long = k;
  small = λ v i. s v (omega arith);
}

-- the goals are counted like the vertices of every other depth
pub goals_count : {l : List ℕ} {at : View} → Seen l at → at.pairs - at.goals ≡ get_or l (3 + at.n) 0
unfolding vertex_count_of
goals_count {l} S = (goals_at S).count_is_lem ∙ ap (vertex_count_of l) (sym (header S).n_is)

pub last_asked : {l left rows : List ℕ} {at : View} (even odd : List ℕ) → Seen l at
    → GoalsRanked l left (side (n_of l) even odd) (vertex_count_of l (n_of l)) → length rows ≡ rows_long
    → SaveAsked at.n (at.pairs - at.goals) (side at.n even odd) rows
last_asked {l} {left} {rows} {at} even odd S G h =
    let e = (header S).n_is in
    let R : GoalsRanked l left (side at.n even odd) (vertex_count_of l at.n)
    = subst (λ t. GoalsRanked l left (side t even odd) (vertex_count_of l t)) (sym e) G in
    save_asked S (omega arith) (goals_count S) R.long R.small h

-- ---- the loop over the depths

-- the least rank from vertex v of depth u
abbrev rank_from : List ℕ → (ℕ → ℕ → ℕ) → (ℕ → ℕ) → ℕ → ℕ → ℕ
rank_from l cost number u v = section_least (step_edges l) cost top_rank number (n_of l - u) u v

-- the depths from t on have their rows, whatever the symbols cost
pub record RowsFrom (l prices old_even old_odd rows : List ℕ) (t : ℕ) : Type 0 where
  pub long : length rows ≡ rows_long
  pub at : (cost : ℕ → ℕ → ℕ) (number : ℕ → ℕ) → Priced l prices cost → LeastRow l cost number (n_of l) (side (n_of l) old_even old_odd)
      → (u v : ℕ) → t ≤ u → u ≤ n_of l → v < vertex_count_of l u
      → row_at rows u v ≡ rank_from l cost number u v / distance_unit

-- there are none behind the last
pub rows_none : {l prices even odd rows : List ℕ} {at : View} → Seen l at → length rows ≡ rows_long
    → RowsFrom l prices even odd rows (suc at.n)
rows_none S h = let e = (header S).n_is in record { long = h; at = λ cost number P R u v i j k. absurd (omega arith) }

pub rows_more : {l prices old_even old_odd even odd rows new : List ℕ} {t d before count : ℕ}
    → InSweep l prices old_even old_odd even odd t before → RowsFrom l prices old_even old_odd rows d
    → RowSaved t (side t even odd) rows new count → count ≡ get_or l (3 + t) 0 → d ≡ suc t → RowsFrom l prices old_even old_odd new t
unfolding vertex_count_of
rows_more {l} {prices} {old_even} {old_odd} {rows = rows} {new} {t} I F W c e = record { long = W.long; at = at }
  where
    at : (cost : ℕ → ℕ → ℕ) (number : ℕ → ℕ) → Priced l prices cost → LeastRow l cost number (n_of l) (side (n_of l) old_even old_odd)
        → (u v : ℕ) → t ≤ u → u ≤ n_of l → v < vertex_count_of l u
        → row_at new u v ≡ rank_from l cost number u v / distance_unit
    at cost number P R u v i j k = go (ℕ_discrete t u)
      where
        own : v < vertex_count_of l t → row_at new t v ≡ rank_from l cost number t v / distance_unit
        own h = W.saved v (omega arith) ∙ ap (λ x. x / distance_unit) ((I.done cost number P R).at v h)

        go : Dec (t ≡ u) → row_at new u v ≡ rank_from l cost number u v / distance_unit
        go (yes z) =
            subst (λ w. v < vertex_count_of l w → row_at new w v ≡ rank_from l cost number w v / distance_unit)
            z own k
        go (no z) = W.kept (most_words * u + v) (omega arith) ∙ F.at cost number P R u v (omega arith) j k

-- ---- the plain costs

pub rows_end : {l prices left even odd rows : List ℕ} {at : View} {t : ℕ} → Seen l at
    → GoalsRanked l left (side (n_of l) even odd) (vertex_count_of l (n_of l)) → RowsFrom l prices even odd rows t → t ≤ 0
    → RowsPut l prices left rows
rows_end {l} {prices} {left} {rows = rows} S G F z = record { long = F.long; least = λ cost rest C. record { at = least cost rest C } }
  where
    least : (cost : ℕ → ℕ → ℕ) (rest : ℕ → ℕ) → Costs l prices left cost rest → (t v : ℕ) → t ≤ n_of l → v < vertex_count_of l t
        → row_at rows t v ≡ section_least (step_edges l) cost unreached (λ g. rest (goal_state l g)) (n_of l - t) t v
    least cost rest C t v h k =
        F.at (ranked_cost (n_of l) cost) (goal_number l rest) C.priced (last_row S G C) t v (omega arith) h k
        ∙ unranked (bounded S.sound) S.sound.n_to cost C.bound (goals_at S).small (n_of l - t) t v (omega arith)
        (λ e. let i : t ≡ n_of l = omega arith in subst (λ u. v < vertex_count_of l u) i k)
