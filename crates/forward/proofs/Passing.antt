-- One block's section, from its view: the slots enter at the place of its roots and leave at the place of its goals, which are those by the
-- section's own counts.
use mathlib.Core.Path.{sym, subst, subst₂}
use mathlib.Core.List.{List}
use Prim.Native.Nat.{ℕ, ◌+◌, ◌-◌, ◌≤◌}
use native.Mathlib.Omega.{arith}
use lib.ListN.{length}
use Rattle.trellis.specs.Bounds.{most_words}
use Rattle.trellis.specs.Layout.{n_of, vertex_count_of, roots_place, goals_place, step_edges}
use Rattle.section_file.specs.Inner.View.{Seen}
use Rattle.section_file.specs.declared.View.{View}
use Rattle.section_file.proofs.Seen.{viewed, roots_at}
use Rattle.block.specs.Inner.Prices.{Prices}
use Rattle.least_rows.specs.Inner.Rows.{RowsPut}
use Rattle.one_step.specs.Inner.Loops.{Gone}
use Rattle.beginnings.specs.Inner.Entering.{state_from, Enterable, AllEntered, Leavable, Left}
use Rattle.forward.specs.Inner.Blocks.{Through, Passed}

-- the roots are there, and they are few
pub record Outer (l : List ℕ) (at : View) : Type 0 where
  pub order : at.roots ≤ at.goals
  pub inside : at.roots + (at.goals - at.roots) ≤ length l
  pub few : at.goals - at.roots ≤ most_words

module _ {l : List ℕ} {at : View} (S : Seen l at) where
  pub outer : Outer l at
  outer =
      let r = roots_at S in
      record { order = r.le; inside = omega (arith, r.count_is_lem, r.inside); few = omega (arith, r.count_is_lem, r.few) }

  pub enterable_at : {slots : List ℕ} {have : ℕ} → Enterable l (roots_place l) (vertex_count_of l 0) slots have
      → Enterable l at.roots (at.goals - at.roots) slots have
  enterable_at {slots} {have} E =
      subst₂ (λ r c. Enterable l r c slots have) (sym (viewed S.is).roots_is) (sym (roots_at S).count_is_lem) E

  pub leavable_at : {new : List ℕ} {count : ℕ} → Leavable l (goals_place l) new count → Leavable l at.goals new count
  leavable_at {new} {count} L = subst (λ g. Leavable l g new count) (sym (viewed S.is).goals_is) L

  pub through_of : {received mask : ℕ} {left : List ℕ} {k have : ℕ} {slots prices rows items new : List ℕ} {count : ℕ}
      → Prices at.n received mask prices → RowsPut l prices left rows
      → AllEntered l at.roots (at.goals - at.roots) slots items have
      → Gone (step_edges l) rows prices k (n_of l) have items new count
      → Through l received mask left k have slots prices rows items new count
  through_of {received} {mask} {have = have} {slots} {prices} {items = items} P R E G = record {
    priced = subst (λ n. Prices n received mask prices) (viewed S.is).n_is P;
    rows_are = R;
    entered = subst₂ (λ r c. AllEntered l r c slots items have) (viewed S.is).roots_is (roots_at S).count_is_lem E;
    gone = G;
  }

  pub passed_of : {received mask : ℕ} {left : List ℕ} {b k have : ℕ} {slots prices rows items new back new_slots new_back : List ℕ}
      {count : ℕ}
      → Through l received mask left k have slots prices rows items new count
      → Left (state_from l at.goals) new b count new_slots back new_back
      → Passed l received mask left b k have slots back new_slots new_back count
  passed_of {b = b} {prices = prices} {rows} {items} {new} {back} {new_slots} {new_back} {count} T L = record {
    prices = prices;
    rows = rows;
    items = items;
    new = new;
    through = T;
    left_by = subst (λ g. Left (state_from l g) new b count new_slots back new_back) (viewed S.is).goals_is L;
  }
