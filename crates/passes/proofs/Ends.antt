-- The two ends of a block. The row of depth n takes what is left to pay in the states of the goals; what the row of depth 0 has goes to the
-- states of the roots, which ascend, so that none is written twice.
use mathlib.Core.Path.{◌≡◌, sym, ap, subst, ◌∙◌}
use mathlib.Core.List.{List}
use Prim.Native.Nat.{ℕ, ◌+◌, ◌-◌, ◌/◌, ◌%◌, ◌≤◌, ◌<◌}
use native.Mathlib.Nat.{not-suc-le-zero}
use native.Mathlib.Decide.{ℕ_discrete}
use native.Mathlib.Omega.{arith}
use lib.ListN.{length, get_or, set, length-set, replicate, length-replicate, get_or-replicate}
use lib.Seq.{get_or-set_same, get_or-set_other}
use Rattle.trellis.specs.Bounds.{most_states, most_words}
use Rattle.trellis.specs.Layout.{n_of, vertex_count_of, root_state, goal_state}
use Rattle.trellis.proofs.Buffers.{put_more}
use Rattle.paths.specs.Chain.{unreached}
use Rattle.paths.specs.Inner.Ranked.{distance_unit, top_rank, ranked_left, note_unit}
use Rattle.section_file.specs.Inner.View.{Seen}
use Rattle.section_file.specs.declared.View.{View}
use Rattle.section_file.proofs.Seen.{States, roots_at, goals_at, header}
use Rattle.lowering.specs.Inner.Rows.{side}
use Rattle.sweep.proofs.Sweeping.{side_even, side_odd}
use Rattle.passes.specs.Inner.Loops.{GoalsRanked, RootsPut}

-- ---- a state as it is read

pub record StateRead (l : List ℕ) (first v s : ℕ) : Type 0 where
  pub place_lt : first + v < length l
  pub v_lt : v < most_words
  pub s_lt : s < most_states

pub state_read : {l : List ℕ} {first next count v s : ℕ} {state : ℕ → ℕ} → States l first next count state → v < next - first
    → s ≡ get_or l (first + v) 0 → StateRead l first v s
state_read {v = v} A h e =
    let c = A.count_is_lem in
    let i = A.inside in
    let f = A.few in
    let k = A.small v (omega arith) in
    let z = A.at v in
    record { place_lt = omega arith; v_lt = omega arith; s_lt = omega arith }

pub goal_read : {l : List ℕ} {at : View} {g s : ℕ} → Seen l at → g < at.pairs - at.goals → s ≡ get_or l (at.goals + g) 0
    → StateRead l at.goals g s
goal_read S h e = state_read (goals_at S) h e

pub root_read : {l : List ℕ} {at : View} {v s : ℕ} → Seen l at → v < at.goals - at.roots → s ≡ get_or l (at.roots + v) 0
    → StateRead l at.roots v s
root_read S h e = state_read (roots_at S) h e

-- ---- the row of depth n

pub goals_start : {l left row : List ℕ} → length row ≡ most_words → GoalsRanked l left row 0
goals_start h = record { long = h; at = λ u k. absurd (not-suc-le-zero k); small = λ u k. absurd (not-suc-le-zero k) }

pub goals_more : {l left row : List ℕ} {at : View} {g s x : ℕ} → Seen l at → GoalsRanked l left row g → g < at.pairs - at.goals
    → s ≡ get_or l (at.goals + g) 0 → x ≡ ranked_left (get_or left s 0) s → x ≤ top_rank → GoalsRanked l left (set row g x) (g + 1)
goals_more {l} {left} {row} {at} {g} {s} {x} S I h p q r = record {
  long = simp length-set I.long;
  at = put_more (λ u y. y ≡ ranked_left (get_or left (goal_state l u) 0) (goal_state l u)) row g x g_lt
      (q ∙ ap (λ w. ranked_left (get_or left w 0) w) (p ∙ A.at g)) I.at;
  small = put_more (λ u y. y ≤ top_rank) row g x g_lt r I.small;
}
  where
    A : States l at.goals at.pairs (vertex_count_of l (n_of l)) (goal_state l)
    A = goals_at S

    g_lt : g < length row
    g_lt = omega (arith, I.long, A.few, A.count_is_lem)

pub goals_end : {l left row : List ℕ} {at : View} {g : ℕ} → Seen l at → GoalsRanked l left row g → at.pairs - at.goals ≤ g
    → GoalsRanked l left row (vertex_count_of l (n_of l))
goals_end S I h =
    let c = (goals_at S).count_is_lem in
    record { long = I.long; at = λ u k. I.at u (omega arith); small = λ u k. I.small u (omega arith) }

-- ---- the states of the roots

-- root v is in state s: no other root is, and what is written there stands for this root alone
module _ {l : List ℕ} {at : View} {v s : ℕ} (S : Seen l at) (h : v < at.goals - at.roots) (p : s ≡ get_or l (at.roots + v) 0) where
  A : States l at.roots at.goals (vertex_count_of l 0) (root_state l)
  A = roots_at S

  pub root_is : s ≡ root_state l v
  root_is = p ∙ A.at v

  pub root_lt : s < most_states
  root_lt = (state_read A h p).s_lt

  pub root_alone : (u : ℕ) → u < v → root_state l u ≡ s → ⊥
  root_alone u k z = let m = S.sound.roots_ascend u v k (omega (arith, A.count_is_lem)) in omega (arith, root_is)

  pub root_more : (P : ℕ → ℕ → Type 0) (row : List ℕ) (x : ℕ) → length row ≡ most_states → P v x
      → ((u : ℕ) → u < v → P u (get_or row (root_state l u) 0)) → (u : ℕ) → u < v + 1 → P u (get_or (set row s x) (root_state l u) 0)
  root_more P row x long here before u k = go (ℕ_discrete u v)
    where
      go : Dec (u ≡ v) → P u (get_or (set row s x) (root_state l u) 0)
      go (yes e) =
          subst (λ w. P w (get_or (set row s x) (root_state l w) 0)) (sym e)
          (subst (λ w. P v (get_or (set row s x) w 0)) root_is
          (subst (P v) (sym (get_or-set_same row s x 0 (omega (arith, long, root_lt)))) here))
      go (no e) =
          subst (P u) (sym (get_or-set_other row s (root_state l u) x 0 (root_alone u (omega arith)))) (before u (omega arith))

  pub root_else : (row : List ℕ) (x t : ℕ) → ((u : ℕ) → u < v + 1 → root_state l u ≡ t → ⊥) → get_or (set row s x) t 0 ≡ get_or row t 0
  root_else row x t k = get_or-set_other row s t x 0 (λ z. k v (omega arith) (sym root_is ∙ sym z))

pub roots_start : {l row notes : List ℕ} → notes ≡ replicate most_states unreached
    → RootsPut l row (replicate most_states unreached) notes 0
roots_start {notes = notes} e = record {
  long = length-replicate {A = ℕ} most_states unreached;
  notes_long = ap length e ∙ length-replicate {A = ℕ} most_states unreached;
  cost = λ u m. absurd (not-suc-le-zero m);
  note = λ u m. absurd (not-suc-le-zero m);
  none = λ s m k.
      let r = get_or-replicate {A = ℕ} most_states s unreached 0 m in
      (r, ap (λ x. get_or x s 0) e ∙ r);
}

pub roots_more : {l row left notes : List ℕ} {at : View} {v s rank cost note : ℕ} → Seen l at → RootsPut l row left notes v
    → v < at.goals - at.roots → s ≡ get_or l (at.roots + v) 0 → rank ≡ get_or row v 0 → cost ≡ rank / distance_unit
    → note ≡ rank % note_unit
    → RootsPut l row (set left s cost) (set notes s note) (v + 1)
roots_more {l} {row} {left} {notes} {at} {v} {s} {rank} {cost} {note} S I h p r q w = record {
  long = simp length-set I.long;
  notes_long = simp length-set I.notes_long;
  cost = root_more S h p (λ u x. x ≡ get_or row u 0 / distance_unit) left cost I.long (q ∙ ap (λ x. x / distance_unit) r) I.cost;
  note = root_more S h p (λ u x. x ≡ get_or row u 0 % note_unit) notes note I.notes_long (w ∙ ap (λ x. x % note_unit) r) I.note;
  none = λ t k e.
      let before = I.none t k (λ u m. e u (omega arith)) in
      (root_else S h p left cost t e ∙ before.0, root_else S h p notes note t e ∙ before.1);
}

-- behind the last root
pub roots_all : {l : List ℕ} {at : View} {v : ℕ} → Seen l at → at.goals - at.roots ≤ v → v ≤ at.goals - at.roots
    → v ≡ vertex_count_of l 0
roots_all S h k = let c = (roots_at S).count_is_lem in omega arith

pub roots_end : {l row left notes : List ℕ} {at : View} {v : ℕ} → Seen l at → RootsPut l row left notes v → at.goals - at.roots ≤ v
    → v ≤ at.goals - at.roots → RootsPut l row left notes (vertex_count_of l 0)
roots_end {l} {row} {left} {notes} S I h k = subst (RootsPut l row left notes) (roots_all S h k) I

-- ---- the array of depth n's parity

module _ {l left : List ℕ} {at : View} {g : ℕ} (S : Seen l at) where
  pub goals_even : {even : List ℕ} (odd : List ℕ) → at.n % 2 ≡ 0 → GoalsRanked l left even g → GoalsRanked l left (side (n_of l) even odd) g
  goals_even {even} odd e I =
      subst (λ r. GoalsRanked l left r g) (sym (side_even (n_of l) even odd (ap (λ n. n % 2) (sym (header S).n_is) ∙ e))) I

  pub goals_odd : (even : List ℕ) {odd : List ℕ} → (at.n % 2 ≡ 0 → ⊥) → GoalsRanked l left odd g
      → GoalsRanked l left (side (n_of l) even odd) g
  goals_odd even {odd} e I =
      subst (λ r. GoalsRanked l left r g) (sym (side_odd (n_of l) even odd (λ z. e (ap (λ n. n % 2) (header S).n_is ∙ z)))) I
