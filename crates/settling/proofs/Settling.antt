-- From the last block to the first the costs behind a block are known. What a word of the block adds is below `note_cycle`, so that it is
-- the remainder of the cost, which the note has, less the remainder of the cost behind. The note of no path leads to a place behind the
-- states that has the mark for no path, and adds nothing to it; a state that is no root has that note, which is the mark itself. Rows are
-- settled root by root; roots ascend, so that no state is settled twice.
use mathlib.Core.Path.{◌≡◌, refl, sym, ap, subst, ◌∙◌}
use mathlib.Core.Logic.{inl, inr}
use mathlib.Core.List.{List, ◌++◌}
use Prim.Native.Nat.{ℕ, suc, ◌+◌, ◌-◌, ◌*◌, ◌/◌, ◌%◌, ◌≤◌, ◌<◌}
use native.Mathlib.Nat.{not-suc-le-zero}
use native.Mathlib.Decide.{dec_lt}
use native.Mathlib.Omega.{arith}
use lib.ListN.{length, get_or, take, drop, set, length-set, length-take, length-drop, replicate, length-replicate, get_or-replicate}
use lib.Seq.{get_or-append_right, get_or-take, get_or-drop}
use Rattle.trellis.specs.Bounds.{most_states, costs_a_block}
use Rattle.trellis.specs.Layout.{vertex_count_of, roots_place, goals_place, root_state}
use Rattle.trellis.proofs.Buffers.{over_front, over_length}
use Rattle.paths.specs.Chain.{unreached}
use Rattle.paths.specs.Inner.Ranked.{label_unit, distance_unit, note_cycle, no_goal, note_goal, note_word}
use Rattle.paths.proofs.Chain.{least_le}
use Rattle.section_file.specs.Inner.Sound.{Sound}
use Rattle.section_file.specs.Inner.View.{view_of, Seen}
use Rattle.section_file.proofs.Seen.{header, roots_at}
use Rattle.passes.specs.Inner.Chains.{Chain, least_from, LeftAt, NoteAt, NotesFrom, CostsFrom, RowWritten}
use Rattle.passes.proofs.Ends.{root_is, root_lt, root_alone, root_more, root_else}
use Rattle.passes.proofs.Passing.{root_of, RootAt, root_at}
use Rattle.passes.proofs.Chains.{left_last, costs_more}
use Rattle.cost_table.specs.Inner.Filled.{EndsAs, HeldBlocks, block_part, Unrooted}
use Rattle.cost_table.proofs.Rows.{row_inside}
use Rattle.settled.specs.Inner.Cost.{settled_cost}
use Rattle.settling.specs.Inner.Settled.{CostsBehind, RowFits, RootsSettled, RowCopied, BlockSettled, Cheap, Settled}

-- ---- one note

-- what is added below `note_cycle` is told by the two remainders
difference : (cost added : ℕ) → added < note_cycle
    → cost + ((cost + added) % note_cycle + note_cycle - cost % note_cycle) % note_cycle ≡ cost + added
difference cost added h = omega arith

module _ {C : Chain} {b s note : ℕ} {behind : List ℕ} (h : b < C.blocks) (K : Cheap C) (M : CostsBehind behind)
    (L : LeftAt C (suc b) behind) (N : NoteAt C b s note) where
  -- what stands at the note's goal
  settled_of : {cost : ℕ} → get_or behind (note_goal note) 0 ≡ cost
      → settled_cost behind note ≡ cost + (note / distance_unit + note_cycle - cost % note_cycle) % note_cycle
  unfolding settled_cost
  settled_of e = ap (λ x. x + (note / distance_unit + note_cycle - x % note_cycle) % note_cycle) e

  pub settled_is : settled_cost behind note ≡ least_from C b s
  settled_is = go (dec_lt note unreached)
    where
      turned : (x y : ℕ) → x + y ≡ y + x
      turned x y = omega arith

      go : Dec (note < unreached) → settled_cost behind note ≡ least_from C b s
      go (no k) =
          let z : note ≡ unreached = omega (arith, N.small) in
          settled_of (ap (λ x. get_or behind (note_goal x) 0) z ∙ M.none)
          ∙ ap (λ x. unreached + (x / distance_unit + note_cycle - unreached % note_cycle) % note_cycle) z ∙ sym (N.none (omega arith))
      go (yes k) =
          let cost = least_from C (suc b) (note_goal note) in
          let added = C.price b (note_word s note) in
          let r : note / distance_unit ≡ (cost + added) % note_cycle
          = N.remainder k ∙ ap (λ x. x % note_cycle) (N.adds_up k ∙ turned added cost) in
          settled_of (L.at (note_goal note) (N.goal_lt k))
          ∙ ap (λ x. cost + (x + note_cycle - cost % note_cycle) % note_cycle) r
          ∙ difference cost added (K.below b h (note_word s note)) ∙ sym (N.adds_up k ∙ turned added cost)

  pub note_fits : settled_cost behind note ≤ unreached
  unfolding least_from
  note_fits = subst (λ x. x ≤ unreached) (sym settled_is) (least_le C.words C.ends C.price unreached (C.blocks - b) b s)

-- ---- one row, root by root

-- a section's roots by its own counts, where its view has them
pub record RootsRead (l : List ℕ) (roots count : ℕ) : Type 0 where
  pub seen : Seen l (view_of l)
  pub roots_is : roots ≡ (view_of l).roots
  pub count_is_lem : count ≡ (view_of l).goals - (view_of l).roots
  pub all : count ≡ vertex_count_of l 0
  pub inside : roots + count ≤ length l
  pub near : roots + count ≤ 30000

pub counts_there : {l : List ℕ} → Sound l → 4 ≤ length l
counts_there {l} s =
    let S : Seen l (view_of l) = record { sound = s; is = refl } in
    let i = (header S).inside in
    omega arith

pub roots_read : {l : List ℕ} {n count : ℕ} → Sound l → n ≡ get_or l 1 0 → count ≡ get_or l 3 0 → RootsRead l (4 + 2 * n) count
unfolding view_of roots_place goals_place vertex_count_of
roots_read {l} {n} {count} s p q =
    let S : Seen l (view_of l) = record { sound = s; is = refl } in
    let A = roots_at S in
    let i = A.inside in
    let r = A.near in
    record { seen = S; roots_is = omega arith; count_is_lem = omega arith; all = q; inside = omega arith; near = omega arith }

pub roots_start : {l behind row : List ℕ} → RowFits behind row → RootsSettled l behind row row 0
roots_start O = record { long = O.long; at = λ u h. absurd (not-suc-le-zero h); kept = λ s h. refl }

module _ {l behind old row : List ℕ} {roots count v s : ℕ} (R : RootsRead l roots count) (I : RootsSettled l behind old row v)
    (below : v < count) (read : s ≡ get_or l (roots + v) 0) where
  S : Seen l (view_of l)
  S = R.seen

  h : v < (view_of l).goals - (view_of l).roots
  h = omega (arith, R.count_is_lem)

  p : s ≡ get_or l ((view_of l).roots + v) 0
  p = read ∙ ap (λ x. get_or l (x + v) 0) R.roots_is

  pub state_lt : s < most_states
  state_lt = root_lt S h p

  -- the note of the next root is still there
  note_there : get_or row s 0 ≡ get_or old s 0
  note_there = I.kept s (root_alone S h p)

  pub still_fits : RowFits behind old → settled_cost behind (get_or row s 0) ≤ unreached
  still_fits O = subst (λ x. settled_cost behind x ≤ unreached) (sym note_there) (O.small s state_lt)

  pub roots_more : {x : ℕ} → x ≡ settled_cost behind (get_or row s 0) → RootsSettled l behind old (set row s x) (v + 1)
  roots_more {x} q = record {
    long = simp length-set I.long;
    at = root_more S h p (λ u y. y ≡ settled_cost behind (get_or old (root_state l u) 0)) row x I.long
        (q ∙ ap (settled_cost behind) (note_there ∙ ap (λ t. get_or old t 0) (root_is S h p))) I.at;
    kept = λ t k. root_else S h p row x t k ∙ I.kept t (λ u m. k u (omega arith));
  }

pub roots_end : {l behind old row : List ℕ} {roots count v : ℕ} → RootsRead l roots count → RootsSettled l behind old row v → count ≤ v
    → v ≤ count → RootsSettled l behind old row (vertex_count_of l 0)
roots_end {l} {behind} {old} {row} {v = v} R I h k =
    let e : v ≡ vertex_count_of l 0 = omega (arith, R.all) in subst (RootsSettled l behind old row) e I

-- ---- copied

pub row_copied : {row old new : List ℕ} → length row ≡ most_states → length old ≡ label_unit → new ≡ row
    → RowCopied row old (new ++ drop most_states old) most_states
row_copied {row} {old} h l e =
    subst (λ x. RowCopied row old (x ++ drop most_states old) most_states) (sym e)
    (subst (λ n. RowCopied row old (row ++ drop n old) n) h
    (record { long = over_length row old (omega arith) ∙ l; at = over_front row old; kept = behind }))
  where
    behind : (u : ℕ) → length row ≤ u → get_or (row ++ drop (length row) old) u 0 ≡ get_or old u 0
    behind u k =
        get_or-append_right row (drop (length row) old) u 0 k ∙ get_or-drop (length row) old (u - length row) 0
        ∙ ap (λ i. get_or old i 0) (omega arith)

-- the mark behind the states stays
behind_copied : {row old place : List ℕ} → CostsBehind old → RowCopied row old place most_states → CostsBehind place
behind_copied M I = record { long = I.long; none = I.kept no_goal (omega arith) ∙ M.none }

-- ---- block by block

-- `last` has the costs behind the last block
pub record InSettle (blocks : ℕ) (last old new behind : List ℕ) (b : ℕ) : Type 0 where
  pub b_le : b ≤ blocks
  pub long : length new ≡ length old
  pub marked : CostsBehind behind
  pub kept : (i : ℕ) → costs_a_block * blocks ≤ i → get_or new i 0 ≡ get_or old i 0
  pub unsettled : (i : ℕ) → i < costs_a_block * b → get_or new i 0 ≡ get_or old i 0
  pub left_is : (C : Chain) → C.blocks ≡ blocks → Cheap C → LeftAt C blocks last → NotesFrom C 0 old → LeftAt C b behind
  pub costs : (C : Chain) → C.blocks ≡ blocks → Cheap C → LeftAt C blocks last → NotesFrom C 0 old → CostsFrom C b new

pub settle_start : {blocks : ℕ} {ends notes last : List ℕ} → RowCopied ends (replicate label_unit unreached) last most_states
    → InSettle blocks last notes notes last blocks
settle_start I = record {
  b_le = omega arith;
  long = refl;
  marked = behind_copied (record {
    long = length-replicate {A = ℕ} label_unit unreached;
    none = get_or-replicate {A = ℕ} label_unit no_goal unreached 0 (omega arith);
  }) I;
  kept = λ i k. refl;
  unsettled = λ i k. refl;
  left_is = λ C e K L N. L;
  costs = λ C e K L N. record { at = λ c s k l. absurd (omega arith) };
}

-- behind the last block nothing is left to pay where a path may end
pub last_is : {C : Chain} {blocks : ℕ} {ends old last : List ℕ} → C.blocks ≡ blocks → EndsAs C ends → RowCopied ends old last most_states
    → LeftAt C blocks last
last_is {C} {last = last} e E I = subst (λ b. LeftAt C b last) e (left_last C last (λ s k. I.at s k ∙ E.at s k))

-- a row as it is lent
abbrev row_of : ℕ → List ℕ → List ℕ
row_of first l = take (first + costs_a_block - first) (drop first l)

row_at : (first : ℕ) (l : List ℕ) (s : ℕ) → s < costs_a_block → get_or (row_of first l) s 0 ≡ get_or l (first + s) 0
row_at first l s h = get_or-take (first + costs_a_block - first) (drop first l) s 0 (omega arith) ∙ get_or-drop first l s 0

module _ {blocks : ℕ} {last old mid behind : List ℕ} {b : ℕ} (I : InSettle blocks last old mid behind b) (h : 0 < b)
    (fits : costs_a_block * blocks ≤ length old) where
  abbrev first : ℕ
  first = costs_a_block * (b - 1)

  -- the notes of the block are still there
  row_is : (s : ℕ) → s < most_states → get_or (row_of first mid) s 0 ≡ get_or old (first + s) 0
  row_is s k = row_at first mid s k ∙ I.unsettled (first + s) (omega arith)

  module _ (C : Chain) (e : C.blocks ≡ blocks) (K : Cheap C) (L : LeftAt C blocks last) (N : NotesFrom C 0 old) where
    in_chain : b - 1 < C.blocks
    in_chain = omega (arith, I.b_le)

    left_behind : LeftAt C (suc (b - 1)) behind
    left_behind = let n : b ≡ suc (b - 1) = omega arith in subst (λ c. LeftAt C c behind) n (I.left_is C e K L N)

    note_at : (s : ℕ) → s < most_states → NoteAt C (b - 1) s (get_or (row_of first mid) s 0)
    note_at s k = subst (NoteAt C (b - 1) s) (sym (row_is s k)) (N.at (b - 1) s (omega arith) in_chain k)

    pub row_fits : RowFits behind (row_of first mid)
    row_fits = record {
      behind_long = I.marked.long;
      long = simp (length-take, length-drop) (omega (arith, row_inside I.b_le h I.long fits));
      small = λ s k. note_fits in_chain K I.marked left_behind (note_at s k);
    }

  -- `part` is the section as it is lent
  module _ {H : HeldBlocks} (n : length H.indices ≡ blocks) (U : Unrooted H 0 old) {part row new copy : List ℕ}
      (p : part ≡ block_part H (b - 1)) (S : BlockSettled part behind (row_of first mid) row copy) (P : RowWritten first row mid new) where
    abbrev l : List ℕ
    l = block_part H (b - 1)

    B : BlockSettled l behind (row_of first mid) row copy
    B = subst (λ x. BlockSettled x behind (row_of first mid) row copy) p S

    module _ (C : Chain) (e : C.blocks ≡ blocks) (K : Cheap C) (L : LeftAt C blocks last) (N : NotesFrom C 0 old) where
      cost_at : (s : ℕ) → s < most_states → get_or row s 0 ≡ least_from C (b - 1) s
      cost_at s k = go (root_at l s) (dec_lt (root_of l s) (vertex_count_of l 0))
        where
          go : RootAt l s (root_of l s) → Dec (root_of l s < vertex_count_of l 0) → get_or row s 0 ≡ least_from C (b - 1) s
          go F (yes j) =
              subst (λ x. get_or row x 0 ≡ settled_cost behind (get_or (row_of first mid) x 0)) (F.is j) (B.settled.at (root_of l s) j)
              ∙ settled_is (in_chain C e K L N) K I.marked (left_behind C e K L N) (note_at C e K L N s k)
          go F (no j) =
              let none = F.none (omega arith) in
              let u = U.at (b - 1) s (omega arith) (omega (arith, I.b_le)) k none in
              B.settled.kept s none ∙ row_is s k ∙ u
              ∙ sym ((N.at (b - 1) s (omega arith) (in_chain C e K L N) k).none (omega arith))

      here : LeftAt C (b - 1) row
      here = record { at = cost_at }

      costs_here : CostsFrom C (b - 1) new
      costs_here =
          let m : b ≡ suc (b - 1) = omega arith in costs_more C (subst (λ c. CostsFrom C c mid) m (I.costs C e K L N)) here P

    pub settle_more : InSettle blocks last old new copy (b - 1)
    settle_more = record {
      b_le = omega (arith, I.b_le);
      long = P.long ∙ I.long;
      marked = behind_copied I.marked B.copied;
      kept = λ i k. P.kept i (inr (omega (arith, I.b_le))) ∙ I.kept i k;
      unsettled = λ i k. P.kept i (inl k) ∙ I.unsettled i (omega arith);
      left_is = λ C e K L N. record { at = λ s k. B.copied.at s k ∙ cost_at C e K L N s k };
      costs = costs_here;
    }

pub settle_end : {blocks : ℕ} {ends blank last old new behind : List ℕ} {b : ℕ} → RowCopied ends blank last most_states
    → InSettle blocks last old new behind b → b ≤ 0 → Settled blocks ends old new
settle_end {new = new} {b = b} R I h =
    let z : b ≡ 0 = omega arith in
    record {
      long = I.long;
      kept = I.kept;
      costs = λ C e K E N. subst (λ c. CostsFrom C c new) z (I.costs C e K (last_is e E R) N);
    }
