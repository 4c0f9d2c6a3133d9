-- One block: the ranks of the goals make the ranks of the roots along the edges of the section, and a root's rank has the least cost from
-- its state and, in its note, the first word of that cost. A state that is no root has no word.
use mathlib.Core.Path.{◌≡◌, refl, sym, ap, subst, ◌∙◌}
use mathlib.Core.List.{List}
use Prim.Native.Nat.{ℕ, ◌-◌, ◌/◌, ◌%◌, ◌≤◌, ◌<◌}
use native.Mathlib.Nat.{zero-add}
use native.Mathlib.Decide.{dec_lt}
use native.Mathlib.Omega.{arith}
use lib.Dec.{T, eqb, eqb→eq, eqb_refl}
use lib.ListN.{length, get_or}
use Rattle.trellis.specs.Bounds.{most_states, most_words}
use Rattle.trellis.specs.Lists.{◌∈◌, each, first}
use Rattle.trellis.specs.Section.{word_of}
use Rattle.trellis.specs.Layout.{n_of, vertex_count_of, root_state, goal_state, step_edges, section_words}
use Rattle.trellis.proofs.Lists.{of_run, in_each, First, first_ok}
use Rattle.paths.specs.Chain.{unreached}
use Rattle.paths.specs.Inner.Sections.{section_least}
use Rattle.paths.specs.Inner.OneBlock.{least_over, word_price}
use Rattle.paths.specs.Inner.Ranked.{distance_unit, top_rank, ranked_cost, ranked_left, note_unit, PriceRoom, Noted}
use Rattle.paths.proofs.Sections.{least_last}
use Rattle.paths.proofs.Packed.{cost_packed}
use Rattle.paths.proofs.Words.{whole_fits}
use Rattle.paths.proofs.Ordered.{run_ordered}
use Rattle.paths.proofs.Blocks.{Uses, least_else}
use Rattle.paths.proofs.Ranked.{Rankable, rank_from, ranked_least, ranked_note}
use Rattle.section_file.specs.Inner.Sound.{Sound}
use Rattle.section_file.specs.Inner.View.{Seen}
use Rattle.section_file.specs.declared.View.{View}
use Rattle.section_file.proofs.Words.{bounded, words_ascend}
use Rattle.section_file.proofs.Seen.{goals_at}
use Rattle.lowering.specs.Inner.Rows.{side, LeastRow, SweepAsked, Swept}
use Rattle.passes.specs.Inner.Blocks.{Costs, BlockPassed}
use Rattle.passes.specs.Inner.Loops.{GoalsRanked, RootsPut}

-- ---- the section as the theory of paths takes it

module _ {l : List ℕ} (S : Sound l) (cost : ℕ → ℕ → ℕ) where
  abbrev roots : List ℕ
  roots = each (λ v. v) (vertex_count_of l 0)

  uses : Uses (section_words l) (word_price (n_of l) cost) (step_edges l) (n_of l) roots (root_state l) (goal_state l) cost
  unfolding section_words word_price word_of
  uses = record {
    words_are = refl;
    roots_rise = run_ordered (λ v. v) 0 (vertex_count_of l 0) (λ j k a c. S.roots_ascend j k a (omega arith));
    same_cost = λ v p m.
        let P = whole_fits (step_edges l) (n_of l) (vertex_count_of l (n_of l)) (bounded S) S.n_from v p m in
        cost_packed cost (n_of l) P.symbols_fit 0 0 (zero-add (n_of l));
  }

  rankable : Rankable (step_edges l) (n_of l) (vertex_count_of l (n_of l)) roots (root_state l) (goal_state l)
  unfolding section_words
  rankable = record {
    some = S.n_from;
    short = S.n_to;
    fits = bounded S;
    small = λ g h. omega (arith, S.goals_below g h, S.states_to);
    ordered = words_ascend S;
  }

  listed : (v : ℕ) → v < vertex_count_of l 0 → v ∈ roots
  listed v h = in_each (λ u. u) (vertex_count_of l 0) v v h refl

  none_listed : (s : ℕ) → ((v : ℕ) → v < vertex_count_of l 0 → root_state l v ≡ s → ⊥) → (v : ℕ) → v ∈ roots → root_state l v ≡ s → ⊥
  none_listed s h v m = let w = of_run (λ u. u) 0 (vertex_count_of l 0) v m in h v (omega (arith, w.is, w.below))

-- the root in state s, or the number of roots
abbrev pub root_of : List ℕ → ℕ → ℕ
root_of l s = first (λ v. eqb (root_state l v) s) (vertex_count_of l 0)

pub record RootAt (l : List ℕ) (s r : ℕ) : Type 0 where
  pub is : r < vertex_count_of l 0 → root_state l r ≡ s
  pub none : vertex_count_of l 0 ≤ r → (u : ℕ) → u < vertex_count_of l 0 → root_state l u ≡ s → ⊥

pub root_at : (l : List ℕ) (s : ℕ) → RootAt l s (root_of l s)
root_at l s = record {
  is = λ h. eqb→eq (root_state l (root_of l s)) s (F.hit h);
  none = λ h u k e. F.miss u (omega arith) (subst (λ x. T (eqb x s)) (sym e) (eqb_refl s));
}
  where
    F : First (λ v. eqb (root_state l v) s) (vertex_count_of l 0) (root_of l s)
    F = first_ok (λ v. eqb (root_state l v) s) (vertex_count_of l 0)

-- ---- the row of depth n

pub sweep_asked : {l prices left even odd : List ℕ} {at : View} → Seen l at → PriceRoom prices
    → GoalsRanked l left (side (n_of l) even odd) (vertex_count_of l (n_of l)) → length even ≡ most_words → length odd ≡ most_words
    → SweepAsked l prices even odd
sweep_asked S R G e o = record { room = R; even_long = e; odd_long = o; small = G.small }

-- what is left to pay in the state of a goal is the least cost of no step
abbrev pub goal_number : List ℕ → (ℕ → ℕ) → ℕ → ℕ
goal_number l rest g = ranked_left (rest (goal_state l g)) (goal_state l g)

pub last_row : {l prices left row : List ℕ} {at : View} {cost : ℕ → ℕ → ℕ} {rest : ℕ → ℕ} → Seen l at
    → GoalsRanked l left row (vertex_count_of l (n_of l)) → Costs l prices left cost rest
    → LeastRow l (ranked_cost (n_of l) cost) (goal_number l rest) (n_of l) row
last_row {l} {cost = cost} {rest} S G C = record {
  at = λ v h.
      let z : n_of l - n_of l ≡ 0 = omega arith in
      G.at v h ∙ ap (λ x. ranked_left x (goal_state l v)) (C.behind (goal_state l v) ((goals_at S).small v h))
      ∙ sym (ap (λ j. section_least (step_edges l) (ranked_cost (n_of l) cost) top_rank (goal_number l rest) j (n_of l) v) z
      ∙ least_last (step_edges l) (ranked_cost (n_of l) cost) top_rank (goal_number l rest) (n_of l) v);
}

-- ---- the whole block

module _ {l prices left even odd new_even new_odd new notes : List ℕ} {at : View} (S : Seen l at)
    (G : GoalsRanked l left (side (n_of l) even odd) (vertex_count_of l (n_of l)))
    (W : Swept l prices even odd new_even new_odd) (R : RootsPut l new_even new notes (vertex_count_of l 0)) where
  module _ (cost : ℕ → ℕ → ℕ) (rest : ℕ → ℕ) (C : Costs l prices left cost rest) where
    abbrev rank : ℕ → ℕ
    rank v = rank_from (uses S.sound cost) (rankable S.sound cost) rest C.bound v

    ranks : (v : ℕ) → v < vertex_count_of l 0 → get_or new_even v 0 ≡ rank v
    ranks v h =
        let z : n_of l - 0 ≡ n_of l = omega arith in
        (W.row (ranked_cost (n_of l) cost) (goal_number l rest) C.priced (last_row S G C)).at v h
        ∙ ap (λ j. section_least (step_edges l) (ranked_cost (n_of l) cost) top_rank (goal_number l rest) j 0 v) z

    abbrev least : ℕ → ℕ
    least s = least_over (section_words l) (word_price (n_of l) cost) unreached rest s

    least_is : (s : ℕ) → s < most_states → get_or new s 0 ≡ least s
    least_is s k = go (root_at l s) (dec_lt (root_of l s) (vertex_count_of l 0))
      where
        go : RootAt l s (root_of l s) → Dec (root_of l s < vertex_count_of l 0) → get_or new s 0 ≡ least s
        go F (yes h) =
            subst (λ x. get_or new x 0 ≡ least x) (F.is h)
            (R.cost (root_of l s) h ∙ ap (λ x. x / distance_unit) (ranks (root_of l s) h)
            ∙ ranked_least (uses S.sound cost) (rankable S.sound cost) rest C.bound (root_of l s)
            (listed S.sound cost (root_of l s) h))
        go F (no h) =
            let none = F.none (omega arith) in
            (R.none s k none).0 ∙ sym (least_else (uses S.sound cost) unreached rest C.bound s (none_listed S.sound cost s none))

    noted_is : (s : ℕ) → s < most_states → Noted (section_words l) (word_price (n_of l) cost) rest s (get_or notes s 0)
    noted_is s k = go (root_at l s) (dec_lt (root_of l s) (vertex_count_of l 0))
      where
        go : RootAt l s (root_of l s) → Dec (root_of l s < vertex_count_of l 0)
            → Noted (section_words l) (word_price (n_of l) cost) rest s (get_or notes s 0)
        go F (yes h) =
            subst (λ x. Noted (section_words l) (word_price (n_of l) cost) rest x (get_or notes x 0)) (F.is h)
            (subst (Noted (section_words l) (word_price (n_of l) cost) rest (root_state l (root_of l s)))
            (sym (R.note (root_of l s) h ∙ ap (λ x. x % note_unit) (ranks (root_of l s) h)))
            (ranked_note (uses S.sound cost) (rankable S.sound cost) rest C.bound (root_of l s)
            (listed S.sound cost (root_of l s) h)))
        go F (no h) =
            let none = F.none (omega arith) in
            let e = least_else (uses S.sound cost) unreached rest C.bound s (none_listed S.sound cost s none) in
            let n = (R.none s k none).1 in
            record {
              small = omega arith;
              none = λ i. e;
              goal_lt = λ i. absurd (omega arith);
              remainder = λ i. absurd (omega arith);
              adds_up = λ i. absurd (omega arith);
              first = λ i. absurd (omega arith);
            }

  pub passed : BlockPassed l prices left new notes
  passed = record {
    long = R.long;
    notes_long = R.notes_long;
    least = least_is;
    noted = noted_is;
    unrooted = λ s h n. (R.none s h n).1;
  }
