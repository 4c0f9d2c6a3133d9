-- Block by block. Backward, what is left to pay before a block follows from what is left behind it, since the chain's numbers do so by
-- definition, and the note has the word that they name. Forward, each turn moves the first word of what is left of the path to what is
-- written.
use mathlib.Core.Path.{◌≡◌, refl, sym, ap, ap₂, subst, ◌∙◌}
use mathlib.Core.Logic.{inr}
use mathlib.Core.List.{List, ◌∷◌}
use Prim.Native.Nat.{ℕ, suc, ◌+◌, ◌-◌, ◌*◌, ◌/◌, ◌%◌, ◌≤◌, ◌<◌}
use native.Mathlib.Nat.{not-suc-le-zero, add-zero}
use native.Mathlib.Decide.{ℕ_discrete, dec_lt}
use native.Mathlib.Numerals.{add-one}
use native.Mathlib.Omega.{arith}
use lib.ListN.{length, get_or, drop, set, length-set}
use lib.Seq.{get_or-set_same, get_or-set_other, get_or-drop, drop-drop}
use Rattle.trellis.specs.Bounds.{most_states, costs_a_block}
use Rattle.trellis.specs.Word.{Word, word, word_at}
use Rattle.trellis.specs.Layout.{n_of, section_words}
use Rattle.paths.specs.Chain.{unreached}
use Rattle.paths.specs.Inner.Costs.{least}
use Rattle.paths.specs.Inner.Chains.{at_end, chain_least, chain_trace}
use Rattle.paths.specs.Inner.OneBlock.{least_over, first_over, word_price}
use Rattle.paths.specs.Inner.Ranked.{label_unit, distance_unit, ranked_cost, note_cycle, note_goal, note_word}
use Rattle.paths.proofs.Chain.{least_le, least_block, trace_block}
use Rattle.lowering.specs.Inner.Rows.{Priced}
use Rattle.passes.specs.Inner.Blocks.{Costs, BlockPassed}
use Rattle.passes.specs.Inner.Chains.{Chain, least_from, path_from, LeftAt, NoteAt, NotesFrom, CostsFrom, Written, RowWritten, Followed}
use Rattle.passes.specs.Inner.Chains.{FollowedTo}

-- a table filled from its last row on, one row more: `P c s x` is what is asked of the number x at state s of row c
pub row_more : (P : ℕ → ℕ → ℕ → Type 0) {b : ℕ} {row old new : List ℕ} → RowWritten (costs_a_block * b) row old new
    → ((s : ℕ) → s < most_states → P b s (get_or row s 0))
    → ((c s : ℕ) → suc b ≤ c → s < most_states → P c s (get_or old (costs_a_block * c + s) 0))
    → (c s : ℕ) → b ≤ c → s < most_states → P c s (get_or new (costs_a_block * c + s) 0)
row_more P {b} {row} {old} {new} R here behind c s g e = go (ℕ_discrete c b)
  where
    go : Dec (c ≡ b) → P c s (get_or new (costs_a_block * c + s) 0)
    go (yes z) = subst (λ x. P x s (get_or new (costs_a_block * x + s) 0)) (sym z) (subst (P b s) (sym (R.at s e)) (here s e))
    go (no z) = subst (P c s) (sym (R.kept (costs_a_block * c + s) (inr (omega arith)))) (behind c s (omega arith) e)

-- ---- backward

module _ (C : Chain) where
  abbrev chain_left : ℕ → ℕ → ℕ → ℕ
  chain_left k b s = chain_least C.words C.ends C.price unreached k b s

  -- behind the last block nothing is left to pay where a path may end, and there is no path elsewhere
  pub left_last : (left : List ℕ) → ((s : ℕ) → s < most_states → get_or left s 0 ≡ at_end unreached C.ends s) → LeftAt C C.blocks left
  unfolding least_from chain_least least
  left_last left e =
      let z : C.blocks - C.blocks ≡ 0 = omega arith in record { at = λ s h. e s h ∙ sym (ap (λ k. chain_left k C.blocks s) z) }

  -- the section at the front of l is that of block b, and its symbols have these prices
  pub record Uses (b : ℕ) (l prices : List ℕ) : Type 0 where
    pub cost : ℕ → ℕ → ℕ
    pub words_are : C.words b ≡ section_words l
    pub price_is : (w : Word) → C.price b w ≡ word_price (n_of l) cost w
    pub priced : Priced l prices (ranked_cost (n_of l) cost)

  module _ {b : ℕ} {l prices left new notes : List ℕ} (h : b < C.blocks) (U : Uses b l prices) (L : LeftAt C (suc b) left)
      (P : BlockPassed l prices left new notes) where
    abbrev k : ℕ
    k = C.blocks - suc b

    abbrev rest : ℕ → ℕ
    rest = chain_left k (suc b)

    costs : Costs l prices left U.cost rest
    unfolding least_from
    costs = record {
      priced = U.priced;
      behind = L.at;
      bound = least_le C.words C.ends C.price unreached k (suc b);
    }

    prices_are : C.price b ≡ word_price (n_of l) U.cost
    prices_are = λ i w. U.price_is w i

    more : C.blocks - b ≡ suc k
    more = omega arith

    over : (s : ℕ) → least_from C b s ≡ least_over (section_words l) (word_price (n_of l) U.cost) unreached rest s
    unfolding least_from
    over s =
        ap (λ j. chain_left j b s) more ∙ least_block C.words C.ends C.price unreached k b s
        ∙ ap₂ (λ ws p. least_over ws p unreached rest s) U.words_are prices_are

    pub left_more : LeftAt C b new
    left_more = record { at = λ s e. P.least U.cost rest costs s e ∙ sym (over s) }

    pub note_more : (s : ℕ) → s < most_states → NoteAt C b s (get_or notes s 0)
    unfolding least_from path_from
    note_more s e =
        let K = P.noted U.cost rest costs s e in
        let o = over s in
        record {
          small = K.small;
          none = λ i. o ∙ K.none i;
          goal_lt = K.goal_lt;
          remainder = λ i. K.remainder i ∙ sym (ap (λ x. x % note_cycle) o);
          adds_up = λ i. o ∙ K.adds_up i ∙ ap (λ x. x + rest (note_goal (get_or notes s 0))) (sym (U.price_is (note_word s (get_or notes s 0))));
          path = λ i. ap (λ j. path_to j s) more
              ∙ trace_block C.words C.ends C.price unreached k b s
              (ap₂ (λ ws p. first_over ws p unreached rest s) U.words_are prices_are ∙ K.first (subst (λ x. x < unreached) o i));
        }
      where
        path_to : ℕ → ℕ → List Word
        path_to j s = chain_trace C.words C.ends C.price unreached j b s

  -- the notes and the costs, a row more
  pub notes_more : {b : ℕ} {row old new : List ℕ} → NotesFrom C (suc b) old → ((s : ℕ) → s < most_states → NoteAt C b s (get_or row s 0))
      → RowWritten (costs_a_block * b) row old new → NotesFrom C b new
  notes_more {b} F K R = record {
    at = λ c s g h e. row_more (λ c s x. c < C.blocks → NoteAt C c s x) R (λ s e h. K s e) (λ c s g e h. F.at c s g h e) c s g e h;
  }

  pub costs_more : {b : ℕ} {row old new : List ℕ} → CostsFrom C (suc b) old → LeftAt C b row → RowWritten (costs_a_block * b) row old new
      → CostsFrom C b new
  costs_more {b} F L R = record {
    at = λ c s g h e.
        row_more (λ c s x. c < C.blocks → x ≡ least_from C c s) R (λ s e h. L.at s e) (λ c s g e h. F.at c s g h e) c s g e h;
  }

-- ---- forward

-- b words are written and state s is reached; the rest of the path is the one from there
pub record InWords (C : Chain) (start : ℕ) (labels new_labels goals new_goals : List ℕ) (b s : ℕ) : Type 0 where
  pub written : Written C start b labels new_labels goals new_goals
  pub state : s < most_states
  pub rest : drop b (path_from C 0 start) ≡ path_from C b s
  pub onward : least_from C b s < unreached

-- where there is a path, the note names a word, and there is a path onward from its goal
record Onward (C : Chain) (b s note : ℕ) : Type 0 where
  named : note < unreached
  goal_lt : note_goal note < most_states
  onward : least_from C (suc b) (note_goal note) < unreached

onward_of : {C : Chain} {b s note : ℕ} → least_from C b s < unreached → NoteAt C b s note → Onward C b s note
onward_of {C} {b} {s} {note} o K =
    record { named = named; goal_lt = K.goal_lt named; onward = let a = K.adds_up named in omega arith }
  where
    named : note < unreached
    named = go (dec_lt note unreached)
      where
        go : Dec (note < unreached) → note < unreached
        go (yes i) = i
        go (no i) = let e = K.none (omega arith) in absurd (omega arith)

module _ {C : Chain} {start : ℕ} where
  pub words_start : {labels goals : List ℕ} → start < most_states → least_from C 0 start < unreached
      → InWords C start labels labels goals goals 0 start
  words_start h k = record {
    written = record {
      label_at = λ i l. absurd (not-suc-le-zero l);
      goal_at = λ i l. absurd (not-suc-le-zero l);
      labels_kept = λ i l. refl;
      goals_kept = λ i l. refl;
    };
    state = h;
    rest = refl;
    onward = k;
  }

  pub words_more : {b s label goal : ℕ} {notes labels new_labels goals new_goals : List ℕ} → NotesFrom C 0 notes
      → InWords C start labels new_labels goals new_goals b s → b < C.blocks → b < length new_labels → b < length new_goals
      → label ≡ get_or notes (costs_a_block * b + s) 0 % distance_unit / label_unit → goal ≡ note_goal (get_or notes (costs_a_block * b + s) 0)
      → InWords C start labels (set new_labels b label) goals (set new_goals b goal) (b + 1) goal
  words_more {b} {s} {label} {goal} {notes} {labels} {new_labels} {goals} {new_goals} P I h x y l g =
      rw (add-one b)
      (record {
        written = record {
          label_at = λ i k. put (λ w. w.label) new_labels label x l Z.label_at i k;
          goal_at = λ i k. put (λ w. w.goal) new_goals goal y g Z.goal_at i k;
          labels_kept = λ i k. get_or-set_other new_labels b i label 0 (λ j. absurd (omega arith)) ∙ Z.labels_kept i (omega arith);
          goals_kept = λ i k. get_or-set_other new_goals b i goal 0 (λ j. absurd (omega arith)) ∙ Z.goals_kept i (omega arith);
        };
        state = subst (λ u. u < most_states) (sym g) O.goal_lt;
        rest = rest;
        onward = subst (λ u. least_from C (suc b) u < unreached) (sym g) O.onward;
      })
    where
      Z : Written C start b labels new_labels goals new_goals
      Z = I.written

      note : ℕ
      note = get_or notes (costs_a_block * b + s) 0

      chosen : Word
      chosen = note_word s note

      K : NoteAt C b s note
      K = P.at b s (omega arith) h I.state

      O : Onward C b s note
      O = onward_of I.onward K

      tail : drop b (path_from C 0 start) ≡ chosen ∷ path_from C (suc b) goal
      tail = I.rest ∙ K.path I.onward ∙ ap (λ u. chosen ∷ path_from C (suc b) u) (sym g)

      word_is : word_at (path_from C 0 start) b ≡ chosen
      word_is =
          ap (λ j. get_or (path_from C 0 start) j (word 0 0 0)) (sym (add-zero b))
          ∙ sym (get_or-drop b (path_from C 0 start) 0 (word 0 0 0)) ∙ ap (λ ws. get_or ws 0 (word 0 0 0)) tail

      rest : drop (suc b) (path_from C 0 start) ≡ path_from C (suc b) goal
      rest =
          ap (λ j. drop j (path_from C 0 start)) (sym (add-one b))
          ∙ sym (drop-drop 1 b (path_from C 0 start)) ∙ ap (drop 1) tail

      put : (f : Word → ℕ) (new : List ℕ) (u : ℕ) → b < length new → u ≡ f chosen
          → ((i : ℕ) → i < b → get_or new i 0 ≡ f (word_at (path_from C 0 start) i))
          → (i : ℕ) → i < suc b → get_or (set new b u) i 0 ≡ f (word_at (path_from C 0 start) i)
      put f new u a d before i k = go (ℕ_discrete i b)
        where
          go : Dec (i ≡ b) → get_or (set new b u) i 0 ≡ f (word_at (path_from C 0 start) i)
          go (yes j) =
              subst (λ v. get_or (set new b u) v 0 ≡ f (word_at (path_from C 0 start) v)) (sym j)
              (get_or-set_same new b u 0 a ∙ d ∙ ap f (sym word_is))
          go (no j) = get_or-set_other new b i u 0 j ∙ before i (omega arith)

-- the loop: the lengths, and for whatever chain the notes are of, how far its path is written
pub record InFollow (blocks start : ℕ) (notes labels new_labels goals new_goals : List ℕ) (b s : ℕ) : Type 0 where
  pub b_le : b ≤ blocks
  pub labels_long : length new_labels ≡ length labels
  pub goals_long : length new_goals ≡ length goals
  pub words : (C : Chain) → C.blocks ≡ blocks → NotesFrom C 0 notes → least_from C 0 start < unreached
      → InWords C start labels new_labels goals new_goals b s

pub follow_start : {blocks start : ℕ} {notes labels goals : List ℕ} → Followed blocks start notes labels goals
    → InFollow blocks start notes labels labels goals goals 0 start
follow_start F = record {
  b_le = omega arith;
  labels_long = refl;
  goals_long = refl;
  words = λ C e P o. words_start F.start_lt o;
}

-- what is read of the notes
pub record Here (notes labels goals : List ℕ) (b s note : ℕ) : Type 0 where
  pub s_lt : s < most_states
  pub place_lt : costs_a_block * b + s < length notes
  pub labels_lt : b < length labels
  pub goals_lt : b < length goals
  pub few : b < 256

module _ {blocks start : ℕ} {notes labels new_labels goals new_goals : List ℕ} {b s : ℕ} (F : Followed blocks start notes labels goals)
    (I : InFollow blocks start notes labels new_labels goals new_goals b s) (h : b < blocks) where
  pub here : Here notes new_labels new_goals b s (get_or notes (costs_a_block * b + s) 0)
  here =
      let W = I.words F.chain F.blocks_is F.noted F.some in
      let O = onward_of W.onward (F.noted.at b s (omega arith) (omega (arith, F.blocks_is)) W.state) in
      record {
        s_lt = W.state;
        place_lt = omega (arith, F.long, W.state);
        labels_lt = omega (arith, I.labels_long, F.labels_long);
        goals_lt = omega (arith, I.goals_long, F.goals_long);
        few = omega (arith, F.few);
      }

  pub follow_more : {label goal t : ℕ} → label ≡ get_or notes (costs_a_block * b + s) 0 % distance_unit / label_unit
      → goal ≡ note_goal (get_or notes (costs_a_block * b + s) 0) → t ≡ goal
      → InFollow blocks start notes labels (set new_labels b label) goals (set new_goals b goal) (b + 1) t
  follow_more {label} {goal} l g e =
      let H = here in
      subst (InFollow blocks start notes labels (set new_labels b label) goals (set new_goals b goal) (b + 1)) (sym e)
      (record {
        b_le = omega arith;
        labels_long = simp length-set I.labels_long;
        goals_long = simp length-set I.goals_long;
        words = λ C i P o. words_more P (I.words C i P o) (omega arith) H.labels_lt H.goals_lt l g;
      })

pub follow_end : {blocks start : ℕ} {notes labels new_labels goals new_goals : List ℕ} {b s : ℕ}
    → InFollow blocks start notes labels new_labels goals new_goals b s → blocks ≤ b
    → FollowedTo blocks start notes labels new_labels goals new_goals
follow_end {blocks} {start} {labels = labels} {new_labels} {goals} {new_goals} {b} I h =
    let z : b ≡ blocks = omega (arith, I.b_le) in
    record {
      labels_long = I.labels_long;
      goals_long = I.goals_long;
      written = λ C e P o. subst (λ x. Written C start x labels new_labels goals new_goals) z (I.words C e P o).written;
    }
