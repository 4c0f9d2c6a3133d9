-- The words of one slot, written from the last block to the first. A slot's words are those of the slot that its back pointer names, and
-- one word more (`trail-front`, `trail-last`). So behind a turn that has written the word of block b, the words that are left are those of
-- the slot that the pointer at block b names: this is what `Backward` keeps in `left`.
use mathlib.Core.Path.{◌≡◌, refl, sym, ap, ◌∙◌}
use mathlib.Core.Logic.{◌⊎◌, ⊎_elim}
use mathlib.Core.List.{List, [], ◌∷◌, ◌++◌}
use Prim.Native.Nat.{ℕ, zero, suc, ◌+◌, ◌-◌, ◌*◌, ◌≤◌, ◌<◌}
use native.Mathlib.Omega.{arith}
use native.Mathlib.Decide.{ℕ_discrete}
use lib.ListN.{get_or-append, length, get_or, set, length-set, length-append}
use lib.Seq.{get_or-set_same, get_or-set_other, get_or-append_seam}
use Rattle.trellis.specs.Bounds.{most_paths}
use Rattle.trellis.specs.Word.{Word, word, word_at}
use Rattle.codes.specs.Inner.Codes.{code_root, code_vertex, code_label}
use Rattle.beginnings.specs.Inner.Trails.{back_at, state_at, trail, NotedWell}
use Rattle.readout.specs.Inner.Read.{ReadPath}

-- ---- the words of a slot

module _ (back : List ℕ) (first : ℕ) where
  -- the slot that slot j behind block b goes on from
  abbrev parent : ℕ → ℕ → ℕ
  parent b j = code_root (back_at back first b j)

  abbrev last_word : ℕ → ℕ → Word
  last_word b j = word (state_at back first b (parent b j)) (code_label (back_at back first b j)) (code_vertex (back_at back first b j))

  length_trail : (b j : ℕ) → length (trail back first b j) ≡ b
  unfolding trail
  length_trail zero j = refl
  length_trail (suc b) j =
      length-append (trail back first b (parent b j)) (last_word b j ∷ []) ∙ omega (arith, length_trail b (parent b j))

  trail_front : (b j i : ℕ) → i < b → word_at (trail back first (suc b) j) i ≡ word_at (trail back first b (parent b j)) i
  unfolding trail
  trail_front b j i h =
      get_or-append (trail back first b (parent b j)) (last_word b j ∷ []) (word 0 0 0) i (omega (arith, length_trail b (parent b j)))

  trail_last : (b j : ℕ) → word_at (trail back first (suc b) j) b ≡ last_word b j
  unfolding trail
  trail_last b j =
      ap (word_at (trail back first b (parent b j) ++ (last_word b j ∷ []))) (sym (length_trail b (parent b j)))
      ∙ get_or-append_seam (trail back first b (parent b j)) (last_word b j) [] (word 0 0 0)

-- ---- what one turn keeps

-- the words from block b on are written, and those before it are the words of slot j
pub record Backward (back : List ℕ) (blocks slot at : ℕ) (labels new_labels goals new_goals : List ℕ) (j b : ℕ) : Type 0 where
  pub b_le : b ≤ blocks
  pub j_lt : j < most_paths
  pub long_labels : length new_labels ≡ length labels
  pub long_goals : length new_goals ≡ length goals
  pub left : (first i : ℕ) → i < b → word_at (trail back first blocks slot) i ≡ word_at (trail back first b j) i
  pub label_at : (first i : ℕ) → b ≤ i → i < blocks → get_or new_labels (at + i) 0 ≡ (word_at (trail back first blocks slot) i).label
  pub goal_at : (first i : ℕ) → b ≤ i → i < blocks → get_or new_goals (at + i) 0 ≡ (word_at (trail back first blocks slot) i).goal
  pub other_labels : (i : ℕ) → (i < at) ⊎ (at + blocks ≤ i) → get_or new_labels i 0 ≡ get_or labels i 0
  pub other_goals : (i : ℕ) → (i < at) ⊎ (at + blocks ≤ i) → get_or new_goals i 0 ≡ get_or goals i 0

module _ {back : List ℕ} {blocks slot at : ℕ} {labels goals : List ℕ} where
  pub backward_start : slot < most_paths → Backward back blocks slot at labels labels goals goals slot blocks
  backward_start h = record {
    b_le = omega arith;
    j_lt = h;
    long_labels = refl;
    long_goals = refl;
    left = λ f i k. refl;
    label_at = λ f i k l. absurd (omega arith);
    goal_at = λ f i k l. absurd (omega arith);
    other_labels = λ i k. refl;
    other_goals = λ i k. refl;
  }

  -- c is the pointer of slot j at the block before, l, g and p are what it says
  pub backward_more : {new_labels new_goals : List ℕ} {j b c l v g p : ℕ}
      → Backward back blocks slot at labels new_labels goals new_goals j b → 0 < b → NotedWell back → at + blocks ≤ length labels
      → at + blocks ≤ length goals → c ≡ get_or back (most_paths * (b - 1) + j) 0 → l ≡ code_label c → v ≡ code_vertex c → g ≡ v
      → p ≡ code_root c
      → Backward back blocks slot at labels (set new_labels (at + (b - 1)) l) goals (set new_goals (at + (b - 1)) g) p (b - 1)
  backward_more {new_labels} {new_goals} {j} {b} {c} {l} {v} {g} {p} B h N ll lg ec el ev eg ep = record {
    b_le = omega (arith, B.b_le);
    j_lt = omega (arith, root_is, N.proper (most_paths * a + j));
    long_labels = length-set new_labels (at + a) l ∙ B.long_labels;
    long_goals = length-set new_goals (at + a) g ∙ B.long_goals;
    left = λ f i k. whole f i (omega arith) ∙ trail_front back f a j i k ∙ ap (λ w. word_at (trail back f a w) i) (sym root_is);
    label_at = λ f i k m. label_of f i k m (ℕ_discrete i a);
    goal_at = λ f i k m. goal_of f i k m (ℕ_discrete i a);
    other_labels = λ i k. get_or-set_other new_labels (at + a) i l 0 (λ e. outside i k e) ∙ B.other_labels i k;
    other_goals = λ i k. get_or-set_other new_goals (at + a) i g 0 (λ e. outside i k e) ∙ B.other_goals i k;
  }
    where
      a : ℕ
      a = b - 1

      step : suc a ≡ b
      step = omega arith

      root_is : p ≡ code_root (get_or back (most_paths * a + j) 0)
      root_is = ep ∙ ap code_root ec

      label_is : l ≡ code_label (get_or back (most_paths * a + j) 0)
      label_is = el ∙ ap code_label ec

      goal_is : g ≡ code_vertex (get_or back (most_paths * a + j) 0)
      goal_is = eg ∙ ev ∙ ap code_vertex ec

      whole : (f i : ℕ) → i < b → word_at (trail back f blocks slot) i ≡ word_at (trail back f (suc a) j) i
      whole f i k = B.left f i k ∙ ap (λ w. word_at (trail back f w j) i) (sym step)

      -- the word of the block that is written now
      this : (f i : ℕ) → i ≡ a → word_at (trail back f blocks slot) i ≡ last_word back f a j
      this f i e = ap (word_at (trail back f blocks slot)) e ∙ whole f a (omega arith) ∙ trail_last back f a j

      outside : (i : ℕ) → (i < at) ⊎ (at + blocks ≤ i) → i ≡ at + a → ⊥
      outside i k e = let m = B.b_le in ⊎_elim (λ y. omega arith) (λ y. omega arith) k

      label_of : (f i : ℕ) → a ≤ i → i < blocks → Dec (i ≡ a)
          → get_or (set new_labels (at + a) l) (at + i) 0 ≡ (word_at (trail back f blocks slot) i).label
      label_of f i k m (yes e) =
          let q = B.b_le in
          ap (λ w. get_or (set new_labels (at + a) l) (at + w) 0) e
          ∙ get_or-set_same new_labels (at + a) l 0 (omega (arith, B.long_labels)) ∙ label_is ∙ sym (ap (λ w. w.label) (this f i e))
      label_of f i k m (no e) =
          get_or-set_other new_labels (at + a) (at + i) l 0 (λ q. e (omega arith)) ∙ B.label_at f i (omega arith) m

      goal_of : (f i : ℕ) → a ≤ i → i < blocks → Dec (i ≡ a)
          → get_or (set new_goals (at + a) g) (at + i) 0 ≡ (word_at (trail back f blocks slot) i).goal
      goal_of f i k m (yes e) =
          let q = B.b_le in
          ap (λ w. get_or (set new_goals (at + a) g) (at + w) 0) e
          ∙ get_or-set_same new_goals (at + a) g 0 (omega (arith, B.long_goals)) ∙ goal_is ∙ sym (ap (λ w. w.goal) (this f i e))
      goal_of f i k m (no e) = get_or-set_other new_goals (at + a) (at + i) g 0 (λ q. e (omega arith)) ∙ B.goal_at f i (omega arith) m

  pub backward_all : {new_labels new_goals : List ℕ} {j b : ℕ} → Backward back blocks slot at labels new_labels goals new_goals j b → b ≤ 0
      → ReadPath back blocks slot at labels new_labels goals new_goals
  backward_all B h = record {
    long_labels = B.long_labels;
    long_goals = B.long_goals;
    label_at = λ f i k. B.label_at f i (omega arith) k;
    goal_at = λ f i k. B.goal_at f i (omega arith) k;
    other_labels = B.other_labels;
    other_goals = B.other_goals;
  }
