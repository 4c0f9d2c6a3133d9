-- What copy_words keeps: the words that are copied so far.
use mathlib.Core.Path.{◌≡◌, sym, ap, subst, ◌∙◌}
use mathlib.Core.List.{List}
use Prim.Native.Nat.{ℕ, ◌+◌, ◌<◌, ◌≤◌}
use native.Mathlib.Omega.{arith}
use native.Mathlib.Decide.{ℕ_discrete}
use lib.ListN.{length, get_or, set, length-set, replicate, length-replicate}
use lib.Seq.{get_or-set_same, get_or-set_other}
use Rattle.trellis.specs.Bounds.{most_words}
use Rattle.fields.specs.Fields.{file_word}
use Rattle.word_lists.specs.Inner.Lists.{Copied}

pub record InCopy (file : List ℕ) (count : ℕ) (roots labels goals : List ℕ) (i : ℕ) : Type 0 where
  pub i_le : i ≤ count
  pub few : count ≤ most_words
  pub copied : Copied file i roots labels goals

pub copy_none : (file : List ℕ) (count : ℕ) → count ≤ most_words
    → InCopy file count (replicate most_words 0) (replicate most_words 0) (replicate most_words 0) 0
copy_none file count h = record {
  i_le = omega arith;
  few = h;
  copied = record {
    root = λ i l. absurd (omega arith);
    label = λ i l. absurd (omega arith);
    goal = λ i l. absurd (omega arith);
    root_places = length-replicate {A = ℕ} most_words 0;
    label_places = length-replicate {A = ℕ} most_words 0;
    goal_places = length-replicate {A = ℕ} most_words 0;
  };
}

-- one place more of an array that agrees with f
more : (l : List ℕ) (f : ℕ → ℕ) (i at v : ℕ) → at ≡ i → v ≡ f i → i < length l → ((j : ℕ) → j < i → get_or l j 0 ≡ f j) → (j : ℕ) → j < i + 1
    → get_or (set l at v) j 0 ≡ f j
more l f i at v p e h r j k = go (ℕ_discrete j i)
  where
    go : Dec (j ≡ i) → get_or (set l at v) j 0 ≡ f j
    go (yes q) = ap (λ x. get_or (set l at v) x 0) (q ∙ sym p) ∙ get_or-set_same l at v 0 (omega arith) ∙ e ∙ ap f (sym q)
    go (no q) = get_or-set_other l at j v 0 (λ d. q (d ∙ p)) ∙ r j (omega arith)

pub copy_more : {file roots labels goals : List ℕ} {count i at a b c : ℕ} → InCopy file count roots labels goals i → at ≡ i
    → a ≡ (file_word file i).root → b ≡ (file_word file i).label
    → c ≡ (file_word file i).goal → i < count → InCopy file count (set roots at a) (set labels at b) (set goals at c) (i + 1)
copy_more {file} {roots} {labels} {goals} {count} {i} {at} {a} {b} {c} C p x y z h = record {
  i_le = omega arith;
  few = C.few;
  copied = record {
    root = more roots (λ j. (file_word file j).root) i at a p x (omega (arith, C.few, C.copied.root_places)) C.copied.root;
    label = more labels (λ j. (file_word file j).label) i at b p y (omega (arith, C.few, C.copied.label_places)) C.copied.label;
    goal = more goals (λ j. (file_word file j).goal) i at c p z (omega (arith, C.few, C.copied.goal_places)) C.copied.goal;
    root_places = simp length-set C.copied.root_places;
    label_places = simp length-set C.copied.label_places;
    goal_places = simp length-set C.copied.goal_places;
  };
}

pub copy_end : {file roots labels goals : List ℕ} {count i : ℕ} → InCopy file count roots labels goals i → count ≤ i
    → Copied file count roots labels goals
copy_end {file} {roots} {labels} {goals} {count} {i} C h = let e : i ≡ count = omega (arith, C.i_le) in
    subst (λ k. Copied file k roots labels goals) e C.copied
