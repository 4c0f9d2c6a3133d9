-- When two sections have the same code. Then they differ only by numbering, so their numbers in front of the edges are the same, with one
-- step all numbers are, and the matching carries the edges of the one to those of the other. Where these are carried and there are as many
-- vertices and edges in both, words go both ways, and the two have the same code. Therefore each test that same_code makes decides.
use mathlib.Core.Path.{◌≡◌, refl, sym, ap, subst, ◌∙◌}
use mathlib.Core.Bool.{Bool, true, false}
use mathlib.Core.Logic.{◌⊎◌, inl, inr}
use mathlib.Core.List.Memᴰ
use mathlib.Core.List.{List, [], ◌∷◌}
use Prim.Native.Nat.{ℕ}
use native.Mathlib.Omega.{arith}
use lib.ListN.{length, get_or}
use lib.Seq.{ext_get_or}
use lib.Dec.{eqb}
use borrow.Author.Tests.{eqb-true, eq-eqb}
use Rattle.trellis.specs.Lists.{◌∈◌, all, is_in}
use Rattle.trellis.specs.Word.{Word, same_word}
use Rattle.trellis.specs.Layout.{q_of, n_of, states_of, pairs_place, section_length, root_state, goal_state, section_words}
use Rattle.trellis.proofs.Bools.{holds, is_true, is_false, clash, left_true, right_true, both_true}
use Rattle.trellis.proofs.Lists.{in_yes, in_of}
use Rattle.trellis.proofs.Words.{same_yes, same_self}
use Rattle.edges.proofs.Tests.{same_if, all_at, all_of}
use Rattle.section_file.specs.Usable.{usable, is_section}
use Rattle.section_file.specs.Inner.Sound.{Sound}
use Rattle.section_file.proofs.Usable.{usable_sound}
use Rattle.matching.specs.Matching.{Renumbered}
use Rattle.matching.proofs.Renumbering.{renumbers}
use Rattle.matching.proofs.Carried.{carried_words}
use Rattle.matching.proofs.Onto.{words_back}
use Rattle.partners.specs.Inner.Following.{SameFront, SomeFollowed, FollowedBy}
use Rattle.following.proofs.Front.{front_q, front_n, front_states, front_vertices, front_edges, front_length, alike_to, front_of}
use Rattle.following.proofs.Front.{front_alike, front_by}
use Rattle.same_section.specs.Comparing.{all_in, same_code}

-- ---- a section that fills its list

pub section_sound : {l : List ℕ} → is_section l ≡ true → Sound l
unfolding is_section
section_sound {l} e = usable_sound l (left_true (usable l) _ e)

pub section_full : (l : List ℕ) → is_section l ≡ true → section_length l ≡ length l
unfolding is_section
section_full l e = eqb-true (section_length l) (length l) (right_true (usable l) _ e)

-- ---- the same words

all_in_says : (l m : List Word) → all_in l m ≡ true → (w : Word) → w ∈ l → w ∈ m
unfolding all_in
all_in_says [] m e w k = absurd (Memᴰ.not-nil k)
all_in_says (x ∷ l) m e w k = go (all_in_says l m (right_true (is_in same_word x m) _ e) w) (Memᴰ.cases_cons k)
  where
    go : (w ∈ l → w ∈ m) → (w ≡ x) ⊎ (w ∈ l) → w ∈ m
    go r (inl p) = Memᴰ.cast p (in_yes same_word same_yes same_self x m (holds (left_true (is_in same_word x m) _ e)))
    go r (inr u) = r u

all_in_of : (l m : List Word) → ((w : Word) → w ∈ l → w ∈ m) → all_in l m ≡ true
unfolding all_in
all_in_of [] m f = refl
all_in_of (x ∷ l) m f = both_true (is_true (is_in same_word x m) (in_of same_word same_yes same_self x m (f x (Memᴰ.head refl))))
    (all_in_of l m (λ w k. f w (Memᴰ.tail k)))

-- the same sizes, and every word of each is one of the other
pub record SameCode (a b : List ℕ) : Type 0 where
  pub q : q_of b ≡ q_of a
  pub n : n_of b ≡ n_of a
  pub states : states_of b ≡ states_of a
  pub into : (w : Word) → w ∈ section_words a → w ∈ section_words b
  pub out : (w : Word) → w ∈ section_words b → w ∈ section_words a

module _ {a b : List ℕ} where
  pub same_words_lem : same_code a b ≡ true → SameCode a b
  unfolding same_code
  same_words_lem e =
      let e1 = right_true (eqb (q_of a) (q_of b)) _ e in
      let e2 = right_true (eqb (n_of a) (n_of b)) _ e1 in
      let e3 = right_true (eqb (states_of a) (states_of b)) _ e2 in
      record {
        q = sym (eqb-true (q_of a) (q_of b) (left_true _ _ e));
        n = sym (eqb-true (n_of a) (n_of b) (left_true _ _ e1));
        states = sym (eqb-true (states_of a) (states_of b) (left_true _ _ e2));
        into = all_in_says (section_words a) (section_words b) (left_true _ _ e3);
        out = all_in_says (section_words b) (section_words a) (right_true (all_in (section_words a) (section_words b)) _ e3);
      }

  pub code_of : SameCode a b → same_code a b ≡ true
  unfolding same_code
  code_of C =
      both_true (eq-eqb (q_of a) (q_of b) (sym C.q))
      (both_true (eq-eqb (n_of a) (n_of b) (sym C.n))
      (both_true (eq-eqb (states_of a) (states_of b) (sym C.states))
      (both_true (all_in_of (section_words a) (section_words b) C.into) (all_in_of (section_words b) (section_words a) C.out))))

pub code_self : (a : List ℕ) → same_code a a ≡ true
code_self a = code_of (record { q = refl; n = refl; states = refl; into = λ w k. k; out = λ w k. k })

-- ---- what the same code gives

module _ {a b : List ℕ} (A : is_section a ≡ true) (B : is_section b ≡ true) (e : same_code a b ≡ true) where
  pub same_renumbered : Renumbered a b
  same_renumbered =
      let C = same_words_lem e in
      renumbers (section_sound A) (section_sound B) C.n C.into C.out (section_full a A) (section_full b B) C.q C.states

  -- outer vertices keep their numbers and their states
  pub code_front : SameFront a b
  code_front =
      let C = same_words_lem e in
      let R = same_renumbered in
      let K = R.matching.carrying in
      front_by (record {
        q = C.q;
        n = C.n;
        states = C.states;
        vertices = R.vertex_counts;
        edges = R.edge_counts;
        roots = λ v h. ap (root_state b) (sym (R.roots v h)) ∙ K.roots v h;
        goals = λ v h. ap (goal_state b) (sym (R.goals v h)) ∙ K.goals v h;
      })

  pub code_followed : {r : Bool} → FollowedBy a b r → r ≡ true
  code_followed F = let R = same_renumbered in
      F.always R.f (record { carrying = R.matching.carrying; roots = R.roots; goals = R.goals })

-- ---- the tests that same_code makes

-- what a true answer would contradict
not_so : (r : Bool) → (r ≡ true → ⊥) → false ≡ r
not_so r f = sym (is_false r (λ t. f (is_true r t)))

-- the same numbers, and as many of them
same_list : {a b : List ℕ} → is_section a ≡ true → is_section b ≡ true → SameFront a b → all (alike_to a b) (section_length a) ≡ true → b ≡ a
same_list {a} {b} A B F e =
    let long : length b ≡ section_length a = sym (section_full b B) ∙ front_length F in
    ext_get_or 0 b a (long ∙ section_full a A)
    (λ i h. sym (eqb-true (get_or a i 0) (get_or b i 0) (all_at (alike_to a b) (section_length a) i e (omega (arith, long)))))

module _ (a b : List ℕ) (A : is_section a ≡ true) (B : is_section b ≡ true) where
  pub fronts_differ : false ≡ all (alike_to a b) (pairs_place a) → false ≡ same_code a b
  fronts_differ d = not_so (same_code a b) (λ e. clash (sym (front_alike (code_front A B e)) ∙ sym d))

  -- with one step there are no inner vertices
  pub one_step : n_of a ≡ 1 → true ≡ all (alike_to a b) (pairs_place a) → {r : Bool} → r ≡ all (alike_to a b) (section_length a)
      → r ≡ same_code a b
  one_step n f {r} d = d ∙ same_if
      (λ e. subst (λ l. same_code a l ≡ true) (sym (same_list A B (front_of f) e)) (code_self a))
      (λ e. let p = (same_renumbered A B e).same (λ t v h k l. absurd (omega arith)) in
      all_of (alike_to a b) (section_length a) (λ i h. eq-eqb (get_or a i 0) (get_or b i 0) (ap (λ l. get_or l i 0) (sym p))))

-- a carrying of edges is found just where the two have the same code
pub followed_code : {a b : List ℕ} → is_section a ≡ true → is_section b ≡ true → SameFront a b → {r : Bool} → FollowedBy a b r
    → r ≡ same_code a b
followed_code {a} {b} A B F {r} R = same_if (λ e. code_of (by (R.found e))) (λ e. code_followed A B e R)
  where
    by : SomeFollowed a b → SameCode a b
    by S = record {
      q = front_q F;
      n = front_n F;
      states = front_states F;
      into = carried_words (section_sound A) (section_sound B) (front_n F) S.is.carrying;
      out = words_back (section_sound A) (section_sound B) (front_n F) (front_vertices F) (front_edges F) S.is.carrying;
    }
