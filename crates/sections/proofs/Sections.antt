-- Sections one behind another: a usable section's length is not 0 and it is there whole, so the next one begins within the list or at its
-- end. Fault 8 is decided by the tests of the definition in their order.
use mathlib.Core.Path.{◌≡◌, refl, sym, ap, subst, ◌∙◌}
use mathlib.Core.Bool.{Bool, true, false, cond, not, ◌||◌}
use mathlib.Core.List.{List}
use Prim.Native.Nat.{ℕ, suc, ◌+◌, ◌≤◌, ◌<◌}
use native.Mathlib.Nat.{not-suc-le-zero}
use native.Mathlib.Decide.{ℕ_discrete}
use native.Mathlib.Numerals.{add-one}
use native.Mathlib.Omega.{arith}
use lib.Dec.{eqb, ltb}
use lib.ListN.{length, get_or, drop, set, length-set, length-drop, replicate, length-replicate, get_or-replicate}
use lib.Seq.{get_or-set_same, get_or-set_other}
use borrow.Author.Tests.{eq-eqb, ne_eqb, lt-ltb, le-ltb, not-true, not-false, ltb-false}
use Rattle.trellis.specs.Bounds.{most_sections}
use Rattle.trellis.specs.Lists.{first, within}
use Rattle.trellis.specs.Layout.{roots_place, goals_place, pairs_place, symbols_place, section_length}
use Rattle.trellis.proofs.Bools.{holds, fails, is_true, is_false, neither}
use Rattle.trellis.proofs.Lists.{first_is, first_ok}
use Rattle.numbers.proofs.Bounds.{within_of, within_to}
use Rattle.section_file.specs.Usable.{usable}
use Rattle.section_file.specs.Inner.View.{view_of}
use Rattle.section_file.specs.declared.View.{View}
use Rattle.section_file.proofs.Usable.{usable_sound}
use Rattle.std.specs.Prelude.{Some, None}
use Rattle.usable.specs.Inner.Part.{part_of}
use Rattle.sections.specs.Sections.{section_start, section_at, unusable, sections_bad, bad_section_of}
use Rattle.sections.specs.Inner.Found.{SectionsFound, no_view, Faulty, Good}

-- ---- one section

pub long_enough : (l : List ℕ) → 4 ≤ section_length l
unfolding section_length symbols_place pairs_place goals_place roots_place
long_enough l = omega arith

-- the view of a usable section, which is there whole
record Sized (l : List ℕ) (view : View) : Type 0 where
  is : usable l ≡ true
  view_is : view ≡ view_of l
  long : view.end ≡ section_length l
  whole : view.end ≤ length l

sized : (l : List ℕ) {view : View} → Some view ≡ part_of l → Sized l view
unfolding part_of view_of
sized l {view} e = go (usable l) refl e
  where
    go : (b : Bool) → usable l ≡ b → Some view ≡ cond b (Some (view_of l)) None → Sized l view
    go true u k =
        let e : view ≡ view_of l = cc in
        let n : view.end ≡ section_length l = ap (λ (v : View). v.end) e in
        record { is = u; view_is = e; long = n; whole = let w = (usable_sound l u).whole in omega arith }
    go false u k = cc

-- where there is no view, there is no usable section
not_usable : (l : List ℕ) → None ≡ part_of l → usable l ≡ true → ⊥
unfolding part_of
not_usable l e u = let f : None ≡ Some (view_of l) = e ∙ ap (λ b. cond b (Some (view_of l)) None) u in cc

-- ---- the loop

-- section r is the first unusable one, or r is k
pub record FirstUnusable (sections starts : List ℕ) (views : List View) (k r : ℕ) : Type 0 where
  pub r_le : r ≤ k
  pub found : SectionsFound sections starts views r
  pub unusable_at : r < k → usable (section_at sections r) ≡ true → ⊥

pub record InSections (sections starts : List ℕ) (views : List View) (k i at : ℕ) : Type 0 where
  pub few : k ≤ most_sections
  pub i_le : i ≤ k
  pub found : SectionsFound sections starts views i
  pub at_is : at ≡ section_start sections i

pub sections_start : {sections : List ℕ} {k : ℕ} {w : Bool} (view : View) → w ≡ within 1 most_sections k → not w ≡ false
    → InSections sections (replicate (suc most_sections) 0) (replicate most_sections view) k 0 0
unfolding section_start
sections_start {sections} {k} {w} view e h = record {
  few = within_to 1 most_sections k e h;
  i_le = omega arith;
  found = record {
    long = length-replicate {A = ℕ} (suc most_sections) 0;
    views_long = length-replicate {A = View} most_sections view;
    at = λ j l.
        let e : j ≡ 0 = omega arith in
        subst (λ x. get_or (replicate (suc most_sections) 0) x 0 ≡ section_start sections x) (sym e)
        (get_or-replicate {A = ℕ} (suc most_sections) 0 0 0 (omega arith));
    usable_before = λ j l. absurd (not-suc-le-zero l);
    view = λ j l. absurd (not-suc-le-zero l);
    inside = omega arith;
  };
  at_is = refl;
}

module _ {sections starts : List ℕ} {views : List View} {k i at : ℕ} (I : InSections sections starts views k i at) where
  pub sections_found : None ≡ part_of (drop at sections) → FirstUnusable sections starts views k i
  unfolding section_at
  sections_found e = record {
    r_le = I.i_le;
    found = I.found;
    unusable_at = λ l. not_usable (section_at sections i) (e ∙ ap (λ x. part_of (drop x sections)) I.at_is);
  }

  module _ {view : View} (e : Some view ≡ part_of (drop at sections)) where
    S : Sized (section_at sections i) view
    unfolding section_at
    S = sized (section_at sections i) (e ∙ ap (λ x. part_of (drop x sections)) I.at_is)

    pub sections_fit : at + view.end ≤ length sections
    unfolding section_at
    sections_fit =
        let w = S.whole in
        let d = length-drop (section_start sections i) sections in
        let p = I.found.inside in
        let a = I.at_is in
        omega arith

    next_is : at + view.end ≡ section_start sections (suc i)
    unfolding section_start section_at
    next_is = ap (λ x. x + view.end) I.at_is ∙ ap (λ x. section_start sections i + x) S.long

    pub sections_more : i < k → InSections sections (set starts (i + 1) (at + view.end)) (set views i view) k (i + 1) (at + view.end)
    sections_more h = rw (add-one i)
        (record {
          few = I.few;
          i_le = h;
          found = record {
            long = simp length-set I.found.long;
            views_long = simp length-set I.found.views_long;
            at = λ j l. place j l (ℕ_discrete j (suc i));
            usable_before = λ j l. before j l (ℕ_discrete j i);
            view = λ j l. seen j l (ℕ_discrete j i);
            inside = subst (λ x. x ≤ length sections) next_is sections_fit;
          };
          at_is = next_is;
        })
      where
        place : (j : ℕ) → j ≤ suc i → Dec (j ≡ suc i) → get_or (set starts (suc i) (at + view.end)) j 0 ≡ section_start sections j
        place j l (yes q) =
            subst (λ x. get_or (set starts (suc i) (at + view.end)) x 0 ≡ section_start sections x) (sym q)
            (get_or-set_same starts (suc i) (at + view.end) 0 (omega (arith, I.found.long, I.few)) ∙ next_is)
        place j l (no q) = get_or-set_other starts (suc i) j (at + view.end) 0 q ∙ I.found.at j (omega arith)

        before : (j : ℕ) → j < suc i → Dec (j ≡ i) → usable (section_at sections j) ≡ true
        before j l (yes q) = subst (λ x. usable (section_at sections x) ≡ true) (sym q) S.is
        before j l (no q) = I.found.usable_before j (omega arith)

        seen : (j : ℕ) → j < suc i → Dec (j ≡ i) → get_or (set views i view) j no_view ≡ view_of (section_at sections j)
        seen j l (yes q) =
            subst (λ x. get_or (set views i view) x no_view ≡ view_of (section_at sections x)) (sym q)
            (get_or-set_same views i view no_view (omega (arith, I.found.views_long, I.few)) ∙ S.view_is)
        seen j l (no q) = get_or-set_other views i j view no_view q ∙ I.found.view j (omega arith)

-- ---- fault 8

first_unusable : {sections starts : List ℕ} {views : List View} {k r : ℕ} → FirstUnusable sections starts views k r
    → first (unusable sections) k ≡ r
unfolding unusable
first_unusable {sections} {k = k} {r} F = first_is (unusable sections) k r (record {
  most = F.r_le;
  hit = λ h. holds (ap not (is_false (usable (section_at sections r)) (λ t. F.unusable_at h (is_true (usable (section_at sections r)) t))));
  miss = λ j h t. fails (ap not (F.found.usable_before j h)) t;
})

pub many : {sections : List ℕ} {k : ℕ} {w : Bool} → w ≡ within 1 most_sections k → not w ≡ true → Faulty sections k k
unfolding sections_bad bad_section_of
many {w = w} e h = record { bad = simp (sym e, not-true w h); index_is = simp (sym e, not-true w h) }

module _ {sections starts : List ℕ} {views : List View} {k : ℕ} {w : Bool} (e : w ≡ within 1 most_sections k) (h : not w ≡ false) where
  index_is_lem : {r : ℕ} → FirstUnusable sections starts views k r → bad_section_of sections k ≡ r
  unfolding bad_section_of
  index_is_lem F = simp (sym e, not-false w h, first_unusable F)

  pub short : {r : ℕ} → FirstUnusable sections starts views k r → r < k → Faulty sections k r
  unfolding sections_bad
  short {r} F l = record { bad = simp (sym e, not-false w h, first_unusable F, lt-ltb r k l); index_is = index_is_lem F }

  module _ {i at : ℕ} (I : InSections sections starts views k i at) (l : k ≤ i) where
    all_found : FirstUnusable sections starts views k k
    all_found =
        let e : i ≡ k = omega (arith, I.i_le) in
        record { r_le = omega arith; found = subst (SectionsFound sections starts views) e I.found; unusable_at = λ m. absurd (omega arith) }

    -- what is left over decides
    left_over : sections_bad sections k ≡ not (eqb at (length sections))
    unfolding sections_bad
    left_over =
        simp (sym e, not-false w h, first_unusable all_found, le-ltb k k (omega arith))
        (ap (λ x. not (eqb x (length sections))) (sym (I.at_is ∙ ap (section_start sections) (omega (arith, I.i_le)))))

    pub left : (at ≡ length sections → ⊥) → Faulty sections k k
    left n = record { bad = left_over ∙ ap not (ne_eqb at (length sections) n); index_is = index_is_lem all_found }

    pub all : at ≡ length sections → Good sections k (record { starts = starts; views = views })
    all s = record {
      good = left_over ∙ ap not (eq-eqb at (length sections) s);
      all = record { some = (within_of 1 most_sections k (sym e ∙ not-false w h)).0; few = I.few; found = all_found.found };
    }

-- where there is none, all sections are usable
pub sections_usable : (sections : List ℕ) (k : ℕ) → sections_bad sections k ≡ false → (i : ℕ) → i < k → usable (section_at sections i) ≡ true
unfolding sections_bad unusable
sections_usable sections k e i h =
    let t = ltb (first (unusable sections) k) k || not (eqb (section_start sections k) (length sections)) in
    let a = neither (ltb (first (unusable sections) k) k) (not (eqb (section_start sections k) (length sections)))
    (neither (not (within 1 most_sections k)) t e).1 in
    let l = ltb-false (first (unusable sections) k) k a.0 in
    let F = first_ok (unusable sections) k in
    not-false (usable (section_at sections i)) (is_false (not (usable (section_at sections i))) (F.miss i (omega arith)))
