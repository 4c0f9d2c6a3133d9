-- The checks of the frame come out as the definition's: each test of the code is the next test of `frame_bad`. A block's test reads the
-- view that its index names, which is that of the block's section; the blocks are tested in their order, so the first bad one is found.
use Rattle.std.specs.Prelude.{Option, Some, None}
use mathlib.Core.Path.{◌≡◌, refl, sym, ap, subst, ◌∙◌}
use mathlib.Core.Bool.{Bool, true, false, cond, not, ◌&&◌}
use mathlib.Core.List.{List}
use Prim.Native.Nat.{ℕ, ◌+◌, ◌^◌, ◌≤◌, ◌<◌}
use native.Mathlib.Nat.{not-suc-le-zero}
use native.Mathlib.Decide.{ℕ_discrete}
use native.Mathlib.Omega.{arith}
use lib.Dec.{T, ltb, leb, eqb}
use lib.ListN.{length, get_or}
use borrow.Author.Tests.{lt-ltb, le-ltb, eq-eqb, ne_eqb, not-true, not-false, eqb-true, ltb-true, ltb-false}
use Rattle.trellis.specs.Bounds.{most_states, most_blocks}
use Rattle.trellis.specs.Lists.{first, found_below, within}
use Rattle.trellis.specs.Label.{symbols_below, is_label}
use Rattle.trellis.specs.Layout.{q_of, n_of}
use Rattle.trellis.proofs.Bools.{holds, fails, is_true, is_false, both, neither}
use Rattle.trellis.proofs.Lists.{First, first_is, first_ok}
use Rattle.numbers.proofs.Bounds.{within_of, at_least}
use Rattle.section_file.specs.Inner.View.{view_of}
use Rattle.section_file.specs.declared.View.{View}
use Rattle.section_file.proofs.Usable.{usable_sound}
use Rattle.received.specs.Received.{stray, fits_block}
use Rattle.sections.specs.Sections.{section_at}
use Rattle.sections.specs.Inner.Found.{SectionsFound, no_view, AllFound}
use Rattle.frame.specs.Frame.{Frame, frame, block_count, frame_bad, block_section, block_bad, frame_fault}
use Rattle.frame.specs.Inner.Checked.{Views, Framed, FrameChecked, Checked}

-- ---- the frame

module _ (f : Frame) where
  pub frame_many : {w : Bool} → w ≡ within 1 most_blocks (block_count f) → not w ≡ true → true ≡ frame_bad f
  unfolding frame_bad
  frame_many {w} e h = simp (sym e, not-true w h)

  module _ {w : Bool} (e : w ≡ within 1 most_blocks (block_count f)) (h : not w ≡ false) where
    pub frame_received : (length f.received ≡ block_count f → ⊥) → true ≡ frame_bad f
    unfolding frame_bad
    frame_received n = simp (sym e, not-false w h, ne_eqb (length f.received) (block_count f) n)

    module _ (p : length f.received ≡ block_count f) where
      pub frame_erased : (length f.erased ≡ block_count f → ⊥) → true ≡ frame_bad f
      unfolding frame_bad
      frame_erased n =
          simp (sym e, not-false w h, eq-eqb (length f.received) (block_count f) p, ne_eqb (length f.erased) (block_count f) n)

      module _ (q : length f.erased ≡ block_count f) where
        pub frame_start : most_states ≤ f.start → true ≡ frame_bad f
        unfolding frame_bad
        frame_start n =
            simp (
              sym e,
              not-false w h,
              eq-eqb (length f.received) (block_count f) p,
              eq-eqb (length f.erased) (block_count f) q,
              le-ltb f.start most_states n,
            )

        pub frame_end : f.start < most_states → leb most_states f.end ≡ frame_bad f
        unfolding frame_bad
        frame_end n =
            simp (
              sym e,
              not-false w h,
              eq-eqb (length f.received) (block_count f) p,
              eq-eqb (length f.erased) (block_count f) q,
              lt-ltb f.start most_states n,
            )
            (at_least most_states f.end)

pub framed_of : {f : Frame} → frame_bad f ≡ false → Framed f
unfolding frame_bad
framed_of {f} e =
    let a = neither _ _ e in
    let b = neither _ _ a.1 in
    let c = neither _ _ b.1 in
    let d = neither _ _ c.1 in
    let w = within_of 1 most_blocks (block_count f) (not-false _ a.0) in
    record {
      some = w.0;
      many = w.1;
      received_long = eqb-true (length f.received) (block_count f) (not-false _ b.0);
      erased_long = eqb-true (length f.erased) (block_count f) (not-false _ c.0);
      start_below = ltb-true f.start most_states (not-false _ d.0);
      end_below = ltb-true f.end most_states (not-false _ d.1);
    }

-- ---- one block

module _ (f : Frame) (b : ℕ) {i : ℕ} (e : i ≡ get_or f.indices b 0) where
  block_index : f.k ≤ i → block_bad f b ≡ true
  unfolding block_bad
  block_index h = simp (le-ltb (get_or f.indices b 0) f.k (omega arith))

  -- the view of its section has its q and n
  block_fits : {starts : List ℕ} {views : List View} {fits : Bool} → i < f.k → SectionsFound f.sections starts views f.k
      → fits ≡ fits_block (get_or views i no_view).n (get_or f.received b 0) (get_or f.erased b 0) (get_or views i no_view).q
      → block_bad f b ≡ not fits
  unfolding block_bad view_of
  block_fits {views = views} h F q =
      let s : get_or views i no_view ≡ view_of (block_section f b) = F.view i h ∙ ap (λ j. view_of (section_at f.sections j)) e in
      let r = q ∙ ap (λ (w : View). fits_block w.n (get_or f.received b 0) (get_or f.erased b 0) w.q) s in
      simp (lt-ltb (get_or f.indices b 0) f.k (omega arith), r)

-- ---- the loop over the blocks

module _ (test : ℕ → Bool) {m b : ℕ} where
  found_here : b < m → First test m b → Some b ≡ found_below m (first test m)
  found_here h F = rw (first_is test m b F, lt-ltb b m h)

  found_nowhere : m ≤ b → First test m b → None ≡ found_below m (first test m)
  found_nowhere h F = rw (first_is test m b F, le-ltb b m h)

-- no block before b is bad, whatever the sections are that have these views
pub record InBlocks (views : List View) (k : ℕ) (indices received erased : List ℕ) (b : ℕ) : Type 0 where
  pub b_le : b ≤ length indices
  pub none : (sections starts : List ℕ) (start end : ℕ) → SectionsFound sections starts views k → (c : ℕ) → c < b
      → block_bad (frame sections k indices received erased start end) c ≡ false

pub blocks_start : {views : List View} {k : ℕ} {indices received erased : List ℕ} → InBlocks views k indices received erased 0
blocks_start = record { b_le = omega arith; none = λ s t u v F c h. absurd (not-suc-le-zero h) }

module _ {views : List View} {k : ℕ} {indices received erased : List ℕ} {b i : ℕ} (I : InBlocks views k indices received erased b)
    (e : i ≡ get_or indices b 0) where
  abbrev Answer : Option ℕ → Type 0
  Answer r = (sections starts : List ℕ) (start end : ℕ) → SectionsFound sections starts views k
      → r ≡ found_below (length indices) (first (block_bad (frame sections k indices received erased start end)) (length indices))

  bad_here : b < length indices
      → ((sections starts : List ℕ) (start end : ℕ) → SectionsFound sections starts views k
      → block_bad (frame sections k indices received erased start end) b ≡ true) → Answer (Some b)
  bad_here h bad sections starts start end F =
      let f = frame sections k indices received erased start end in
      found_here (block_bad f) h
      (record {
        most = I.b_le;
        hit = λ l. holds (bad sections starts start end F);
        miss = λ c l t. fails (I.none sections starts start end F c l) t;
      })

  pub blocks_index : b < length indices → k ≤ i → Answer (Some b)
  blocks_index h l = bad_here h (λ s t u v F. block_index (frame s k indices received erased u v) b e l)

  module _ {fits : Bool} (l : i < k)
      (q : fits ≡ fits_block (get_or views i no_view).n (get_or received b 0) (get_or erased b 0) (get_or views i no_view).q) where
    pub blocks_unfit : b < length indices → not fits ≡ true → Answer (Some b)
    blocks_unfit h n = bad_here h (λ s t u v F. block_fits (frame s k indices received erased u v) b e l F q ∙ n)

    pub blocks_more : b < length indices → not fits ≡ false → InBlocks views k indices received erased (b + 1)
    blocks_more h n = record { b_le = omega arith; none = λ s t u v F c m. go s t u v F c m (ℕ_discrete c b) }
      where
        go : (sections starts : List ℕ) (start end : ℕ) → SectionsFound sections starts views k → (c : ℕ) → c < b + 1 → Dec (c ≡ b)
            → block_bad (frame sections k indices received erased start end) c ≡ false
        go s t u v F c m (yes z) =
            subst (λ x. block_bad (frame s k indices received erased u v) x ≡ false) (sym z)
            (block_fits (frame s k indices received erased u v) b e l F q ∙ n)
        go s t u v F c m (no z) = I.none s t u v F c (omega arith)

pub blocks_none : {views : List View} {k : ℕ} {indices received erased : List ℕ} {b : ℕ} → InBlocks views k indices received erased b
    → length indices ≤ b → (sections starts : List ℕ) (start end : ℕ) → SectionsFound sections starts views k
    → None ≡ found_below (length indices) (first (block_bad (frame sections k indices received erased start end)) (length indices))
blocks_none {k = k} {indices} {received} {erased} {b} I h sections starts start end F =
    let f = frame sections k indices received erased start end in
    found_nowhere (block_bad f) h
    (record { most = I.b_le; hit = λ l. absurd (omega arith); miss = λ c l t. fails (I.none sections starts start end F c l) t })

-- ---- no fault 9

-- neither the frame nor a block is bad
pub record FramePassed (f : Frame) : Type 0 where
  pub frame_good : frame_bad f ≡ false
  pub blocks_good : block_count f ≤ first (block_bad f) (block_count f)

-- the number of a fault, or that there is none, as the tests make it out
module _ (f : Frame) {bad : Bool} (e : bad ≡ frame_bad f) where
  pub fault_of_frame : bad ≡ true → frame_fault f ≡ Some (block_count f)
  unfolding frame_fault
  fault_of_frame h = simp (sym e, h)

  pub fault_of_block : {found : Option ℕ} → bad ≡ false → found ≡ found_below (block_count f) (first (block_bad f) (block_count f))
      → frame_fault f ≡ found
  unfolding frame_fault
  fault_of_block h g = simp (sym e, h) (sym g)

pub frame_passed : {f : Frame} → frame_fault f ≡ None → FramePassed f
unfolding frame_fault
frame_passed {f} e = go (frame_bad f) (ltb (first (block_bad f) (block_count f)) (block_count f)) refl refl e
  where
    go : (b c : Bool) → frame_bad f ≡ b → ltb (first (block_bad f) (block_count f)) (block_count f) ≡ c
        → cond b (Some (block_count f)) (cond c (Some (first (block_bad f) (block_count f))) None) ≡ None → FramePassed f
    go true c p q r = cc
    go false true p q r = cc
    go false false p q r = record { frame_good = p; blocks_good = ltb-false _ _ q }

-- what follows the tests, by what they come to
module _ {A : Type 0} (f : Frame) (fault : ℕ → A) (rest : A) where
  abbrev first_block : ℕ
  first_block = first (block_bad f) (block_count f)

  abbrev by_tests : A
  by_tests = cond (frame_bad f) (fault (block_count f)) (cond (ltb first_block (block_count f)) (fault first_block) rest)

  pub fault_named : {bad : ℕ} → frame_fault f ≡ Some bad → fault bad ≡ by_tests
  unfolding frame_fault
  fault_named {bad} = go (frame_bad f) (ltb first_block (block_count f))
    where
      go : (b c : Bool) → cond b (Some (block_count f)) (cond c (Some first_block) None) ≡ Some bad
          → fault bad ≡ cond b (fault (block_count f)) (cond c (fault first_block) rest)
      go true c e = cc
      go false true e = cc
      go false false e = cc

block_good : {f : Frame} → FramePassed f → (b : ℕ) → b < block_count f
    → T (ltb (get_or f.indices b 0) f.k)
    × T (fits_block (n_of (block_section f b)) (get_or f.received b 0) (get_or f.erased b 0) (q_of (block_section f b)))
unfolding block_bad
block_good {f} P b h =
    let F = first_ok (block_bad f) (block_count f) in
    let e = is_false (block_bad f b) (F.miss b (omega (arith, P.blocks_good))) in
    let s = block_section f b in
    let fits = fits_block (n_of s) (get_or f.received b 0) (get_or f.erased b 0) (q_of s) in
    both (ltb (get_or f.indices b 0) f.k) fits (holds (not-false (ltb (get_or f.indices b 0) f.k && fits) e))

pub index_good : {f : Frame} → FramePassed f → (b : ℕ) → b < block_count f → get_or f.indices b 0 < f.k
index_good {f} P b h = ltb-true (get_or f.indices b 0) f.k (is_true _ (block_good P b h).0)

-- what was received has no bits above its section's symbols
pub received_short_lem : {f : Frame} → FramePassed f → (b : ℕ) → b < block_count f
    → get_or f.received b 0 < 4 ^ n_of (block_section f b)
unfolding fits_block is_label
received_short_lem {f} P b h =
    let l = block_section f b in
    let x = get_or f.received b 0 in
    let erased = get_or f.erased b 0 in
    let label = both (is_label (q_of l) (n_of l) x) (ltb erased (2 ^ n_of l) && eqb (first (stray (n_of l) x erased) (n_of l)) (n_of l))
    (block_good P b h).1 in
    ltb-true x (4 ^ n_of l) (is_true _ (both (ltb x (4 ^ n_of l)) (symbols_below (q_of l) (n_of l) x) label.0).0)

pub frame_checked : {f : Frame} {starts : List ℕ} {views : List View} → AllFound f.sections starts views f.k → frame_fault f ≡ None
    → FrameChecked f starts views
frame_checked A e =
    let P = frame_passed e in
    record { sections_found = A; framed = framed_of P.frame_good; index_below = index_good P; received_short = received_short_lem P }

-- the same, where K plays no part any more
pub of_checked : {sections starts : List ℕ} {views : List View} {k : ℕ} {indices received erased : List ℕ} {start end : ℕ}
    → FrameChecked (frame sections k indices received erased start end) starts views
    → Checked sections starts views indices received erased start end
of_checked {k = k} C = record { k = k; checks = C }

pub views_of : {sections starts : List ℕ} {views : List View} {k : ℕ} → AllFound sections starts views k → Views views k
unfolding view_of
views_of {sections} A = record {
  few = A.few;
  long = A.found.views_long;
  short = λ j h.
      let e = ap (λ (w : View). w.n) (A.found.view j h) in
      let s = (usable_sound (section_at sections j) (A.found.usable_before j h)).n_to in
      omega arith;
}
