-- A usable section as reading back meets it: what the edges of a step are where the code reads them, and the section that a list is. Edges
-- of a step ascend, so the vertices where they start do not fall.
use mathlib.Core.Path.{◌≡◌, refl, ap, ◌∙◌}
use mathlib.Core.Bool.{Bool, true, false, cond, ◌&&◌}
use mathlib.Core.List.{List}
use Prim.Native.Nat.{ℕ, ◌+◌, ◌-◌, ◌*◌, ◌≤◌, ◌<◌}
use native.Mathlib.Omega.{arith}
use native.Mathlib.Nat.{add-zero, le_of_eq}
use native.Mathlib.Decide.{ℕ_discrete}
use lib.ListN.{length, take, drop}
use lib.Dec.{eqb}
use Rattle.trellis.specs.Lists.{run, by_first, by_second, by_third}
use Rattle.trellis.specs.Own.{Edge}
use Rattle.trellis.specs.Layout.{n_of, edge_count_of, edges_before, pairs_place, symbols_place, section_length, edge_number, step_edges}
use Rattle.trellis.proofs.Bools.{left_true}
use Rattle.edges.specs.Inner.Edges.{edge_in}
use Rattle.section_file.specs.Usable.{step_edge, usable, is_section}
use Rattle.section_file.specs.Inner.Sound.{EdgeBefore, Sound}
use Rattle.section_file.specs.Inner.View.{view_of, Seen}
use Rattle.section_file.specs.declared.View.{View}
use Rattle.section_file.proofs.Usable.{usable_sound}
use Rattle.section_file.proofs.Seen.{viewed, edges_from, step_edge_lem, step_small}
use Rattle.usable.specs.Inner.Part.{part_of}
use mathlib.Core.Path.{ap₂}
use Rattle.std.specs.Option.{MatchOption}
use Rattle.std.specs.Bool.{then_some}
use Rattle.std.specs.Prelude.{Option, Some, None}
use Rattle.whole_section.specs.Inner.Whole.{whole_part}
use Rattle.whole_section.specs.Inner.StepAt.{StepEdges}
use Rattle.whole_section.proofs.Lists.{run_shift}

-- ---- one step

module _ {s : List ℕ} (g : Sound s) (t : ℕ) (h : t < n_of s) {pairs symbols count : ℕ} (p : pairs ≡ pairs_place s + 2 * edges_before s t)
    (q : symbols ≡ symbols_place s + edges_before s t) (c : count ≡ edge_count_of s t) where
  pub step_edges_lem : run (edge_in (take (length s - pairs) (drop pairs s)) (take (length s - symbols) (drop symbols s))) 0 count
      ≡ step_edges s t
  unfolding step_edges
  step_edges_lem =
      ap (λ e. run e 0 count) (edges_from s (edges_before s t) p q) ∙ run_shift (edge_number s) (edges_before s t) 0 count
      ∙ ap (λ k. run (edge_number s) k count) (add-zero (edges_before s t)) ∙ ap (run (edge_number s) (edges_before s t)) c

  pub step_in : StepEdges (take (length s - pairs) (drop pairs s)) (take (length s - symbols) (drop symbols s)) count
  step_in = record {
    small = step_small g t h p q c;
    froms_rise = λ j k l m. omega (arith, from_is j, from_is k, rises j k l (omega arith));
  }
    where
      from_is : (k : ℕ) → (edge_in (take (length s - pairs) (drop pairs s)) (take (length s - symbols) (drop symbols s)) k).from
          ≡ (step_edge s t k).from
      from_is k = ap (λ (e : Edge). e.from) (step_edge_lem g t h p q c k)

      rises : (j k : ℕ) → j ≤ k → k < edge_count_of s t → (step_edge s t j).from ≤ (step_edge s t k).from
      rises j k l m = go (ℕ_discrete j k)
        where
          by : EdgeBefore (step_edge s t j) (step_edge s t k) → (step_edge s t j).from ≤ (step_edge s t k).from
          by (by_first x) = omega arith
          by (by_second x y) = omega arith
          by (by_third x y z) = omega arith

          go : Dec (j ≡ k) → (step_edge s t j).from ≤ (step_edge s t k).from
          go (yes e) = le_of_eq (ap (λ i. (step_edge s t i).from) e)
          go (no e) = by (g.edges_ascend t j k h (omega arith) m)

-- ---- the section that a list is

module _ (s : List ℕ) where
  -- what the answer says
  pub record Filled (at : View) : Type 0 where
    pub seen : Seen s at
    pub is_section_lem : is_section s ≡ true

  pub whole_filled : {at : View} → Some at ≡ whole_part s → Filled at
  unfolding is_section whole_part
  whole_filled {at} e = go (is_section s) refl e
    where
      go : (b : Bool) → is_section s ≡ b → Some at ≡ cond b (Some (view_of s)) None → Filled at
      go true t q = record {
        seen = record { sound = usable_sound s (left_true (usable s) _ t); is = cc };
        is_section_lem = t;
      }
      go false t q = absurd (let z : ◌≡◌ {A = ℕ} 0 1 = cc in omega arith)

  pub whole_none : None ≡ whole_part s → is_section s ≡ false
  unfolding is_section whole_part
  whole_none e = go (is_section s) e
    where
      go : (b : Bool) → None ≡ cond b (Some (view_of s)) None → b ≡ false
      go true q = absurd (let z : ◌≡◌ {A = ℕ} 0 1 = cc in omega arith)
      go false q = refl

  -- by what the filter keeps: the view of a section that ends where the list does
  pub whole_by_filter : {P : View → Bool → Type 0} {r : Option View} (found : Option View) → found ≡ part_of (drop 0 s)
      → MatchOption found (r ≡ None) (λ x. (b : Bool) × P x b × (r ≡ then_some b x))
      → ((x : View) (b : Bool) → P x b → b ≡ eqb x.end (length s)) → r ≡ whole_part s
  unfolding whole_part is_section part_of
  whole_by_filter {P} {r} found e m k = go (usable s) found e m
    where
      one : (b : Bool) → then_some b (view_of s) ≡ cond b (Some (view_of s)) None
      one true = refl
      one false = refl

      same : (x : View) → Some x ≡ Some (view_of s) → x ≡ view_of s
      same x e = cc

      kept : (x : View) (b : Bool) → x ≡ view_of s → P x b → then_some b x ≡ cond (eqb (section_length s) (length s)) (Some (view_of s)) None
      kept x b is p =
          let ends : b ≡ eqb (section_length s) (length s) = k x b p ∙ ap (λ n. eqb n (length s)) (viewed is).end_is in
          ap₂ (λ (t : Bool) (at : View). then_some t at) ends is ∙ one (eqb (section_length s) (length s))

      go : (u : Bool) (found : Option View) → found ≡ cond u (Some (view_of s)) None
          → MatchOption found (r ≡ None) (λ x. (b : Bool) × P x b × (r ≡ then_some b x))
          → r ≡ cond (u && eqb (section_length s) (length s)) (Some (view_of s)) None
      go true None e m = absurd (let z : ◌≡◌ {A = ℕ} 0 1 = cc in omega arith)
      go false None e m = m
      go true (Some x) e (b, p, q) = q ∙ kept x b (same x e) p
      go false (Some x) e m = absurd (let z : ◌≡◌ {A = ℕ} 0 1 = cc in omega arith)
