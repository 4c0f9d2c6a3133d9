-- The edges of all steps, one step behind another. A step has no more edges than there are words, so t steps have at most t * w, and there
-- is room. The rows of the map at a step and the next are in the map, and the symbol's bit is one of 16.
use mathlib.Core.Path.{◌≡◌, refl, sym, ap, ap₂, subst, ◌∙◌}
use mathlib.Core.List.{List}
use Prim.Native.Nat.{ℕ, suc, ◌+◌, ◌-◌, ◌*◌, ◌^◌, ◌≤◌, ◌<◌}
use native.Mathlib.Nat.{mul-le-mul, mul-le-mul_right, suc-mul}
use native.Mathlib.Omega.{arith}
use native.Mathlib.Numerals.{add-one}
use native.Mathlib.Decide.{ℕ_discrete}
use lib.ListN.{length, get_or, set, length-set}
use lib.Dec.{ltb}
use lib.Pow.{pow_mono}
use lib.Seq.{get_or-set_same, get_or-set_other}
use Rattle.trellis.specs.Lists.{each}
use Rattle.trellis.specs.Layout.{joined_up}
use Rattle.trellis.specs.Inner.Write.{Wrote}
use Rattle.trellis.proofs.Lists.{length_run}
use Rattle.trellis.proofs.Ascending.{numbers, ascending_length}
use Rattle.trellis.proofs.Write.{wrote_none, wrote_then, wrote_length}
use Rattle.rows.specs.Sums.{sum_of, choices, sums}
use Rattle.rows.specs.Table.{cut_at}
use Rattle.rows.specs.Inner.Reduced.{Narrow}
use Rattle.row_arcs.specs.Inner.Arcs.{arcs_of, StepAsked, step_arcs, step_sums, EdgesAsked, AllEdges}
use Rattle.row_arcs.proofs.RowArcs.{arcs_length}

-- k rows have at most 2 ^ k sums
sums_few : (rows : List ℕ) → length (sums rows) ≤ 2 ^ length rows
unfolding sums
sums_few rows = omega (
  arith,
  ascending_length ltb numbers (each (sum_of rows) (choices rows)),
  length_run (sum_of rows) 0 (choices rows),
)

-- the edges of the first t steps are written
pub record InEdges (map : List ℕ) (w : ℕ) (rows : List ℕ) (s n : ℕ) (dims old out counts : List ℕ) (at t : ℕ) : Type 0 where
  pub t_le : t ≤ n
  pub noted : Wrote old 0 (joined_up (step_sums map w rows s n dims) t) out at
  pub at_le : at ≤ t * w
  pub counted : (u : ℕ) → u < t → get_or counts u 0 ≡ length (step_sums map w rows s n dims u)
  pub places : length counts ≡ 8
  pub len : length out ≡ length old

pub edges_none : (map : List ℕ) (w : ℕ) (rows : List ℕ) (s n : ℕ) (dims old counts : List ℕ) → length counts ≡ 8
    → InEdges map w rows s n dims old old counts 0 0
unfolding joined_up
edges_none map w rows s n dims old counts h = record {
  t_le = omega arith;
  noted = wrote_none;
  at_le = omega arith;
  counted = λ u l. absurd (omega arith);
  places = h;
  len = refl;
}

module _ {map : List ℕ} {w : ℕ} {rows : List ℕ} {s n : ℕ} {dims : List ℕ} (E : EdgesAsked map w rows s n dims) where
  pub words_most : w ≤ 1024
  words_most = omega (arith, E.words, pow_mono {i = length rows} {j = 10} E.few)

  module _ (t : ℕ) (h : t < n) where
    -- the edges as the code names the step
    same_arcs : arcs_of map (t * w) w rows (n - t - 1 + s) (get_or dims (t + 1) 0) ≡ step_arcs map w rows s n dims t
    same_arcs =
        let e : n - t - 1 + s ≡ cut_at s n (suc t) = omega arith in
        ap₂ (λ c d. arcs_of map (t * w) w rows c d) e (ap (λ k. get_or dims k 0) (add-one t))

    step_few : length (step_sums map w rows s n dims t) ≤ w
    step_few = omega (
      arith,
      sums_few (step_arcs map w rows s n dims t),
      ap (λ k. 2 ^ k) (arcs_length map (t * w) w rows (cut_at s n (suc t)) (get_or dims (suc t) 0)),
      E.words,
    )

    pub steps_below : t * w + w ≤ 8192
    steps_below =
        let q : suc t ≤ 8 = omega (arith, E.symbols) in
        let p : suc t * w ≤ 8 * 1024 = mul-le-mul q words_most in
        omega (arith, suc-mul t w)

    pub step_asked : StepAsked map (t * w) w rows (n - t - 1 + s) (get_or dims (t + 1) 0)
    step_asked = record {
      words = E.words;
      few = E.few;
      room =
          let p : suc (suc t) * w ≤ suc n * w = mul-le-mul_right w (omega arith) in
          omega (arith, suc-mul t w, suc-mul (suc t) w, E.room);
      near = omega (arith, E.symbols, E.states);
      short = E.short (t + 1);
      narrow = subst (Narrow 16) (sym same_arcs) (E.narrow t h);
    }

  module _ {old out counts : List ℕ} {at t : ℕ} (c : InEdges map w rows s n dims old out counts at t) (h : t < n) where
    pub step_room : 8192 ≤ length old → at + w ≤ length out
    step_room k = omega (arith, steps_below t h, c.at_le, c.len)

    module _ {new : List ℕ} {end : ℕ}
        (W : Wrote out at (sums (arcs_of map (t * w) w rows (n - t - 1 + s) (get_or dims (t + 1) 0))) new end) where
      written : Wrote out at (step_sums map w rows s n dims t) new end
      written = subst (λ l. Wrote out at (sums l) new end) (same_arcs t h) W

      pub step_from : at ≤ end
      step_from = omega (arith, W.end_is)

      pub step_most : end ≤ at + w
      step_most = omega (arith, written.end_is, step_few t h)

      pub edges_next : InEdges map w rows s n dims old new (set counts t (end - at)) end (t + 1)
      unfolding joined_up
      edges_next = rw (add-one t) (record {
        t_le = h;
        noted = wrote_then c.noted written;
        at_le = omega (arith, c.at_le, step_most, suc-mul t w);
        counted = λ u l. counted u l (ℕ_discrete u t);
        places = simp length-set c.places;
        len = wrote_length W ∙ c.len;
      })
        where
          counted : (u : ℕ) → u < suc t → Dec (u ≡ t) → get_or (set counts t (end - at)) u 0 ≡ length (step_sums map w rows s n dims u)
          counted u l (yes e) =
              ap (λ k. get_or (set counts t (end - at)) k 0) e
              ∙ get_or-set_same counts t (end - at) 0 (omega (arith, c.places, E.symbols))
              ∙ omega (arith, written.end_is) ∙ sym (ap (λ k. length (step_sums map w rows s n dims k)) e)
          counted u l (no e) = get_or-set_other counts t u (end - at) 0 e ∙ c.counted u (omega arith)

pub edges_end : {map : List ℕ} {w : ℕ} {rows : List ℕ} {s n : ℕ} {dims old out counts : List ℕ} {at t : ℕ}
    → InEdges map w rows s n dims old out counts at t → n ≤ t → AllEdges map w rows s n dims old out at counts
edges_end {map} {w} {rows} {s} {n} {dims} {old} {out} {counts} {at} {t} c h =
    let e : t ≡ n = omega (arith, c.t_le) in
    record {
      noted = subst (λ k. Wrote old 0 (joined_up (step_sums map w rows s n dims) k) out at) e c.noted;
      counted = λ u l. c.counted u (omega arith);
      places = c.places;
      most = subst (λ k. at ≤ k * w) e c.at_le;
    }
