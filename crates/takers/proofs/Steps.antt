-- What take_edges keeps from step to step: the first words of the steps so far, and how many each has.
use mathlib.Core.Path.{◌≡◌, refl, sym, ap, subst, ◌∙◌}
use mathlib.Core.Bool.{Bool, true, false, cond}
use mathlib.Core.List.{List, [], ◌∷◌, ◌++◌}
use Prim.Native.Nat.{ℕ, zero, suc, ◌+◌, ◌-◌, ◌*◌, ◌<◌, ◌≤◌}
use native.Mathlib.Nat.{mul-le-mul, mul-le-mul_right, suc-mul}
use native.Mathlib.Omega.{arith}
use native.Mathlib.Numerals.{add-one}
use native.Mathlib.Decide.{ℕ_discrete}
use lib.ListN.{length, get_or, set, length-set, length-append}
use lib.Seq.{get_or-set_same, get_or-set_other}
use Rattle.trellis.specs.Bounds.{most_words, most_symbols}
use Rattle.trellis.specs.Own.{Edge}
use Rattle.trellis.specs.Layout.{joined_up}
use Rattle.trellis.specs.Inner.Write.{Wrote}
use Rattle.trellis.proofs.Write.{wrote_none, wrote_then, wrote_length}
use Rattle.takers.specs.Inner.Takers.{row_edge, leads_higher, takers, SmallRows}
use Rattle.takers.specs.Inner.Pieces.{SmallMap, step_takers, AllTaken}

pub record InSteps (m labels : List ℕ) (n : ℕ) (old out counts : List ℕ) (at row t : ℕ) : Type 0 where
  pub t_le : t ≤ n
  pub row_is : row ≡ t * length labels
  pub noted : Wrote old 0 (joined_up (step_takers m labels n) t) out at
  pub at_le : at ≤ row
  pub counted : (u : ℕ) → u < t → get_or counts u 0 ≡ length (step_takers m labels n u)
  pub places : length counts ≡ most_symbols
  pub len : length out ≡ length old

takers_length : (f : ℕ → Edge) (m : ℕ) → length (takers f m) ≤ m
unfolding takers
takers_length f zero = omega arith
takers_length f (suc m) = go (leads_higher f m) (takers_length f m)
  where
    go : (b : Bool) → length (takers f m) ≤ m → length (cond b (takers f m ++ (m ∷ [])) (takers f m)) ≤ suc m
    go true h = simp length-append (omega arith)
    go false h = omega arith

pub steps_none : (m labels : List ℕ) (n : ℕ) (old counts : List ℕ) → length counts ≡ most_symbols → InSteps m labels n old old counts 0 0 0
unfolding joined_up
steps_none m labels n old counts h = record {
  t_le = omega arith;
  row_is = omega arith;
  noted = wrote_none;
  at_le = omega arith;
  counted = λ u l. absurd (omega arith);
  places = h;
  len = refl;
}

-- the rows of a step and the next are in the map
pub rows_fit : {m labels : List ℕ} {n row t : ℕ} → SmallMap m labels n → row ≡ t * length labels → t < n
    → row + length labels + length labels ≤ suc n * length labels
rows_fit {m} {labels} {n} {row} {t} S e h =
    let p : suc (suc t) * length labels ≤ suc n * length labels = mul-le-mul_right (length labels) (omega arith) in
    omega (arith, suc-mul t (length labels), suc-mul (suc t) (length labels))

module _ {m labels : List ℕ} {n : ℕ} {old out counts : List ℕ} {at row t : ℕ} (S : SmallMap m labels n)
    (c : InSteps m labels n old out counts at row t) (h : t < n) where
  fit : row + length labels + length labels ≤ suc n * length labels
  fit = rows_fit {m = m} S c.row_is h

  pub step_rows : SmallRows m labels row
  step_rows = record {
    words = S.words;
    room = omega (arith, fit, S.room);
    from = λ i l. S.vertices (row + i) (omega (arith, fit));
    to = λ i l. S.vertices (row + length labels + i) (omega (arith, fit));
  }

  row_low : row ≤ 7168
  row_low =
      let q : t ≤ 7 = omega (arith, S.steps) in
      let p : t * length labels ≤ 7 * most_words = mul-le-mul q S.words in
      omega (arith, c.row_is)

  pub step_room : 8192 ≤ length old → at + length labels ≤ length out
  step_room k = omega (arith, row_low, c.at_le, c.len, S.words)

  pub row_next : row + length labels ≤ 8192
  row_next = omega (arith, row_low, S.words)

  module _ {out' : List ℕ} {end : ℕ} (W : Wrote out at (takers (row_edge m labels n t row) (length labels)) out' end) where
    is_step : takers (row_edge m labels n t row) (length labels) ≡ step_takers m labels n t
    unfolding step_takers
    is_step = ap (λ r. takers (row_edge m labels n t r) (length labels)) c.row_is

    pub step_from : at ≤ end
    step_from = omega (arith, W.end_is)

    pub step_few : end ≤ at + length labels
    step_few = omega (arith, W.end_is, takers_length (row_edge m labels n t row) (length labels))

    pub steps_more : InSteps m labels n old out' (set counts t (end - at)) end (row + length labels) (t + 1)
    unfolding joined_up
    steps_more = rw (add-one t) (record {
      t_le = h;
      row_is = omega (arith, c.row_is, suc-mul t (length labels));
      noted = subst (λ vs. Wrote old 0 (joined_up (step_takers m labels n) t ++ vs) out' end) is_step (wrote_then c.noted W);
      at_le = omega (arith, c.at_le, step_few);
      counted = λ u l. counted u l (ℕ_discrete u t);
      places = simp length-set c.places;
      len = wrote_length W ∙ c.len;
    })
      where
        counted : (u : ℕ) → u < suc t → Dec (u ≡ t) → get_or (set counts t (end - at)) u 0 ≡ length (step_takers m labels n u)
        counted u l (yes e) =
            ap (λ k. get_or (set counts t (end - at)) k 0) e
            ∙ get_or-set_same counts t (end - at) 0 (omega (arith, c.places, S.steps))
            ∙ omega (arith, W.end_is) ∙ ap length is_step ∙ sym (ap (λ k. length (step_takers m labels n k)) e)
        counted u l (no e) = get_or-set_other counts t u (end - at) 0 e ∙ c.counted u (omega arith)

pub steps_end : {m labels : List ℕ} {n : ℕ} {old out counts : List ℕ} {at row t : ℕ} → InSteps m labels n old out counts at row t → n ≤ t
    → AllTaken m labels n old out at counts
steps_end {m} {labels} {n} {old} {out} {counts} {at} {row} {t} c h =
    let e : t ≡ n = omega (arith, c.t_le) in
    record {
      noted = subst (λ k. Wrote old 0 (joined_up (step_takers m labels n) k) out at) e c.noted;
      counted = λ u l. c.counted u (omega arith);
      places = c.places;
      few = subst (λ k. at ≤ k * length labels) e (omega (arith, c.at_le, c.row_is));
    }
