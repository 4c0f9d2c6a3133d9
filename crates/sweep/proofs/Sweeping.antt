-- All rows: the row of a depth follows from the row behind it, since what an edge gives over the two arrays is, up to the top, what it
-- gives by the theory. The two arrays take turns, and depth 0 is even.
use mathlib.Core.Path.{◌≡◌, refl, sym, ap, ap₂, subst, ◌∙◌}
use mathlib.Core.Bool.{Bool, true, false, cond}
use mathlib.Core.List.Memᴰ
use mathlib.Core.List.{List, [], ◌∷◌}
use Prim.Native.Nat.{ℕ, suc, ◌+◌, ◌-◌, ◌*◌, ◌%◌, ◌≤◌, ◌<◌, min}
use native.Mathlib.Omega.{arith}
use native.Mathlib.Nat.{zero-add}
use lib.Dec.{eqb}
use lib.ListN.{length, get_or, take, drop}
use lib.Seq.{get_or-drop}
use borrow.Author.Tests.{eq-eqb, ne_eqb}
use Rattle.trellis.specs.Bounds.{most_words}
use Rattle.trellis.specs.Lists.{◌∈◌, run}
use Rattle.trellis.specs.Own.{Edge}
use Rattle.trellis.specs.Section.{leaving}
use Rattle.trellis.specs.Layout.{n_of, vertex_count_of, edge_count_of, edges_before, edge_number, step_edges}
use Rattle.trellis.proofs.Lists.{rest_of, run_shift, of_run}
use Rattle.trellis.proofs.Laid.{before_more, before_le}
use Rattle.paths.specs.Inner.Costs.{plus, min_all}
use Rattle.paths.specs.Inner.Sections.{section_least}
use Rattle.paths.specs.Inner.Ranked.{top_rank}
use Rattle.paths.proofs.Capped.{min_all_le}
use Rattle.paths.proofs.Sections.{across, least_step, listed_of}
use Rattle.edges.specs.Inner.Edges.{edge_in}
use Rattle.section_file.specs.Inner.View.{Seen}
use Rattle.section_file.specs.declared.View.{View}
use Rattle.section_file.proofs.Seen.{viewed, parts, section_near, symbols_in_lem, edges_from, from_length, from_below_lem, to_below_lem, symbol_small_lem}
use Rattle.section_file.proofs.Seen.{Header, header}
use Rattle.lowering.specs.Inner.Rows.{side, Priced, LeastRow, SweepAsked, Swept}
use Rattle.lowering.specs.Inner.Loops.{Cleared, StepAsked, through, Lowered, RowAsked, RowDone}

-- ---- places

-- where the edges of step t stand
pub record StepNear (l : List ℕ) (at : View) (t before : ℕ) : Type 0 where
  pub counts : Header l at
  pub few : before + edge_count_of l t ≤ 30000
  pub pairs_in_lem : at.pairs + 2 * (before + edge_count_of l t) ≤ length l
  pub symbols_in_lem : at.symbols + (before + edge_count_of l t) ≤ length l
  pub near : at.symbols + (before + edge_count_of l t) ≤ 30000
  pub pairs_near : at.pairs + 2 * (before + edge_count_of l t) ≤ 30000

pub near_by : {l : List ℕ} {at : View} {t before : ℕ} → Seen l at → t < n_of l → before ≡ edges_before l t → StepNear l at t before
near_by {l} {at} {t} S h e =
    let W = viewed S.is in
    let P = parts l in
    let s = S.sound in
    let m = before_more l t in
    let k = before_le l (suc t) (n_of l) h in
    let i = symbols_in_lem s in
    let n = section_near s in
    record {
      counts = header S;
      few = omega arith;
      pairs_in_lem = omega (arith, W.pairs_is);
      symbols_in_lem = omega (arith, W.symbols_is);
      near = omega (arith, W.symbols_is);
      pairs_near = omega (arith, W.pairs_is);
    }

-- vertices as they are counted
pub vertices_few : {l : List ℕ} {at : View} {t count : ℕ} → Seen l at → t ≤ n_of l → count ≡ get_or l (3 + t) 0 → count ≤ most_words
unfolding vertex_count_of
vertices_few {t = t} S h e = omega (arith, S.sound.vertices_to t h)

-- ---- one step, in the slices that the code takes

module _ {l : List ℕ} {at : View} {t before : ℕ} (S : Seen l at) {prices behind old : List ℕ}
    (A : RowAsked l t before prices behind old) where
  abbrev pairs : List ℕ
  pairs = take (length l - (at.pairs + 2 * before)) (drop (at.pairs + 2 * before) l)

  abbrev symbols : List ℕ
  symbols = take (length l - (at.symbols + before)) (drop (at.symbols + before) l)

  abbrev own : List ℕ
  own = take (length prices - 4 * t) (drop (4 * t) prices)

  numbered : (k : ℕ) → edge_in pairs symbols k ≡ edge_number l (before + k)
  numbered k =
      let W = viewed S.is in
      ap (λ f. f k) (edges_from l before (ap (λ x. x + 2 * before) W.pairs_is) (ap (λ x. x + before) W.symbols_is))

  -- edge k of the step, over all steps
  record InStep (k : ℕ) : Type 0 where
    from : edges_before l t ≤ before + k
    to : before + k < edges_before l (suc t)
    all : before + k < edges_before l (n_of l)

  in_step : (k : ℕ) → k < edge_count_of l t → InStep k
  in_step k h =
      let m = before_more l t in
      let e = before_le l (suc t) (n_of l) A.inside in
      let b = A.before_is in
      record { from = omega arith; to = omega arith; all = omega arith }

  own_at : (a : ℕ) → get_or own a 0 ≡ get_or prices (4 * t + a) 0
  own_at a = ap (λ x. get_or x a 0) (rest_of prices (4 * t)) ∙ get_or-drop (4 * t) prices a 0

  pub step_asked : {count : ℕ} {row : List ℕ} → count ≡ get_or l (4 + at.n + t) 0 → length row ≡ most_words
      → StepAsked pairs symbols count own behind row
  unfolding edge_count_of
  step_asked {count} {row} c r =
      let N = near_by S A.inside A.before_is in
      let e : count ≡ edge_count_of l t = c ∙ ap (λ k. get_or l (4 + k + t) 0) N.counts.n_is in
      record {
        few = omega (arith, S.sound.edges_to t A.inside);
        pairs_in = omega (arith, from_length l (at.pairs + 2 * before), N.pairs_in_lem);
        symbols_in = omega (arith, from_length l (at.symbols + before), N.symbols_in_lem);
        prices_in = omega (arith, from_length prices (4 * t), A.room.long, N.counts.n_le, A.inside);
        behind_long = A.behind_long;
        row_long = r;
        from_small = λ k h. let i = in_step k (omega arith) in
            subst (λ d. d.from < most_words) (sym (numbered k))
            (omega (
              arith,
              from_below_lem S.sound t (before + k) A.inside i.from i.to,
              S.sound.vertices_to t
                  (omega (arith, A.inside)),
            ));
        symbol_small = λ k h. subst (λ d. d.symbol < 4) (sym (numbered k))
            (symbol_small_lem S.sound (before + k) (in_step k (omega arith)).all);
        to_small = λ k h. let i = in_step k (omega arith) in
            subst (λ d. d.to < most_words) (sym (numbered k))
            (omega (arith, to_below_lem S.sound t (before + k) A.inside i.from i.to, S.sound.vertices_to (suc t) A.inside));
        price_small = λ a. subst (λ x. x ≤ top_rank) (sym (own_at a)) (A.room.small (4 * t + a));
        behind_small = λ k h. let i = in_step k (omega arith) in
            subst (λ d. get_or behind d.to 0 ≤ top_rank) (sym (numbered k))
            (A.small (edge_number l (before + k)).to (to_below_lem S.sound t (before + k) A.inside i.from i.to));
      }

  edges_are : {count : ℕ} → count ≡ edge_count_of l t → run (edge_in pairs symbols) 0 count ≡ step_edges l t
  unfolding step_edges
  edges_are {count} e =
      run_shift (edge_in pairs symbols) (edge_number l) 0 (edges_before l t) count
      (λ k h. ap (edge_in pairs symbols) (zero-add k) ∙ numbered k ∙ ap (λ b. edge_number l (b + k)) A.before_is)
      ∙ ap (run (edge_number l) (edges_before l t)) e

  -- what an edge gives, up to the top
  gives_is : {cost : ℕ → ℕ → ℕ} {number : ℕ → ℕ} → Priced l prices cost → LeastRow l cost number (suc t) behind
      → (v : ℕ) (e : Edge) → e ∈ leaving v (step_edges l t)
      → min top_rank (through own behind e) ≡ across (step_edges l) cost top_rank number (n_of l - suc t) t e
  unfolding plus step_edges
  gives_is P R v e m =
      let w = of_run (edge_number l) (edges_before l t) (edge_count_of l t) e (listed_of v (step_edges l t) e m) in
      let b = before_more l t in
      let c = before_le l (suc t) (n_of l) A.inside in
      let i = edges_before l t + w.at in
      let k = w.below in
      ap₂ (λ x y. min top_rank (x + y))
      (own_at e.symbol
      ∙ P.at t e.symbol A.inside (subst (λ d. d.symbol < 4) (sym w.is) (symbol_small_lem S.sound i (omega arith))))
      (R.at e.to (subst (λ d. d.to < vertex_count_of l (suc t)) (sym w.is)
      (to_below_lem S.sound t i A.inside (omega arith) (omega arith))))

-- sums above the top may as well be the top
min_capped : {A : Type 0} (top : ℕ) (f : A → ℕ) {g : A → ℕ} (xs : List A) → ((x : A) → x ∈ xs → min top (f x) ≡ g x)
    → min_all top f xs ≡ min_all top g xs
unfolding min_all
min_capped top f [] h = refl
min_capped top f (x ∷ xs) h =
    let i = min_capped top f xs (λ y m. h y (Memᴰ.tail m)) in
    let e = h x (Memᴰ.head refl) in
    let l = min_all_le top f xs in
    omega arith

-- ---- the row of a depth

pub depth_done : {l : List ℕ} {at : View} {t before first count : ℕ} {prices behind old mid new : List ℕ} (S : Seen l at)
    (A : RowAsked l t before prices behind old) → first ≡ get_or l (3 + t) 0 → Cleared most_words top_rank mid first
    → count ≡ get_or l (4 + at.n + t) 0
    → Lowered (pairs S A) (symbols S A) count (own S A) behind mid new → RowDone l t prices behind new
unfolding vertex_count_of edge_count_of
depth_done {l} {at} {t} {before} {first} {count} {prices} {behind} {mid = mid} {new} S A f C c L =
    record {
      long = L.long;
      small = λ v h. subst (λ x. x ≤ top_rank) (sym (lowered v h))
          (min_all_le top_rank _ (leaving v (step_edges l t)));
      done = done;
    }
  where
    below : (v : ℕ) → v < vertex_count_of l t → v < most_words
    below v h = omega (arith, S.sound.vertices_to t (omega (arith, A.inside)))

    lowered : (v : ℕ) → v < vertex_count_of l t → get_or new v 0 ≡ min_all top_rank (through (own S A) behind) (leaving v (step_edges l t))
    lowered v h =
        L.at v (below v h)
        ∙ ap₂ (λ x es. min_all x (through (own S A) behind) (leaving v es)) (C.at v (omega arith))
        (edges_are S A (c ∙ ap (λ k. get_or l (4 + k + t) 0) (viewed S.is).n_is))

    done : (cost : ℕ → ℕ → ℕ) (number : ℕ → ℕ) → Priced l prices cost → LeastRow l cost number (suc t) behind → LeastRow l cost number t new
    done cost number P R =
        record {
          at = λ v h.
              let e : n_of l - t ≡ suc (n_of l - suc t) = omega (arith, A.inside) in
              lowered v h ∙ min_capped top_rank (through (own S A) behind) (leaving v (step_edges l t)) (gives_is S A P R v)
              ∙ sym (ap (λ j. section_least (step_edges l) cost top_rank number j t v) e
              ∙ least_step (step_edges l) cost top_rank number (n_of l - suc t) t v);
        }

-- ---- the two arrays

module _ (t : ℕ) (even odd : List ℕ) where
  pub side_even : t % 2 ≡ 0 → side t even odd ≡ even
  unfolding side
  side_even e = ap (λ b. cond b even odd) (eq-eqb (t % 2) 0 e)

  pub side_odd : (t % 2 ≡ 0 → ⊥) → side t even odd ≡ odd
  unfolding side
  side_odd e = ap (λ b. cond b even odd) (ne_eqb (t % 2) 0 e)

module _ {l prices even odd : List ℕ} {t before : ℕ} where
  pub asked_even : t % 2 ≡ 0 → RowAsked l t before prices (side (suc t) even odd) (side t even odd)
      → RowAsked l t before prices odd even
  asked_even e A =
      subst (λ x. RowAsked l t before prices x even) (side_odd (suc t) even odd (omega arith))
      (subst (RowAsked l t before prices (side (suc t) even odd)) (side_even t even odd e) A)

  pub asked_odd : (t % 2 ≡ 0 → ⊥) → RowAsked l t before prices (side (suc t) even odd) (side t even odd)
      → RowAsked l t before prices even odd
  asked_odd e A =
      subst (λ x. RowAsked l t before prices x odd) (side_even (suc t) even odd (omega arith))
      (subst (RowAsked l t before prices (side (suc t) even odd)) (side_odd t even odd e) A)

module _ {l prices new : List ℕ} {t : ℕ} (even odd : List ℕ) where
  pub done_even : t % 2 ≡ 0 → RowDone l t prices odd new → RowDone l t prices (side (suc t) even odd) (side t new odd)
  done_even e D =
      subst (λ x. RowDone l t prices x (side t new odd)) (sym (side_odd (suc t) even odd (omega arith)))
      (subst (RowDone l t prices odd) (sym (side_even t new odd e)) D)

  pub done_odd : (t % 2 ≡ 0 → ⊥) → RowDone l t prices even new → RowDone l t prices (side (suc t) even odd) (side t even new)
  done_odd e D =
      subst (λ x. RowDone l t prices x (side t even new)) (sym (side_even (suc t) even odd (omega arith)))
      (subst (RowDone l t prices even) (sym (side_odd t even new e)) D)

-- ---- the loop over the steps

-- the row of depth t is done, and the steps before it have `before` edges
pub record InSweep (l prices old_even old_odd even odd : List ℕ) (t before : ℕ) : Type 0 where
  pub t_le : t ≤ n_of l
  pub before_is : before ≡ edges_before l t
  pub even_long : length even ≡ most_words
  pub odd_long : length odd ≡ most_words
  pub small : (v : ℕ) → v < vertex_count_of l t → get_or (side t even odd) v 0 ≤ top_rank
  pub done : (cost : ℕ → ℕ → ℕ) (number : ℕ → ℕ) → Priced l prices cost → LeastRow l cost number (n_of l) (side (n_of l) old_even old_odd)
      → LeastRow l cost number t (side t even odd)

module _ {l : List ℕ} {at : View} (S : Seen l at) {prices old_even old_odd : List ℕ} (A : SweepAsked l prices old_even old_odd) where
  pub sweep_start : InSweep l prices old_even old_odd old_even old_odd at.n at.edges
  sweep_start =
      let W = viewed S.is in
      subst (λ t. InSweep l prices old_even old_odd old_even old_odd t at.edges) (sym W.n_is)
      (record {
        t_le = omega arith;
        before_is = W.edges_is;
        even_long = A.even_long;
        odd_long = A.odd_long;
        small = A.small;
        done = λ cost number P R. R;
      })

  module _ {even odd : List ℕ} {t before count : ℕ} (I : InSweep l prices old_even old_odd even odd t before) (h : 0 < t)
      (c : count ≡ get_or l (4 + at.n + (t - 1)) 0) where
    counted : before ≡ edges_before l (t - 1) + count
    unfolding edge_count_of
    counted =
        let e : t ≡ suc (t - 1) = omega arith in
        I.before_is ∙ ap (edges_before l) e ∙ before_more l (t - 1)
        ∙ ap (λ k. edges_before l (t - 1) + k) (sym (c ∙ ap (λ k. get_or l (4 + k + (t - 1)) 0) (viewed S.is).n_is))

    -- so many can be taken off
    pub sweep_fits : count ≤ before
    sweep_fits = omega (arith, counted)

    long_side : (u : ℕ) → length (side u even odd) ≡ most_words
    unfolding side
    long_side u = go (eqb (u % 2) 0)
      where
        go : (b : Bool) → length (cond b even odd) ≡ most_words
        go true = I.even_long
        go false = I.odd_long

    pub sweep_asked : RowAsked l (t - 1) (before - count) prices (side (suc (t - 1)) even odd) (side (t - 1) even odd)
    sweep_asked =
        let e : t ≡ suc (t - 1) = omega arith in
        record {
          inside = omega (arith, I.t_le);
          before_is = omega (arith, counted);
          room = A.room;
          behind_long = long_side (suc (t - 1));
          row_long = long_side (t - 1);
          small = subst (λ u. (v : ℕ) → v < vertex_count_of l u → get_or (side u even odd) v 0 ≤ top_rank) e I.small;
        }

    pub sweep_more : {new_even new_odd : List ℕ}
        → RowDone l (t - 1) prices (side (suc (t - 1)) even odd) (side (t - 1) new_even new_odd)
        → length new_even ≡ most_words → length new_odd ≡ most_words
        → InSweep l prices old_even old_odd new_even new_odd (t - 1) (before - count)
    sweep_more {new_even} {new_odd} D e o =
        let z : t ≡ suc (t - 1) = omega arith in
        record {
          t_le = omega (arith, I.t_le);
          before_is = omega (arith, counted);
          even_long = e;
          odd_long = o;
          small = D.small;
          done = λ cost number P R. D.done cost number P (subst (λ u. LeastRow l cost number u (side u even odd)) z
              (I.done cost number P R));
        }

pub sweep_end : {l prices old_even old_odd even odd : List ℕ} {t before : ℕ} → InSweep l prices old_even old_odd even odd t before → t ≤ 0
    → Swept l prices old_even old_odd even odd
sweep_end {l} {prices} {old_even} {old_odd} {even} {odd} {t} I h =
    let e : t ≡ 0 = omega arith in
    let s : side t even odd ≡ even = side_even t even odd (omega arith) in
    record {
      even_long = I.even_long;
      odd_long = I.odd_long;
      small = subst (λ u. (v : ℕ) → v < vertex_count_of l u → get_or even v 0 ≤ top_rank) e
          (subst (λ r. (v : ℕ) → v < vertex_count_of l t → get_or r v 0 ≤ top_rank) s I.small);
      row = λ cost number P R. subst (λ u. LeastRow l cost number u even) e (subst (LeastRow l cost number t) s (I.done cost number P R));
    }
