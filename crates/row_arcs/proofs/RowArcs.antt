-- The edges that the rows take, one row after another. Row b is word 2 ^ b, which is below w, so its vertices at the step's two depths
-- stand in the map; and i is doubled from row to row, so it is 2 ^ b.
use mathlib.Core.Path.{◌≡◌, refl, sym, ap, subst, ◌∙◌}
use mathlib.Core.List.{List}
use Prim.Native.Nat.{ℕ, ◌+◌, ◌^◌, ◌≤◌, ◌<◌}
use native.Mathlib.Omega.{arith}
use native.Mathlib.Nat.{pow-suc}
use native.Mathlib.Numerals.{add-one}
use lib.ListN.{length, get_or, set}
use lib.Pow.{pow_mono, pow-lt}
use Rattle.trellis.proofs.Lists.{length_run, each_at}
use Rattle.rows.specs.Inner.Reduced.{bit_at}
use Rattle.rows.specs.Inner.Edges.{edge_number}
use Rattle.parity.specs.Inner.Front.{Front}
use Rattle.parity.proofs.Fronts.{Fills, fills_none, fills_next, fills_all}
use Rattle.row_arcs.specs.Inner.Arcs.{arcs_of, StepAsked}

module _ (map : List ℕ) (row w : ℕ) (rows : List ℕ) (cut dim : ℕ) where
  -- the edge that row b takes, where i is its word
  abbrev arc_at : ℕ → ℕ → ℕ
  arc_at i b = edge_number dim (get_or map (row + i) 0) (bit_at cut (get_or rows b 0)) (get_or map (row + w + i) 0)

  pub arcs_length : length (arcs_of map row w rows cut dim) ≡ length rows
  unfolding arcs_of
  arcs_length = length_run (λ b. arc_at (2 ^ b) b) 0 (length rows)

  arc_is : (b : ℕ) → b < length rows → get_or (arcs_of map row w rows cut dim) b 0 ≡ arc_at (2 ^ b) b
  unfolding arcs_of
  arc_is b h = each_at (λ b. arc_at (2 ^ b) b) (length rows) b 0 h

  -- the first b edges are there
  pub record InArcs (arcs : List ℕ) (i b : ℕ) : Type 0 where
    pub fills : Fills (arcs_of map row w rows cut dim) b arcs
    pub word : i ≡ 2 ^ b

  pub arcs_none : {arcs : List ℕ} → length arcs ≡ 16 → InArcs arcs 1 0
  arcs_none e = record { fills = fills_none (arcs_of map row w rows cut dim) e; word = refl }

pub words_few : {map : List ℕ} {row w : ℕ} {rows : List ℕ} {cut dim : ℕ} → StepAsked map row w rows cut dim → w ≤ 1024
words_few {map} {row} {w} {rows} A = omega (arith, A.words, pow_mono {i = length rows} {j = 10} A.few)

module _ {map : List ℕ} {row w : ℕ} {rows : List ℕ} {cut dim : ℕ} {arcs : List ℕ} {i b : ℕ}
    (A : StepAsked map row w rows cut dim) (c : InArcs map row w rows cut dim arcs i b) (h : b < length rows) where
  pub word_below : i < w
  word_below = omega (arith, c.word, A.words, pow-lt {i = b} {j = length rows} h)

  at_word : arc_at map row w rows cut dim i b ≡ get_or (arcs_of map row w rows cut dim) b 0
  at_word = ap (λ k. arc_at map row w rows cut dim k b) c.word ∙ sym (arc_is map row w rows cut dim b h)

  pub arc_small : {s : ℕ} → s ≡ bit_at cut (get_or rows b 0)
      → edge_number dim (get_or map (row + i) 0) s (get_or map (row + w + i) 0) < 2 ^ 16
  arc_small {s} e = subst (λ k. k < 2 ^ 16)
      (sym (ap (λ k. edge_number dim (get_or map (row + i) 0) k (get_or map (row + w + i) 0)) e ∙ at_word))
      (A.narrow b (omega (arith, arcs_length map row w rows cut dim)))

  pub arcs_next : {s x : ℕ} → s ≡ bit_at cut (get_or rows b 0)
      → x ≡ edge_number dim (get_or map (row + i) 0) s (get_or map (row + w + i) 0)
      → InArcs map row w rows cut dim (set arcs b x) (i + i) (b + 1)
  arcs_next {s} {x} e q = record {
    fills = fills_next c.fills (omega (arith, arcs_length map row w rows cut dim))
        (omega (arith, arcs_length map row w rows cut dim, A.few))
        (q ∙ ap (λ k. edge_number dim (get_or map (row + i) 0) k (get_or map (row + w + i) 0)) e ∙ at_word);
    word = rw (add-one b, pow-suc 2 b) (omega (arith, c.word));
  }

pub arcs_end : {map : List ℕ} {row w : ℕ} {rows : List ℕ} {cut dim : ℕ} {arcs : List ℕ} {i b : ℕ}
    → InArcs map row w rows cut dim arcs i b → length rows ≤ b → Front (arcs_of map row w rows cut dim) arcs
arcs_end {map} {row} {w} {rows} {cut} {dim} c h = fills_all c.fills (omega (arith, arcs_length map row w rows cut dim))
