-- The pairs and the symbols of all steps: the edges of step t stand behind those of the steps before it, as many as the counts say; each
-- edge gives `size` numbers, so those of step t have room behind those before them.
use mathlib.Core.Path.{◌≡◌, refl, sym, ap, ap₂, subst, ◌∙◌}
use mathlib.Core.List.{List, map}
use Prim.Native.Nat.{ℕ, zero, suc, ◌+◌, ◌-◌, ◌*◌, ◌≤◌, ◌<◌}
use native.Mathlib.Nat.{mul-zero, mul-add, add-zero, add-suc, zero-add, mul-le-mul_left}
use native.Mathlib.Omega.{arith}
use native.Mathlib.Numerals.{add-one}
use lib.ListN.{length, get_or, take, drop, length-drop, length-map}
use lib.Seq.{length-take-le}
use Rattle.trellis.specs.Lists.{sum}
use Rattle.trellis.specs.Layout.{joined_up, pair_of, symbol_of}
use Rattle.trellis.specs.Inner.Write.{Wrote}
use Rattle.trellis.proofs.Lists.{sum_last, length_two}
use Rattle.trellis.proofs.Write.{wrote_none, wrote_then, wrote_length}
use Rattle.rows.specs.Inner.Edges.{edge_from}
use Rattle.row_pieces.specs.Inner.Pieces.{edges_to, step_part, pairs_from, symbols_from, PiecesAsked}

-- ---- how many numbers edges give

-- `size` numbers for each edge
abbrev pub Sized : (ℕ → List ℕ → List ℕ) → ℕ → Type 0
Sized form size = (dim : ℕ) (edges : List ℕ) → length (form dim edges) ≡ size * length edges

pub pairs_size : Sized pairs_from 2
unfolding pairs_from
pairs_size dim edges = length_two pair_of (map (edge_from dim) edges) (λ e. refl) ∙ ap (λ k. 2 * k) (length-map edges (edge_from dim))

pub symbols_size : Sized symbols_from 1
unfolding symbols_from
symbols_size dim edges = omega (arith, length-map (map (edge_from dim) edges) symbol_of, length-map edges (edge_from dim))

-- ---- how many edges the steps have

module _ (counts : List ℕ) where
  edges_more : (t : ℕ) → edges_to counts (suc t) ≡ edges_to counts t + get_or counts t 0
  edges_more t = sum_last (λ u. get_or counts u 0) 0 t ∙ ap (λ u. edges_to counts t + get_or counts u 0) (zero-add t)

  edges_later : (k t : ℕ) → edges_to counts t ≤ edges_to counts (t + k)
  edges_later zero t = rw (add-zero t) (omega arith)
  edges_later (suc k) t = rw (add-suc t k) (omega (arith, edges_later k t, edges_more (t + k)))

  pub edges_rise : (t n : ℕ) → t < n → edges_to counts t + get_or counts t 0 ≤ edges_to counts n
  edges_rise t n h =
      let e : suc t + (n - suc t) ≡ n = omega arith in
      let l : edges_to counts (suc t) ≤ edges_to counts n =
      subst (λ k. edges_to counts (suc t) ≤ edges_to counts k) e (edges_later (n - suc t) (suc t)) in
      omega (arith, edges_more t)

-- ---- the loops over the steps

-- what a step gives
abbrev pub step_form : (ℕ → List ℕ → List ℕ) → List ℕ → List ℕ → List ℕ → ℕ → List ℕ
step_form form edges counts dims t = form (get_or dims (suc t) 0) (step_part edges counts t)

-- the first t steps are written
pub record InAll (form : ℕ → List ℕ → List ℕ) (size : ℕ) (edges counts : List ℕ) (n : ℕ) (dims old : List ℕ) (start : ℕ) (new : List ℕ)
    (at lo t : ℕ) : Type 0 where
  pub t_le : t ≤ n
  pub lo_is : lo ≡ edges_to counts t
  pub wrote : Wrote old start (joined_up (step_form form edges counts dims) t) new at
  pub at_is : at ≡ start + size * lo
  pub len : length new ≡ length old

pub all_none : (form : ℕ → List ℕ → List ℕ) (size : ℕ) (edges counts : List ℕ) (n : ℕ) (dims old : List ℕ) (start : ℕ)
    → InAll form size edges counts n dims old start old start 0 0
unfolding joined_up sum
all_none form size edges counts n dims old start = record {
  t_le = omega arith;
  lo_is = refl;
  wrote = wrote_none;
  at_is = rw (mul-zero size) (sym (add-zero start));
  len = refl;
}

module _ {form : ℕ → List ℕ → List ℕ} {size : ℕ} {edges counts : List ℕ} {n : ℕ} {dims old : List ℕ} {start : ℕ}
    (A : PiecesAsked size edges counts n dims old start) {new : List ℕ} {at lo t : ℕ}
    (c : InAll form size edges counts n dims old start new at lo t) (h : t < n) {count : ℕ} (q : count ≡ get_or counts t 0) where
  -- the edges of the step, as the code lends them
  abbrev lent : List ℕ
  lent = take (lo + count - lo) (drop lo edges)

  before_end : lo + count ≤ edges_to counts n
  before_end = omega (arith, q, c.lo_is, edges_rise counts t n h)

  pub lent_inside : lo + count ≤ length edges
  lent_inside = omega (arith, before_end, A.inside)

  lent_is : lent ≡ step_part edges counts t
  lent_is =
      let e : lo + count - lo ≡ get_or counts t 0 = omega (arith, q) in
      ap₂ (λ k m. take k (drop m edges)) e c.lo_is

  lent_length : length lent ≡ count
  lent_length = omega (
    arith,
    length-take-le (lo + count - lo) (drop lo edges) (omega (arith, lent_inside, length-drop lo edges)),
  )

  numbers_are : size * length lent ≡ size * count
  numbers_are = ap (λ k. size * k) lent_length

  pub lent_room : at + size * length lent ≤ length new
  lent_room =
      let l : size * (lo + count) ≤ size * edges_to counts n = mul-le-mul_left size before_end in
      omega (arith, numbers_are, c.at_is, c.len, A.room, mul-add size lo count)

  pub all_next : Sized form size → {new' : List ℕ} {end : ℕ} → Wrote new at (form (get_or dims (t + 1) 0) lent) new' end
      → InAll form size edges counts n dims old start new' end (lo + count) (t + 1)
  unfolding joined_up
  all_next sized {new'} {end} W = rw (add-one t) (record {
    t_le = h;
    lo_is = omega (arith, edges_more counts t, q, c.lo_is);
    wrote = wrote_then c.wrote (subst (λ vs. Wrote new at vs new' end) (ap₂ form (ap (λ k. get_or dims k 0) (add-one t)) lent_is) W);
    at_is = omega (arith, W.end_is, sized (get_or dims (t + 1) 0) lent, numbers_are, c.at_is, mul-add size lo count);
    len = wrote_length W ∙ c.len;
  })

pub all_end : {form : ℕ → List ℕ → List ℕ} {size : ℕ} {edges counts : List ℕ} {n : ℕ} {dims old : List ℕ} {start : ℕ} {new : List ℕ}
    {at lo t : ℕ} → InAll form size edges counts n dims old start new at lo t → n ≤ t
    → Wrote old start (joined_up (step_form form edges counts dims) n) new at
all_end {form} {size} {edges} {counts} {n} {dims} {old} {start} {new} {at} {lo} {t} c h =
    let e : t ≡ n = omega (arith, c.t_le) in
    subst (λ k. Wrote old start (joined_up (step_form form edges counts dims) k) new at) e c.wrote
