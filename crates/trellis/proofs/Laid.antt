-- How many edges the steps of a section have in all, by its own counts: those of the first t steps are a sum, which grows by one step's
-- count.
use mathlib.Core.Path.{◌≡◌, refl, ap, ◌∙◌}
use mathlib.Core.List.{List}
use Prim.Native.Nat.{ℕ, zero, suc, ◌+◌, ◌-◌, ◌*◌, ◌≤◌, ◌<◌}
use native.Mathlib.Omega.{arith}
use native.Mathlib.Nat.{zero-add, add-zero, add-suc, le_refl}
use Rattle.trellis.specs.Lists.{sum}
use Rattle.trellis.specs.Layout.{edge_count_of, edges_before}
use Rattle.trellis.proofs.Lists.{sum_last}

module _ (l : List ℕ) where
  pub before_none : edges_before l 0 ≡ 0
  unfolding edges_before sum
  before_none = refl

  pub before_more : (t : ℕ) → edges_before l (suc t) ≡ edges_before l t + edge_count_of l t
  unfolding edges_before
  before_more t = sum_last (edge_count_of l) 0 t ∙ ap (λ u. edges_before l t + edge_count_of l u) (zero-add t)

  before_later : (t k : ℕ) → edges_before l t ≤ edges_before l (t + k)
  before_later t zero = rw (add-zero t) (le_refl (edges_before l t))
  before_later t (suc k) = let h = before_later t k in let e = before_more (t + k) in rw (add-suc t k) (omega arith)

  pub before_le : (t u : ℕ) → t ≤ u → edges_before l t ≤ edges_before l u
  before_le t u h = let e : t + (u - t) ≡ u = omega arith in rw e at (before_later t (u - t))

  -- where a step has `most` edges at most
  pub before_few : {n most : ℕ} → ((t : ℕ) → t < n → edge_count_of l t ≤ most) → (t : ℕ) → t ≤ n → edges_before l t ≤ most * t
  before_few few zero h = let e = before_none in omega arith
  before_few {n} {most} few (suc t) h =
      let i = before_few few t (omega arith) in
      let m = before_more t in
      let b = few t h in
      let s : most * suc t ≡ most * t + most = omega arith in
      omega arith
