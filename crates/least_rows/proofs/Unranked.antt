-- A rank divided by `distance_unit` is the distance, from any depth. k steps bring a label below 4 ^ k, so that under the distance of a rank
-- there is less than label_unit · 4 ^ k, unless the rank is the top. One symbol more stands above all of that, and as k is at most 8, both
-- still stay under `distance_unit`: nothing is carried into the distance, and distances add up by themselves. What is cut off at the top has
-- the top's distance, which is `unreached`. A smaller rank has no greater distance, so the least rank has the least.
use mathlib.Core.Path.{◌≡◌, refl, subst}
use mathlib.Core.List.Memᴰ
use mathlib.Core.List.{List, [], ◌∷◌}
use Prim.Native.Nat.{ℕ, zero, suc, ◌+◌, ◌-◌, ◌*◌, ◌/◌, ◌%◌, ◌^◌, ◌≤◌, ◌<◌, min}
use native.Mathlib.Nat.{pow-suc, pow-le-pow_right, mul-le-mul_right}
use native.Mathlib.Decide.{dec_le, dec_lt}
use native.Mathlib.Omega.{arith}
use lib.Dec.{lit<}
use Rattle.trellis.specs.Bounds.{most_states, most_symbols}
use Rattle.trellis.specs.Lists.{◌∈◌}
use Rattle.trellis.specs.Own.{Edge}
use Rattle.trellis.specs.Section.{leaving}
use Rattle.paths.specs.Chain.{unreached}
use Rattle.paths.specs.Inner.Costs.{plus, min_all}
use Rattle.paths.specs.Inner.Sections.{section_least}
use Rattle.paths.specs.Inner.Ranked.{label_unit, distance_unit, ranked, top_rank, ranked_cost, ranked_left}
use Rattle.paths.proofs.Ascent.{Bounded}
use Rattle.paths.proofs.Sections.{across, listed_of, least_last, least_step}

-- a rank of k steps, and its distance
record Unranks (k rank distance : ℕ) : Type 0 where
  small : rank ≤ top_rank
  front : rank / distance_unit ≡ distance
  low : rank < top_rank → rank % distance_unit < label_unit * 4 ^ k

-- no path
top_unranks : (k : ℕ) → Unranks k top_rank unreached
top_unranks k = record { small = omega arith; front = omega arith; low = λ h. absurd (omega arith) }

-- no step: what is left to pay behind the block
left_unranks : (left s : ℕ) → left ≤ unreached → s < most_states → Unranks 0 (ranked_left left s) left
unfolding ranked_left ranked
left_unranks left s h k = record { small = omega arith; front = omega arith; low = λ i. omega arith }

-- one step more
more_unranks : {k rank distance : ℕ} → Unranks k rank distance → k < most_symbols → (cost a : ℕ) → a < 4
    → Unranks (suc k) (plus top_rank (ranked cost (a * 4 ^ k) 0) rank) (plus unreached cost distance)
unfolding plus ranked
more_unranks {k} {rank} {distance} U h cost a l = go (dec_lt rank top_rank)
  where
    go : Dec (rank < top_rank)
        → Unranks (suc k) (min top_rank (cost * distance_unit + (a * 4 ^ k * label_unit + 0) + rank)) (min unreached (cost + distance))
    go (yes i) =
        let p : 4 ^ suc k ≤ 4 ^ 8 = pow-le-pow_right (lit< tt) h in
        let e = pow-suc 4 k in
        let q : a * 4 ^ k ≤ 3 * 4 ^ k = mul-le-mul_right (4 ^ k) (omega arith) in
        let f = U.front in
        let r = U.low i in
        record { small = omega arith; front = omega arith; low = λ j. omega arith }
    go (no i) =
        let f = U.front in
        let s = U.small in
        record { small = omega arith; front = omega arith; low = λ j. absurd (omega arith) }

-- the lesser of two
min_unranks : {k x y d e : ℕ} → Unranks k x d → Unranks k y e → Unranks k (min x y) (min d e)
min_unranks {k} {x} {y} {d} {e} A B = go (dec_le x y)
  where
    f : x / distance_unit ≡ d
    f = A.front

    g : y / distance_unit ≡ e
    g = B.front

    go : Dec (x ≤ y) → Unranks k (min x y) (min d e)
    go (yes h) =
        let i : min x y ≡ x = omega arith in
        let j : min d e ≡ d = omega arith in
        rw (i, j) A
    go (no h) =
        let i : min x y ≡ y = omega arith in
        let j : min d e ≡ e = omega arith in
        rw (i, j) B

all_unrank : {A : Type 0} (k : ℕ) (F f : A → ℕ) (xs : List A) → ((x : A) → x ∈ xs → Unranks k (F x) (f x))
    → Unranks k (min_all top_rank F xs) (min_all unreached f xs)
unfolding min_all
all_unrank k F f [] h = top_unranks k
all_unrank k F f (x ∷ xs) h =
    min_unranks (h x (Memᴰ.head refl)) (all_unrank k F f xs (λ y m. h y (Memᴰ.tail m)))

-- ---- along the edges of a section

module _ {edges : ℕ → List Edge} {n goals : ℕ} (B : Bounded edges n goals) (short : n ≤ most_symbols) (cost : ℕ → ℕ → ℕ) {rest : ℕ → ℕ}
    (bound : (s : ℕ) → rest s ≤ unreached) {goal_of : ℕ → ℕ} (states : (g : ℕ) → g < goals → goal_of g < most_states) where
  -- what it costs to end in a goal, plain and ranked
  abbrev left_at : ℕ → ℕ
  left_at g = rest (goal_of g)

  abbrev number : ℕ → ℕ
  number g = ranked_left (left_at g) (goal_of g)

  abbrev rank_from : ℕ → ℕ → ℕ → ℕ
  rank_from k t v = section_least edges (ranked_cost n cost) top_rank number k t v

  abbrev cost_from : ℕ → ℕ → ℕ → ℕ
  cost_from k t v = section_least edges cost unreached left_at k t v

  -- an edge's symbol and what is behind it
  edge_unranks : (k t : ℕ) → t + suc k ≡ n → (e : Edge) → e.symbol < 4
      → Unranks k (rank_from k (suc t) e.to) (cost_from k (suc t) e.to)
      → Unranks (suc k) (across edges (ranked_cost n cost) top_rank number k t e) (across edges cost unreached left_at k t e)
  unfolding ranked_cost
  edge_unranks k t h e a U =
      let z : k ≡ n - suc t = omega arith in
      subst (λ j. Unranks (suc k) (plus top_rank (ranked (cost t e.symbol) (e.symbol * 4 ^ j) 0) (rank_from k (suc t) e.to))
      (across edges cost unreached left_at k t e)) z
      (more_unranks U (omega arith) (cost t e.symbol) e.symbol a)

  unranks : (k t v : ℕ) → t + k ≡ n → (k ≡ 0 → v < goals) → Unranks k (rank_from k t v) (cost_from k t v)
  unranks zero t v h g =
      rw (least_last edges (ranked_cost n cost) top_rank number t v, least_last edges cost unreached left_at t v)
      (left_unranks (left_at v) (goal_of v) (bound (goal_of v)) (states v (g refl)))
  unranks (suc k) t v h g =
      rw (least_step edges (ranked_cost n cost) top_rank number k t v, least_step edges cost unreached left_at k t v)
      (all_unrank (suc k) (across edges (ranked_cost n cost) top_rank number k t) (across edges cost unreached left_at k t)
      (leaving v (edges t))
      (λ e m. let i = listed_of v (edges t) e m in
      edge_unranks k t h e (B.symbol_lt t (omega arith) e i)
      (unranks k (suc t) e.to (omega arith) (λ z. B.goal_lt t (omega arith) e i))))

  -- the least rank has the least cost
  pub unranked : (k t v : ℕ) → t + k ≡ n → (k ≡ 0 → v < goals) → rank_from k t v / distance_unit ≡ cost_from k t v
  unranked k t v h g = (unranks k t v h g).front
