-- What is paid and what is left to pay, from what the calls that read them promise: each read number takes its place in the definition.
use mathlib.Core.Path.{◌≡◌, ap, ap₂, ◌∙◌}
use mathlib.Core.List.{List}
use Prim.Native.Nat.{ℕ, ◌+◌, ◌-◌, ◌*◌, ◌/◌, ◌<◌}
use native.Mathlib.Omega.{arith}
use native.Mathlib.Numerals.{add-one}
use lib.ListN.{get_or}
use Rattle.paths.specs.Inner.Ranked.{distance_unit, PriceRoom}
use Rattle.dearest.specs.Inner.Items.{cost_unit, cost_in, code_in}
use Rattle.edges.specs.Inner.Edges.{meant_edge}
use Rattle.edges.specs.declared.Edge.{Edge}
use Rattle.codes.specs.Inner.Codes.{code_vertex}
use Rattle.least_rows.specs.Inner.Rows.{row_at}
use Rattle.totals.specs.Inner.Totals.{paid_for, total_of}

-- a rank that is no higher than that of no path has a distance of 32 bits
pub price_near : {prices : List ℕ} → PriceRoom prices → (i : ℕ) → get_or prices i 0 / distance_unit < 4294967296
price_near P i = omega (arith, P.small i)

module _ (rows : List ℕ) (t x : ℕ) {vertex ahead cost : ℕ} (v : vertex ≡ code_vertex (code_in x))
    (a : (ahead ≡ row_at rows t vertex) × (ahead < 4294967296)) (p : (cost ≡ cost_in x) × (cost < cost_unit)) where
  ahead_is : ahead ≡ row_at rows t (code_vertex (code_in x))
  ahead_is = a.0 ∙ ap (row_at rows t) v

  pub paid_is : {r : ℕ} → r ≡ cost - ahead → (r ≡ paid_for rows t x) × (r < 4294967296)
  unfolding paid_for
  paid_is e = (e ∙ ap₂ (λ m n. m - n) p.0 ahead_is, omega (arith, p.1))

pub total_is : (rows prices : List ℕ) (t paid : ℕ) (e : Edge) {price rest : ℕ}
    → (price ≡ get_or prices (4 * t + e.symbol) 0 / distance_unit) × (price < 4294967296)
    → (rest ≡ row_at rows (t + 1) e.to) × (rest < 4294967296) → paid + price + rest ≡ total_of rows prices t paid (meant_edge e)
unfolding total_of
total_is rows prices t paid e p r = ap₂ (λ m n. paid + m + n) p.0 (r.0 ∙ ap (λ j. row_at rows j e.to) (add-one t))
