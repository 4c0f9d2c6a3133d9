-- The derived order of the code's edges is the theory's, so the test of an edge against the edge before it is the definition's;
-- and an edge that is read is within bounds.
use mathlib.Core.Path.{◌≡◌, refl, ◌∙◌}
use mathlib.Core.Bool.{Bool, true, false, ◌&&◌}
use mathlib.Core.List.{List}
use Prim.Native.Nat.{ℕ, zero, suc, ◌-◌, ◌<◌}
use native.Mathlib.Omega.{arith}
use lib.Dec.{ltb, eqb}
use Rattle.trellis.specs.Bounds.{most_words, most_q}
use Rattle.trellis.specs.Lists.{lower}
use Rattle.trellis.specs.Own as own
use Rattle.edges.specs.Inner.Edges.{above, edge_in, held_edge, meant_edge, EdgesSmall}
use Rattle.edges.specs.declared.Edge.{Edge}
use Rattle.edges.specs.contracts.EdgePartialOrd.TheImpl.{partial_cmp-value}
use Rattle.std.proofs.Common.{Less, Equal, Greater}
use Rattle.std.specs.Ordering.{is_lt, is_some_and, partial_ordering_then, partial_lt}
use Rattle.std.specs.Prelude.{cond, ◌||◌, Some}

-- the order of the code's edges, field by field, is the theory's
by_fields : (p q r s t u : Bool)
    → is_some_and is_lt (partial_ordering_then (Some (cond p Less (cond q Equal Greater)))
    (partial_ordering_then (Some (cond r Less (cond s Equal Greater))) (Some (cond t Less (cond u Equal Greater)))))
    ≡ (p || (q && (r || (s && t))))
by_fields true q r s t u = refl
by_fields false false r s t u = refl
by_fields false true true s t u = refl
by_fields false true false false t u = refl
by_fields false true false true true u = refl
by_fields false true false true false true = refl
by_fields false true false true false false = refl

less_is : (e f : Edge) → partial_lt partial_cmp-value.it e f ≡ own.edge_less (meant_edge e) (meant_edge f)
unfolding lower
less_is e f =
    by_fields (ltb e.from f.from) (eqb e.from f.from) (ltb e.symbol f.symbol) (eqb e.symbol f.symbol) (ltb e.to f.to) (eqb e.to f.to)

module _ (pairs symbols : List ℕ) where
  pub first_above : (k : ℕ) → k ≡ 0 → above (edge_in pairs symbols) k ≡ true
  unfolding above
  first_above k e = rw e

  pub next_above : (k : ℕ) {e f : Edge} {b : Bool} → (k ≡ 0 → ⊥) → e ≡ held_edge (edge_in pairs symbols (k - 1))
      → f ≡ held_edge (edge_in pairs symbols k) → b ≡ partial_lt partial_cmp-value.it e f → b ≡ above (edge_in pairs symbols) k
  unfolding above
  next_above zero h d g i = absurd (h refl)
  next_above (suc k) {e} {f} h d g i = let q : suc k - 1 ≡ k = omega arith in i ∙ less_is e f ∙ rw (d, g, q)

-- an edge that is read is within the bounds that all are in
pub record EdgeSmall (e : Edge) : Type 0 where
  pub from_in : e.from < most_words
  pub symbol_in : e.symbol < most_q
  pub to_in : e.to < most_words

pub edge_small : {pairs symbols : List ℕ} {count k : ℕ} {e : Edge} → EdgesSmall pairs symbols count → k < count
    → e ≡ held_edge (edge_in pairs symbols k) → EdgeSmall e
edge_small {k = k} s h d = rw d (record { from_in = s.from_small k h; symbol_in = s.symbol_small k h; to_in = s.to_small k h })
