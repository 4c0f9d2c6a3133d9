-- Where the edges of a step stand, as a loop over the steps finds it: behind the edges of the steps before. The section is near and whole,
-- so the places and the sums that lead to the next ones are small.
use mathlib.Core.Path.{◌≡◌, refl, ap, ◌∙◌}
use mathlib.Core.List.{List}
use Prim.Native.Nat.{ℕ, ◌+◌, ◌-◌, ◌*◌, ◌≤◌, ◌<◌}
use native.Mathlib.Omega.{arith}
use native.Mathlib.Nat.{le_of_lt}
use native.Mathlib.Numerals.{add-one}
use lib.ListN.{length, get_or}
use Rattle.trellis.specs.Lists.{run}
use Rattle.trellis.specs.Layout.{n_of, edge_count_of, edges_before, pairs_place, symbols_place, step_edges}
use Rattle.trellis.proofs.Laid.{before_none, before_more}
use Rattle.edges.specs.Inner.Edges.{edge_in}
use Rattle.section_file.specs.Inner.View.{Seen}
use Rattle.section_file.specs.declared.View.{View}
use Rattle.section_file.proofs.Seen.{Viewed, viewed, parts, Near, near_of, laid_of, before_in}
use Rattle.whole_section.specs.Inner.StepAt.{part_from, StepAt}
use Rattle.whole_section.proofs.Sections.{step_edges_lem, step_in}

pub twice_near : (count : ℕ) → count < 65536 → 2 * count < 200000
twice_near count h = omega arith

pub next_less : (n t : ℕ) → t < n → n - (t + 1) < n - t
next_less n t h = omega arith

-- the pairs and the symbols of the edges of step t begin at these places
pub record StepPlaces (s : List ℕ) (pairs symbols t : ℕ) : Type 0 where
  pub pairs_at : pairs ≡ pairs_place s + 2 * edges_before s t
  pub symbols_at : symbols ≡ symbols_place s + edges_before s t

module _ {s : List ℕ} {at : View} (S : Seen s at) where
  at_is : Viewed s at
  at_is = viewed S.is

  near : Near s at
  near = near_of (laid_of S)

  pub places_start : StepPlaces s at.pairs at.symbols 0
  places_start = record {
    pairs_at = omega (arith, at_is.pairs_is, before_none s);
    symbols_at = omega (arith, at_is.symbols_is, before_none s);
  }

  pub counts_near : 4 + at.n < 13
  counts_near = omega (arith, near.steps_few)

  module _ {t : ℕ} (h : t < at.n) where
    pub count_near : 4 + at.n + t < 21
    count_near = omega (arith, near.steps_few)

    pub count_in : 4 + at.n + t < length s
    count_in = let N = near in let v = at_is in omega (arith, (parts s).roots_at)

    pub next_near : t + 1 < 21
    next_near = omega (arith, near.steps_few)

  module _ {pairs symbols t : ℕ} (p : StepPlaces s pairs symbols t) (h : t < at.n) where
    deep : t < n_of s
    deep = omega (arith, at_is.n_is)

    before_among : edges_before s t ≤ at.edges
    before_among = before_in (laid_of S) (le_of_lt h) refl

    pairs_first : pairs ≤ at.symbols
    pairs_first = omega (arith, near.pairs_to, p.pairs_at, at_is.pairs_is, before_among)

    symbols_first : symbols ≤ at.end
    symbols_first = omega (arith, near.symbols_to, p.symbols_at, at_is.symbols_is, before_among)

    module _ {y count : ℕ} (y_is : y ≡ get_or s (4 + at.n + t) 0) (count_is_lem : (count ≡ y) × (count < 65536)) where
      pub pairs_near : pairs + 2 * count < 200000
      pairs_near = omega (arith, pairs_first, near.symbols_to, near.end_near, count_is_lem.1)

      pub symbols_near : symbols + count < 200000
      symbols_near = omega (arith, symbols_first, near.end_near, count_is_lem.1)

      edges_count : count ≡ edge_count_of s t
      unfolding edge_count_of
      edges_count = count_is_lem.0 ∙ y_is ∙ ap (λ m. get_or s (4 + m + t) 0) at_is.n_is

      pub step_at : StepAt s pairs symbols count
      step_at = record {
        pairs_in = omega (arith, pairs_first, near.symbols_to, near.end_in);
        symbols_in = omega (arith, symbols_first, near.end_in);
        edges = step_in S.sound t deep p.pairs_at p.symbols_at edges_count;
      }

      pub edges_are : run (edge_in (part_from pairs s) (part_from symbols s)) 0 count ≡ step_edges s t
      edges_are = step_edges_lem S.sound t deep p.pairs_at p.symbols_at edges_count

      pub places_next : StepPlaces s (pairs + 2 * count) (symbols + count) (t + 1)
      places_next = record {
        pairs_at = rw (add-one t) (omega (arith, p.pairs_at, edges_count, before_more s t));
        symbols_at = rw (add-one t) (omega (arith, p.symbols_at, edges_count, before_more s t));
      }
