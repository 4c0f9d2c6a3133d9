-- One section: its paths are those of its graph, so the numbers `section_least` are the least costs of all paths from a vertex, and
-- `section_trace` is the first path of least cost. All of it is the law of graphs, read for a section.
use mathlib.Core.Path.{◌≡◌, refl, sym, ap, ◌∙◌}
use mathlib.Core.List.{List, [], ◌∷◌, map, flat_map}
use Prim.Native.Nat.{ℕ, zero, suc, ◌+◌, ◌<◌}
use lib.Dec.{eqb, eqb→eq}
use Rattle.trellis.specs.Lists.{◌∈◌}
use Rattle.trellis.specs.Own.{Edge}
use Rattle.trellis.specs.Section.{Path, stop, along, leaving, paths_from}
use Rattle.paths.specs.Choice.{Choice, some}
use Rattle.paths.specs.Inner.Costs.{plus, min_all, least, trace}
use Rattle.paths.specs.Inner.Sections.{section_graph, edge_cost, section_least}
use Rattle.paths.proofs.Choose.{choose_none, extend_extend, extend, choose_all}
use Rattle.paths.proofs.Ordered.{of_keep}
use Rattle.paths.proofs.Walk.{Prices, ahead, ahead_best, paths}
use Rattle.paths.proofs.Capped.{capped_keep, least_ahead, capped}
use Rattle.paths.proofs.Trace.{trace_best, extended}

-- the cost of a path's symbols, the first of them at step t
unfoldable pub cost_from : (ℕ → ℕ → ℕ) → ℕ → List ℕ → ℕ
cost_from cost t [] = 0
cost_from cost t (a ∷ rest) = cost t a + cost_from cost (suc t) rest

-- the path that the section's numbers name, edge by edge
unfoldable pub section_trace : (ℕ → List Edge) → (ℕ → ℕ → ℕ) → ℕ → (ℕ → ℕ) → ℕ → ℕ → ℕ → Path
section_trace edges cost top number k t v = trace (section_graph edges) (edge_cost cost) top number stop k t v

-- the edges that leave a vertex are listed, and start there
pub from_of : (v : ℕ) (es : List Edge) (e : Edge) → e ∈ leaving v es → e.from ≡ v
unfolding leaving
from_of v es e m = eqb→eq e.from v (of_keep (λ x. eqb x.from v) es e m).passes

pub listed_of : (v : ℕ) (es : List Edge) (e : Edge) → e ∈ leaving v es → e ∈ es
unfolding leaving
listed_of v es e m = (of_keep (λ x. eqb x.from v) es e m).listed

-- the paths of the graph
pub paths_are : (edges : ℕ → List Edge) (k t v : ℕ) → paths (section_graph edges) k t v ≡ paths_from edges k t v
unfolding paths paths_from
paths_are edges zero t v = refl
paths_are edges (suc k) t v =
    ap (λ (f : ℕ → List Path). flat_map (λ e. map (along e) (f e.to)) (leaving v (edges t))) (λ i u. paths_are edges k (suc t) u i)

-- what a path offers: `final v` for ending in v
unfoldable pub path_offer : (ℕ → ℕ → ℕ) → (ℕ → Choice (Unit {0})) → ℕ → Path → Choice Path
path_offer cost final t p = extend (cost_from cost t p.symbols) (λ u. p) (final p.end)

offer_more : (cost : ℕ → ℕ → ℕ) (final : ℕ → Choice (Unit {0})) (t : ℕ) (e : Edge) (p : Path)
    → path_offer cost final t (along e p) ≡ extend (cost t e.symbol) (along e) (path_offer cost final (suc t) p)
unfolding path_offer cost_from
offer_more cost final t e p =
    sym (extend_extend (cost_from cost (suc t) p.symbols) (cost t e.symbol) (λ u. p) (along e) (final p.end))

unfoldable section_prices : (edges : ℕ → List Edge) → (ℕ → ℕ → ℕ) → (ℕ → Choice (Unit {0})) → Prices (section_graph edges)
section_prices edges cost final = record { cost = edge_cost cost; offer = path_offer cost final; more = offer_more cost final }

module _ (edges : ℕ → List Edge) (cost : ℕ → ℕ → ℕ) (final : ℕ → Choice (Unit {0})) where
  last_is : (t v : ℕ) → ahead (section_prices edges cost final) zero t v ≡ extend 0 (λ u. stop v) (final v)
  unfolding ahead section_prices path_offer cost_from choose_all
  last_is t v = choose_none _

  ahead_is : (k t v : ℕ) → ahead (section_prices edges cost final) k t v ≡ choose_all (path_offer cost final t) (paths_from edges k t v)
  unfolding section_prices
  ahead_is k t v = ahead_best (section_prices edges cost final) k t v ∙ ap (choose_all (path_offer cost final t)) (paths_are edges k t v)

  module _ (top : ℕ) (number : ℕ → ℕ) (is : (v : ℕ) → number v ≡ capped top (final v)) where
    last_number : (t v : ℕ) → number v ≡ capped top (ahead (section_prices edges cost final) zero t v)
    last_number t v = is v ∙ sym (ap (capped top) (last_is t v) ∙ capped_keep top (λ u. stop v) (final v))

    -- the number is the least cost of all paths
    pub section_least_lem : (k t v : ℕ)
        → section_least edges cost top number k t v ≡ capped top (choose_all (path_offer cost final t) (paths_from edges k t v))
    unfolding section_least section_prices
    section_least_lem k t v = least_ahead top (section_prices edges cost final) number last_number k t v ∙ ap (capped top) (ahead_is k t v)

    -- and the path that the numbers name is the first of least cost
    pub section_trace_lem : (k t v : ℕ) {c : ℕ} {p : Path} → choose_all (path_offer cost final t) (paths_from edges k t v) ≡ some c p → c < top
        → section_trace edges cost top number k t v ≡ p
    unfolding section_trace section_prices
    section_trace_lem k t v e h = trace_best (section_prices edges cost final) top number last_number stop stopped k t v (ahead_is k t v ∙ e) h
      where
        stopped : (u w d : ℕ) (q : Path) → ahead (section_prices edges cost final) zero u w ≡ some d q → stop w ≡ q
        stopped u w d q o = sym (extended 0 (λ x. stop w) (final w) (sym (last_is u w) ∙ o)).path_is

-- ---- one step

module _ (edges : ℕ → List Edge) (cost : ℕ → ℕ → ℕ) (top : ℕ) (number : ℕ → ℕ) where
  -- what an edge of step t gives, with k steps behind it
  abbrev pub across : ℕ → ℕ → Edge → ℕ
  across k t e = plus top (cost t e.symbol) (section_least edges cost top number k (suc t) e.to)

  pub least_last : (t v : ℕ) → section_least edges cost top number zero t v ≡ number v
  unfolding section_least least
  least_last t v = refl

  pub least_step : (k t v : ℕ) → section_least edges cost top number (suc k) t v ≡ min_all top (across k t) (leaving v (edges t))
  unfolding section_least least
  least_step k t v = refl
