-- Vertices that edges meet, and twins, over functions: e k is edge k of a step, as it stands or turned round.
use Rattle.std.specs.Prelude.{◌≡◌, Bool, true, false, not, ◌&&◌, List, ℕ, ◌<◌, eqb, length, get_or}
use Rattle.trellis.specs.Bounds.{most_words}
use Rattle.trellis.specs.Lists.{one_if, any, all}
use Rattle.trellis.specs.Own.{Edge, edge}
use Rattle.edges.specs.Inner.Edges.{edge_in}

-- an edge as it stands, or with from and to in each other's place
abbrev pub turned : Bool → Edge → Edge
turned false e = e
turned true e = edge e.to e.symbol e.from

abbrev pub turned_in : Bool → List ℕ → List ℕ → ℕ → Edge
turned_in back pairs symbols k = turned back (edge_in pairs symbols k)

-- a mark for each vertex that f takes below count
pub record Marks (f : ℕ → ℕ) (count : ℕ) (marks : List ℕ) : Type 0 where
  pub long : length marks ≡ most_words
  pub marked : (v : ℕ) → v < most_words → get_or marks v 0 ≡ one_if (any (λ k. eqb (f k) v) count)

-- each number below vertices is f k for some k below count
unfoldable pub covered : (ℕ → ℕ) → ℕ → ℕ → Bool
covered f count vertices = all (λ v. any (λ k. eqb (f k) v) count) vertices

-- edges j and k do not share a symbol and the vertex at one end where they differ in the vertex at the other end
unfoldable pub apart : (ℕ → ℕ) → (ℕ → ℕ) → (ℕ → ℕ) → ℕ → ℕ → Bool
apart one symbol other j k = not (eqb (one j) (one k) && (eqb (symbol j) (symbol k) && not (eqb (other j) (other k))))

-- no two of the vertices at the other end are twins: joined by the same symbol to the same vertex at the one end
unfoldable pub no_twins : (ℕ → ℕ) → (ℕ → ℕ) → (ℕ → ℕ) → ℕ → Bool
no_twins one symbol other count = all (λ k. all (λ j. apart one symbol other j k) k) count

-- the same of edges, at their ends
abbrev pub no_twins_of : (ℕ → Edge) → ℕ → Bool
no_twins_of e count = no_twins (λ k. (e k).from) (λ k. (e k).symbol) (λ k. (e k).to) count
