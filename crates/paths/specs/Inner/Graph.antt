-- Any graph of steps: a section from depth to depth, a chain from block to block. E are its edges, P its paths.
use Rattle.std.specs.Prelude.{List, ℕ}

-- `out t v` are the edges that leave vertex v at step t, in their order, and `to e` is where e leads.
-- `onto e p` is the path p with e in front. `ends v` are the paths from v with no step left: the end condition.
pub record Graph (E P : Type 0) : Type 0 where
  pub out : ℕ → ℕ → List E
  pub to : E → ℕ
  pub onto : E → P → P
  pub ends : ℕ → List P
