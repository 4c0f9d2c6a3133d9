-- What an item stands for at depth t of a section: the place of the beginning that entered, its symbols so far, its vertex, and what is
-- paid for it.
use Rattle.std.specs.Prelude.{◌≡◌, List, ℕ, suc, ◌+◌, ◌-◌, ◌*◌, ◌/◌, ◌^◌, ◌≤◌, ◌<◌, get_or}
use Rattle.trellis.specs.Bounds.{most_symbols, most_words}
use Rattle.trellis.specs.Lists.{◌∈◌}
use Rattle.trellis.specs.Own.{Edge}
use Rattle.paths.specs.Chain.{unreached}
use Rattle.paths.specs.Inner.Ranked.{distance_unit}
use Rattle.paths.specs.Inner.Sections.{section_least}
use Rattle.ranking.specs.Inner.Growth.{Start, start}
use Rattle.ranking.specs.Inner.Block.{Label}
use Rattle.dearest.specs.Inner.Items.{cost_in, code_in}
use Rattle.codes.specs.Inner.Codes.{code_root, code_vertex, code_label}
use Rattle.least_rows.specs.Inner.Rows.{row_at}
use Rattle.totals.specs.Inner.Totals.{paid_for}

unfoldable pub opened : List ℕ → ℕ → ℕ → Start (Label ℕ)
opened rows t x =
    start (record { of = code_root (code_in x); label = code_label (code_in x) }) (code_vertex (code_in x)) (paid_for rows t x)

-- the rows hold the least costs of the section, and the prices what its symbols cost
pub record Fitted (edges : ℕ → List Edge) (n : ℕ) (counts : ℕ → ℕ) (cost : ℕ → ℕ → ℕ) (number : ℕ → ℕ) (rows prices : List ℕ)
    : Type 0 where
  pub short : n ≤ most_symbols
  pub row_is : (u v : ℕ) → u ≤ n → v < counts u → row_at rows u v ≡ section_least edges cost unreached number (n - u) u v
  pub price_is : (t a : ℕ) → t < n → a < 4 → get_or prices (4 * t + a) 0 / distance_unit ≡ cost t a
  pub symbol_lt : (t : ℕ) → t < n → (e : Edge) → e ∈ edges t → e.symbol < 4
  pub to_lt : (t : ℕ) → t < n → (e : Edge) → e ∈ edges t → e.to < counts (suc t)
  pub counts_le : (t : ℕ) → t ≤ n → counts t ≤ most_words

-- an item of depth t that comes of one of the first `have` beginnings
pub record Item (counts : ℕ → ℕ) (rows : List ℕ) (have t x : ℕ) : Type 0 where
  pub low : cost_in x < unreached
  pub within : code_vertex (code_in x) < counts t
  pub spelled : code_label (code_in x) < 4 ^ t
  pub of : code_root (code_in x) < have
  pub paid : row_at rows t (code_vertex (code_in x)) ≤ cost_in x
