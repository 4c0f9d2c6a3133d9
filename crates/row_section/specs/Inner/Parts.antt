-- The parts of a section as arrays hold them, and its numbers one part behind another.
use Rattle.std.specs.Prelude.{◌≡◌, List, ◌++◌, ℕ, ◌*◌, ◌^◌, ◌≤◌, length, get_or}
use Rattle.trellis.specs.Bounds.{most_symbols, most_state_bits}
use Rattle.trellis.specs.Layout.{joined_up}
use Rattle.assemble.specs.Inner.Numbers.{first_numbers, size_numbers, length_by}
use Rattle.row_pieces.specs.Inner.Pieces.{edges_to, step_pairs, step_symbols}

-- its numbers as they stand in the arrays that hold its parts
unfoldable pub numbers_by : ℕ → ℕ → List ℕ → List ℕ → List ℕ → List ℕ → List ℕ → List ℕ → List ℕ
numbers_by s n dims counts steps roots goals edges =
    size_numbers 2 n (2 ^ s) counts steps
    ++ (first_numbers roots (get_or counts 0 0) ++ (first_numbers goals (get_or counts n 0)
    ++ (joined_up (step_pairs edges steps dims) n ++ joined_up (step_symbols edges steps dims) n)))

-- the parts fit together, and the buffer has room for them
pub record PartsAsked (s n : ℕ) (dims counts steps roots goals edges section : List ℕ) : Type 0 where
  pub bits : s ≤ most_state_bits
  pub symbols : n ≤ most_symbols
  pub dim_places : length dims ≡ 9
  pub count_places : length counts ≡ 9
  pub step_places : length steps ≡ 8
  pub short : (t : ℕ) → get_or dims t 0 ≤ 10
  pub root_places : length roots ≡ 16
  pub goal_places : length goals ≡ 16
  pub few_roots : get_or counts 0 0 ≤ 16
  pub few_goals : get_or counts n 0 ≤ 16
  pub inside : edges_to steps n ≤ length edges
  pub pairs_long : length (joined_up (step_pairs edges steps dims) n) ≡ 2 * edges_to steps n
  pub symbols_long : length (joined_up (step_symbols edges steps dims) n) ≡ edges_to steps n
  pub room : length_by n counts (edges_to steps n) ≤ length section
