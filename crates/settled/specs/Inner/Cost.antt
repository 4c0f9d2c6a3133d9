-- The costs behind a block are known, and a block adds less than `note_cycle` to them; so the remainder by it that a note has tells what
-- the block adds.
use Rattle.std.specs.Prelude.{List, ℕ, ◌+◌, ◌-◌, ◌/◌, ◌%◌, get_or}
use Rattle.paths.specs.Inner.Ranked.{distance_unit, note_cycle, note_goal}

-- the cost of which a note has the remainder
unfoldable pub settled_cost : List ℕ → ℕ → ℕ
settled_cost behind note =
    get_or behind (note_goal note) 0 + (note / distance_unit + note_cycle - get_or behind (note_goal note) 0 % note_cycle) % note_cycle
