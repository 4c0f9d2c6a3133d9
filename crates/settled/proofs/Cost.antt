-- The sum that the code works out is the cost of the definition, and fits where that does.
use mathlib.Core.Path.{◌≡◌, ap}
use mathlib.Core.List.{List}
use Prim.Native.Nat.{ℕ, ◌+◌, ◌-◌, ◌/◌, ◌%◌, ◌≤◌, ◌<◌}
use native.Mathlib.Omega.{arith}
use lib.ListN.{get_or}
use Rattle.paths.specs.Chain.{unreached}
use Rattle.paths.specs.Inner.Ranked.{distance_unit, note_cycle, note_goal}
use Rattle.settled.specs.Inner.Cost.{settled_cost}

-- as the code has it
pub settled_by : (behind : List ℕ) (note : ℕ) {goal : ℕ} → goal ≡ note_goal note
    → get_or behind goal 0 + (note / distance_unit + note_cycle - get_or behind goal 0 % note_cycle) % note_cycle ≡ settled_cost behind note
unfolding settled_cost
settled_by behind note g = ap (λ x. get_or behind x 0 + (note / distance_unit + note_cycle - get_or behind x 0 % note_cycle) % note_cycle) g

pub settled_fits : (behind : List ℕ) (note : ℕ) → settled_cost behind note ≤ unreached → {goal : ℕ} → goal ≡ note_goal note
    → get_or behind goal 0 + (note / distance_unit + note_cycle - get_or behind goal 0 % note_cycle) % note_cycle < 4294967296
settled_fits behind note O g = let e = settled_by behind note g in omega arith
