-- `section_file::states::states_right` meets its contract: the root states decide, and else the goal states.
use Rattle.section_file.proofs.Reading.{roots_there, roots_wrong, goals_there, states_by_goals}
use Rattle.section_file.proofs.states.states_right.Goals as goal

pub is_rising-requires : goal.is_rising-requires
is_rising-requires c = roots_there _ c.requires c.number-states.ensures c.number.ensures c.from.ensures

pub returns-else-is_rising : goal.returns-else-is_rising
returns-else-is_rising c =
    roots_wrong _ c.requires c.number-states.ensures c.number.ensures c.from.ensures c.is_rising.ensures c.if-is_rising.false

pub is_rising-requires-then-is_rising : goal.is_rising-requires-then-is_rising
is_rising-requires-then-is_rising c =
    goals_there _ c.requires c.number-states.ensures c.number-then-is_rising.ensures c.from-then-is_rising.ensures

pub returns-then-is_rising : goal.returns-then-is_rising
returns-then-is_rising c =
    states_by_goals _ c.requires c.number-states.ensures c.number.ensures c.from.ensures c.is_rising.ensures c.if-is_rising.true
    c.number-then-is_rising.ensures c.from-then-is_rising.ensures c.is_rising-then-is_rising.ensures
