-- `sheet_input::measure` takes refusal 7 for a section's, whose counts stand in the sizes, and any other for the table's own.
use mathlib.Core.Path.{ap, ◌∙◌}
use Rattle.std.specs.Prelude.{Err}
use Rattle.sheet_input.proofs.Measuring.{measured_never, measured_refused, measured_accepted}
use Rattle.sheet_input.proofs.measure.Goals as goal

pub unreachable-requires : goal.unreachable-requires
unreachable-requires c = measured_never c.args.file.now c.requires c.measure-answer.ensures c.in-Ok.is

pub returns-in-ShortSection : goal.returns-in-ShortSection
returns-in-ShortSection c =
    measured_accepted c.args.file.now c.requires c.measure-answer.ensures (c.in-Err.is ∙ ap Err c.in-ShortSection.is)
    c.additions_of.ensures.0 c.selections_of.ensures.0

pub returns-in_default : goal.returns-in_default
returns-in_default c =
    measured_refused c.args.file.now c.requires c.measure-answer.ensures c.in-Err.is c.in_default.not-ShortSection c.returned.ensures
