-- `listing::put_answer` puts the sizes where the answer is refusal 7, and else the line of the refusal.
use mathlib.Core.Path.{ap, ◌∙◌}
use Rattle.std.specs.Prelude.{Err}
use Rattle.listing.proofs.Answering.{section_answered, sizes_answered, refusal_answered}
use Rattle.listing.proofs.put_answer.Goals as goal

pub returns-in-Ok : goal.returns-in-Ok
returns-in-Ok c = section_answered _ _ c.in-Ok.is (c.put_refusal.ensures _ c.returned-returned.ensures)

pub returns-in-ShortSection : goal.returns-in-ShortSection
returns-in-ShortSection c = sizes_answered _ _ (c.in-Err.is ∙ ap Err c.in-ShortSection.is) c.put_sizes.ensures

pub returns-in_default : goal.returns-in_default
returns-in_default c = refusal_answered _ _ c.in-Err.is c.in_default.not-ShortSection (c.put_refusal-in_default.ensures _ c.returned-returned.ensures)
