-- `merge_words::merge_words` fills the inner rows, and then refuses at the first depth that is not rectangular, or finishes.
use mathlib.Core.Path.{refl}
use Rattle.merge_words.proofs.InnerStage.{inner_asked, inside, ends_written, refused, ends_refused}
use Rattle.merge_words.proofs.merge_words.Goals as goal

pub merge_inner-requires : goal.merge_inner-requires
merge_inner-requires c = inner_asked c.requires.0 refl

pub refuse-requires : goal.refuse-requires
refuse-requires c = refused c.requires.0 c.merge_inner.ensures c.in-Some.is

pub returns-in-Some : goal.returns-in-Some
returns-in-Some c = ends_refused c.requires.0 c.merge_inner.ensures _ _ _ _ c.in-Some.is c.refuse.ensures

pub finish-requires : goal.finish-requires
finish-requires c = (inside c.requires.0 c.merge_inner.ensures c.in_default.is, c.requires.1)

pub returns : goal.returns
returns c = ends_written c.requires.0 c.merge_inner.ensures _ _ _ _ c.in_default.is c.finish.ensures
