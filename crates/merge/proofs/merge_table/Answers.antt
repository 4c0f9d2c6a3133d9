-- `merge::merge_table` lays the words of an accepted file into three slices, and its answer is theirs.
use native.Mathlib.Omega.{arith}
use mathlib.Core.Path.{refl}
use Rattle.merge.proofs.FileStage.{count_few, needed_fits, ends_map, words_asked, ends_words}
use Rattle.merge.proofs.merge_table.Goals as goal

pub overflow_mul-needed : goal.overflow_mul-needed
overflow_mul-needed c = omega (arith, needed_fits _ (c.requires.accepted, c.requires.counted) _ refl)

pub returns-then-map-needed : goal.returns-then-map-needed
returns-then-map-needed c = ends_map _ (c.requires.accepted, c.requires.counted) _ _ _ _ refl c.if-map-needed.true

pub copy_words-lists-requires : goal.copy_words-lists-requires
copy_words-lists-requires c = count_few _ (c.requires.accepted, c.requires.counted)

pub shared_ref_as_front-table : goal.shared_ref_as_front-table
shared_ref_as_front-table c = count_few _ (c.requires.accepted, c.requires.counted)

pub merge_words-requires : goal.merge_words-requires
merge_words-requires c =
    (words_asked _ (c.requires.accepted, c.requires.counted) c.copy_words-lists.ensures refl _ c.if-map-needed.false, c.requires.room)

pub returns : goal.returns
returns c =
    ends_words _ (c.requires.accepted, c.requires.counted) c.copy_words-lists.ensures refl _ _ _ _ _ _ _ c.if-map-needed.false
    c.merge_words.ensures
