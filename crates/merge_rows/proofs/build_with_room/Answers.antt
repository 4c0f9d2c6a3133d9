-- `merge_rows::build_with_room` refuses a file buffer or a map that is too short; with room for both, building asks for nothing more.
use Rattle.merge_rows.proofs.Entry.{map_small, short_file, short_map_lem, build_asked}
use borrow.Author.Rules.{rules}
use Rattle.merge_rows.proofs.build_with_room.Goals as goal

pub returns-then-file-size : goal.returns-then-file-size
returns-then-file-size c = short_file c.requires c.words_of-w.ensures.0 _ _ _ c.if-file-size.true

pub overflow_mul-needed : goal.overflow_mul-needed
overflow_mul-needed c =
    let h = map_small c.requires c.words_of-w.ensures.0 c.words_of-w.ensures.1 in
    search (rules, h)

pub returns-then-map-needed : goal.returns-then-map-needed
returns-then-map-needed c = short_map_lem c.requires c.words_of-w.ensures.0 _ _ _ c.if-file-size.false c.if-map-needed.true

pub build-requires : goal.build-requires
build-requires c = build_asked c.requires c.words_of-w.ensures.0 c.if-file-size.false c.if-map-needed.false
