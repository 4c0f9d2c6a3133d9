-- `word_file::put_file` meets its contract: the three pieces, one behind another, are the file.
use native.Mathlib.Omega.{arith}
use Rattle.word_file.proofs.Writing.{pairs_end, labels_room, file_put}
use borrow.Author.Rules.{rules}
use Rattle.word_file.proofs.put_file.Goals as goal

pub put_labels-requires : goal.put_labels-requires
put_labels-requires c =
    let x = c.args in let q = c.requires in (
      omega (arith, pairs_end x.s.now x.goals.now x.codes.now x.count (search rules) c.put_pairs-at.ensures),
      search rules,
      labels_room x.s.now x.goals.now x.codes.now x.count (search rules) (search rules) c.put_sizes.ensures
          c.put_pairs-at.ensures,
      search rules,
    )

pub returns : goal.returns
returns c =
    let x = c.args in
    file_put x.s.now x.goals.now x.codes.now x.count (search rules) (search rules) (search rules) c.put_sizes.ensures
    c.put_pairs-at.ensures c.put_labels.ensures
