-- `word_file::put_sizes` meets its contract: five bytes, one behind another.
use Rattle.word_file.proofs.Writing.{sizes_put}
use Rattle.word_file.proofs.put_sizes.Goals as goal

pub returns : goal.returns
returns c =
    let a =
    c.args in
    sizes_put a.file.now a.s.now a.count c.byte_at.ensures c.byte_at-2.ensures c.byte_at-3.ensures
    c.byte.ensures c.byte-2.ensures
