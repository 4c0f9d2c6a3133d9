-- `path_list::list_paths` goes forward over the blocks, sorts what is kept and reads it out: the best paths of the frame.
use borrow.Author.Rules.{rules}
use native.Mathlib.Nat.{le_trans}
use Rattle.frame.proofs.Checks.{of_checked}
use Rattle.readout.proofs.Sorted.{sorted_placed}
use Rattle.path_list.proofs.Listed.{room_for, listed}
use Rattle.path_list.proofs.Held.{blank_noted, near}
use Rattle.path_list.proofs.list_paths.Goals as goal

pub keep_blocks-count-requires : goal.keep_blocks-count-requires
keep_blocks-count-requires c =
    (of_checked c.args.f.checked, c.requires.0, c.requires.1.some, c.requires.1.few, search rules, blank_noted)

pub read_paths-requires : goal.read_paths-requires
read_paths-requires c =
    let K = c.keep_blocks-count.ensures in (
      K.are.few,
      c.args.f.checked.framed.many,
      le_trans K.few c.requires.2,
      room_for _ K.few c.requires.3,
      room_for _ K.few c.requires.4,
      sorted_placed K.are c.sort-sorted.ensures,
      K.are.noted,
    )

pub returns : goal.returns
returns c =
    let C = c.args.f.checked in
    listed C.framed.many (near (of_checked C)) c.keep_blocks-count.ensures c.sort-sorted.ensures
    C.framed.some c.read_paths.ensures c.requires.2 c.requires.3 c.requires.4
