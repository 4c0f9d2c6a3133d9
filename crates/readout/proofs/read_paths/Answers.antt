-- One turn is `paths-more`, cited with what the functions on slots and `read_path` promise. The next path begins where r · blocks words are
-- written, so it has room and its place is small (`paths-room`, `paths-near`).
use borrow.Author.Rules.{rules}
use mathlib.Core.Path.{refl, ◌∙◌, ap}
use native.Mathlib.Omega.{arith}
use Rattle.codes.specs.Inner.Codes.{code_root}
use Rattle.readout.proofs.Paths.{paths_start, paths_room, paths_near, paths_more, paths_all}
use Rattle.readout.proofs.read_paths.Goals as goal

pub loop-r-init : goal.loop-r-init
loop-r-init c = paths_start

pub bounds-distances-r : goal.bounds-distances-r
bounds-distances-r c =
    let p = c.requires in
    omega (arith, c.loop-r.invariant.so_far.long_distances, p.2, c.loop-r-test.true)

pub read_path-requires : goal.read_path-requires
read_path-requires c =
    let p = c.requires in
    let I = c.loop-r.invariant in
    let h = c.loop-r-test.true in (
      p.1,
      omega (arith, p.5.at c.loop-r.r h, c.root_of.ensures ∙ ap code_root c.code_of.ensures),
      paths_near I h p.0 p.1,
      omega (arith, paths_room I h p.3, I.so_far.long_labels),
      omega (arith, paths_room I h p.4, I.so_far.long_goals),
      p.6,
    )

pub overflow_add-at : goal.overflow_add-at
overflow_add-at c =
    let p = c.requires in
    omega (arith, paths_near c.loop-r.invariant c.loop-r-test.true p.0 p.1, p.1)

pub loop-r-preserved : goal.loop-r-preserved
loop-r-preserved c =
    let p = c.requires in
    paths_more c.loop-r.invariant c.loop-r-test.true p.2 refl c.distance_of.ensures
    c.code_of.ensures c.root_of.ensures c.read_path.ensures

pub returns : goal.returns
returns c = paths_all c.loop-r.invariant (search rules)
