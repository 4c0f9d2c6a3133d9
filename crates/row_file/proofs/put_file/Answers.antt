-- `row_file::put_file` meets its contract: once both arrays are filled they hold the words and their labels (`arrays`), so the three
-- pieces, one behind another, are the file.
use mathlib.Core.Path.{refl, sym}
use native.Mathlib.Omega.{arith}
use lib.ListN.{length}
use lib.Pow.{pow_mono}
use borrow.Author.Rules.{rules}
use Rattle.row_file.proofs.Whole.{parts_length, filled, words_length, labels_length, words_narrow, states_room, states_end}
use Rattle.row_file.proofs.Whole.{labels_room, whole}
use Rattle.row_file.proofs.put_file.Goals as goal

pub put_sums-count-requires : goal.put_sums-count-requires
put_sums-count-requires c = (c.requires.few, omega (arith, pow_mono {i = length c.args.rows.now} {j = 10} c.requires.few))

pub slice_bounds-put_sums-end-2 : goal.slice_bounds-put_sums-end-2
slice_bounds-put_sums-end-2 c =
    let a = c.args in
    sym (parts_length a.rows.now a.bits a.n c.labels_of-parts.ensures)

pub put_sums-requires : goal.put_sums-requires
put_sums-requires c =
    let a = c.args in
    let e = parts_length a.rows.now a.bits a.n c.labels_of-parts.ensures in
    rw e (c.requires.few, omega (arith, pow_mono {i = length a.rows.now} {j = 10} c.requires.few))

pub put_sizes-requires : goal.put_sizes-requires
put_sizes-requires c =
    let F = filled _ _ _ c.labels_of-parts.ensures c.requires refl refl c.put_sums-count.ensures c.put_sums.ensures in
    search (rules, F)

pub slice_bounds-words-end : goal.slice_bounds-words-end
slice_bounds-words-end c =
    let F = filled _ _ _ c.labels_of-parts.ensures c.requires refl refl c.put_sums-count.ensures c.put_sums.ensures in
    search (rules, F)

pub slice_bounds-put_states-end : goal.slice_bounds-put_states-end
slice_bounds-put_states-end c =
    let F = filled _ _ _ c.labels_of-parts.ensures c.requires refl refl c.put_sums-count.ensures c.put_sums.ensures in
    sym (words_length F)

pub put_states-at-requires : goal.put_states-at-requires
put_states-at-requires c =
    let F = filled _ _ _ c.labels_of-parts.ensures c.requires refl refl c.put_sums-count.ensures c.put_sums.ensures in
    let A = c.requires in
    (words_narrow F A, A.states, A.symbols, search (rules, words_length F, F), states_room F A c.put_sizes.ensures)

pub slice_bounds-labels-end : goal.slice_bounds-labels-end
slice_bounds-labels-end c =
    let F = filled _ _ _ c.labels_of-parts.ensures c.requires refl refl c.put_sums-count.ensures c.put_sums.ensures in
    search (rules, F)

pub slice_bounds-put_labels-end : goal.slice_bounds-put_labels-end
slice_bounds-put_labels-end c =
    let F = filled _ _ _ c.labels_of-parts.ensures c.requires refl refl c.put_sums-count.ensures c.put_sums.ensures in
    sym (labels_length F)

pub put_labels-requires : goal.put_labels-requires
put_labels-requires c =
    let F = filled _ _ _ c.labels_of-parts.ensures c.requires refl refl c.put_sums-count.ensures c.put_sums.ensures in
    let A = c.requires in (
      search (rules, states_end F A c.put_sizes.ensures c.put_states-at.ensures, F),
      search (rules, labels_length F, F),
      labels_room F A c.put_sizes.ensures c.put_states-at.ensures,
    )

pub returns : goal.returns
returns c =
    let F = filled _ _ _ c.labels_of-parts.ensures c.requires refl refl c.put_sums-count.ensures c.put_sums.ensures in
    let A = c.requires in
    whole F A c.put_sizes.ensures c.put_states-at.ensures c.put_labels.ensures
