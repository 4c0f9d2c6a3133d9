-- `row_map::put_map` puts the inner depths, then depth 0 and depth n by the rows' states, and sets their dimensions: what stands then is
-- the whole map, as `Whole` says.
use Rattle.row_map.proofs.Whole.{lent_length, root_asked, goal_asked, dims_few, map_put}
use Rattle.row_map.proofs.put_map.Goals as goal

pub slice_bounds-put_outer-end : goal.slice_bounds-put_outer-end
slice_bounds-put_outer-end c = lent_length c.requires c.roots_of-roots.ensures

pub put_outer-first-requires : goal.put_outer-first-requires
put_outer-first-requires c = root_asked c.requires c.put_inner-dims.ensures c.roots_of-roots.ensures

pub slice_bounds-put_outer-end-2 : goal.slice_bounds-put_outer-end-2
slice_bounds-put_outer-end-2 c = lent_length c.requires c.goals_of-goals.ensures

pub put_outer-last-requires : goal.put_outer-last-requires
put_outer-last-requires c =
    goal_asked c.requires c.put_inner-dims.ensures c.roots_of-roots.ensures c.put_outer-first.ensures
    c.goals_of-goals.ensures

pub counts_of-counts-requires : goal.counts_of-counts-requires
counts_of-counts-requires c =
    dims_few c.requires c.put_inner-dims.ensures c.roots_of-roots.ensures c.put_outer-first.ensures
    c.goals_of-goals.ensures c.put_outer-last.ensures

pub returns : goal.returns
returns c =
    map_put c.requires c.put_inner-dims.ensures c.roots_of-roots.ensures c.put_outer-first.ensures
    c.goals_of-goals.ensures c.put_outer-last.ensures c.counts_of-counts.ensures
