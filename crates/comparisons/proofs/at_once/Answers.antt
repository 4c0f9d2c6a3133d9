-- `comparisons::at_once`: of eight symbols, eight differ at most.
use lib.Dec.{lit<}
use Rattle.trellis.proofs.Comparing.{distance_most}
use Rattle.comparisons.proofs.at_once.Goals as goal

pub returns : goal.returns
returns c =
    let a = c.args in
    let compared = c.compare.ensures 8 (lit< tt) c.ranges.x.fits (lit< tt) in
    rw compared.distance_is (distance_most 8 a.x a.erased 6939)
