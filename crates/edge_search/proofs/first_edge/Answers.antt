-- `edge_search::first_edge` meets its contract: a guess that passes the test is the first, and else the search finds it. A wrong guess
-- costs time only, so nothing is asked of it but to be small.
use mathlib.Core.Path.{sym, ◌∙◌}
use Rattle.edge_search.proofs.FirstEdges.{guess_near, first_is}
use borrow.Author.Rules.{Fits-under}
use Rattle.edge_search.proofs.first_edge.Goals as goal

pub overflow_mul-guess : goal.overflow_mul-guess
overflow_mul-guess c = let p = c.requires in Fits-under _ _ 2000000 (guess_near p.2 p.1) tt

pub returns-then-is_first : goal.returns-then-is_first
returns-then-is_first c = first_is _ _ _ _ c.requires.0.rise (sym c.is_first.ensures ∙ c.if-is_first.true)
