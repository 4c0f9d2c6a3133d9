-- `section_file::counts_right` meets its contract: the vertex counts decide, and else the edge counts.
use borrow.Author.Rules.{rules}
use Rattle.section_file.proofs.Reading.{vertices_wrong, counts_by_edges}
use Rattle.section_file.proofs.counts_right.Goals as goal

pub returns-else-all_counts : goal.returns-else-all_counts
returns-else-all_counts c = search (rules, vertices_wrong)

pub returns-then-all_counts : goal.returns-then-all_counts
returns-then-all_counts c = search (rules, counts_by_edges)
