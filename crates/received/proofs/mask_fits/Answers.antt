-- `received::mask_fits` shifts the n bits away: nothing is left exactly if the mask is below 2^n. A mask of eight bits always fits eight
-- symbols.
use mathlib.Core.Path.{◌∙◌}
use borrow.Author.Tests.{le-leb}
use borrow.Author.Rules.{rules}
use Rattle.received.proofs.Fitting.{mask_fits, mask_all}
use Rattle.received.proofs.mask_fits.Goals as goal

pub returns-then-n-ge8 : goal.returns-then-n-ge8
returns-then-n-ge8 c = le-leb 8 c.args.n c.if-n-ge8.true ∙ mask_all c.args.mask c.args.n (search rules) c.if-n-ge8.true

pub returns-else-n-ge8 : goal.returns-else-n-ge8
returns-else-n-ge8 c = mask_fits c.args.mask c.args.n
