-- `row_states::keys_below` counts the keys that are below.
use mathlib.Core.Path.{◌≡◌, sym, ◌∙◌}
use lib.Dec.{ltb}
use Rattle.std.specs.Prelude.{count_by}
use borrow.Author.Rules.{rules}
use Rattle.row_states.proofs.Keys.{rank_counts}
use Rattle.row_states.proofs.keys_below.Goals as goal

pub returns : goal.returns
returns c =
    let e : c.count.result ≡ count_by (λ key. ltb key c.args.x) c.args.keys.now = search rules in
    e ∙ sym (rank_counts c.args.x c.args.keys.now)
