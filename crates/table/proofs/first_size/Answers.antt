-- `table::first_size` meets its contract: a search for the first bad place of four.
use mathlib.Core.Path.{ap, ◌∙◌}
use mathlib.Core.List.{[], ◌∷◌}
use Rattle.std.proofs.Common.{rules, tests}
use Rattle.std.proofs.lemmas.Iterator.{YieldsList-from_slice}
use Rattle.std.proofs.lemmas.Iterator.Search.{position_from_yields_List}
use Rattle.trellis.specs.Lists.{found_below}
use Rattle.table.proofs.Checks.{q_outside, n_outside, states_outside, count_outside, sizes_first}
use Rattle.table.proofs.first_size.Goals as goal

pub returns : goal.returns
returns c =
    position_from_yields_List {all = c.byte_outside.result ∷ c.byte_outside-2.result ∷ c.byte_outside-3.result ∷ c.is_outside.result ∷ []}
    (λ t. t) _ _ _ c.position.ensures.ran (YieldsList-from_slice _ cc) (λ x b q k. search (rules, tests))
    ∙ ap (found_below 4)
    (sizes_first _ (q_outside _ c.byte_outside.ensures) (n_outside _ c.byte_outside-2.ensures) (states_outside _ c.byte_outside-3.ensures)
    (count_outside _ c.word_count.ensures c.is_outside.ensures))
