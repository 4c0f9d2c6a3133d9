-- `word_lists::copy_words` copies one word after another: the loop keeps those that are copied so far.
use mathlib.Core.Path.{ap}
use borrow.Author.Rules.{rules}
use Rattle.fields.specs.declared.Word.{Word}
use Rattle.word_lists.proofs.Copying.{copy_none, copy_more, copy_end}
use Rattle.word_lists.proofs.copy_words.Goals as goal

pub loop-i-init : goal.loop-i-init
loop-i-init c = copy_none _ _ (search rules)

pub loop-i-preserved : goal.loop-i-preserved
loop-i-preserved c =
    let e = c.word_through-word.ensures in
    copy_more c.loop-i.invariant c.from-at.ensures
    (ap (λ (w : Word). w.root) e) (ap (λ (w : Word). w.label) e) (ap (λ (w : Word). w.goal) e) (search rules)

pub returns : goal.returns
returns c = copy_end c.loop-i.invariant (search rules)
