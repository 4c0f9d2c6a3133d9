-- `word_lists::copy_words` copies one word after another: the loop keeps those that are copied so far.
use Rattle.word_lists.proofs.Copying.{InCopy}
use Rattle.word_lists.proofs.copy_words.Given as goal

abbrev pub invariant-loop-i : goal.invariant-loop-i
invariant-loop-i l = InCopy l.file l.count l.roots l.labels l.goals l.i
