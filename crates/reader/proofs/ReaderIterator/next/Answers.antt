-- The iterator of a reader ends: where it gives a word, fewer are left behind it.
use Rattle.std.specs.Prelude.{◌≡◌, ℕ, ◌-◌, ◌<◌, List, Option, Some, None, OnSome, IfSome, IfNone, ⊤}
use Rattle.fields.specs.Fields.{word_count}
use Rattle.fields.specs.Inner.Answer.{found_at}
use Rattle.fields.specs.Inner.ReadOn.{place_after}
use Rattle.fields.specs.declared.Word.{Word}
use Rattle.fields.proofs.ReadOn.{fewer_left}
use Rattle.reader.proofs.ReaderIterator.next.Goals as goal

fewer : (file : List ℕ) (i p : ℕ) (found : Option Word) → found ≡ found_at file i → p ≡ place_after file i
    → OnSome found (⊤ × ⊤ × (word_count file - p < word_count file - i))
fewer file i p None e f = tt
fewer file i p (Some w) e f = (tt, tt, fewer_left file i p w e f)

on_any : (found : Option Word) → IfSome found (λ _. ⊤)
on_any None = tt
on_any (Some w) = tt

on_none : (found : Option Word) → IfNone found ⊤
on_none None = tt
on_none (Some w) = tt

pub returns-clause-goes : goal.returns-clause-goes
returns-clause-goes c = record {
  on = λ _. fewer _ _ _ _ c.found_at-found.ensures c.place_after-self.ensures;
  keeps = on_any _;
  rests = λ _. on_none _;
}
