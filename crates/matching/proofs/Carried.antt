-- What carries edges to edges carries words. A word is read off a route; its vertices, carried, stand on a route there, which takes the
-- same symbols and has the same end states, so it carries the same word.
use mathlib.Core.Path.{◌≡◌, refl, sym, ◌∙◌}
use mathlib.Core.List.Memᴰ
use mathlib.Core.List.{List}
use Prim.Native.Nat.{ℕ, suc}
use native.Mathlib.Omega.{arith}
use Rattle.trellis.specs.Lists.{◌∈◌, run}
use Rattle.trellis.specs.Word.{Word, word}
use Rattle.trellis.specs.Section.{pack_onto}
use Rattle.trellis.specs.Layout.{n_of, section_words}
use Rattle.section_file.specs.Inner.Sound.{Sound}
use Rattle.matching.specs.Matching.{Carrying}
use Rattle.matching.proofs.Routes.{Goes, stands}
use Rattle.matching.proofs.Sections.{shape_of, neat, Route, routed, word_on}

pub carried_words : {l m : List ℕ} {f : ℕ → ℕ → ℕ} → Sound l → Sound m → n_of m ≡ n_of l → Carrying l m f
    → (w : Word) → w ∈ section_words l → w ∈ section_words m
carried_words {l} {m} {f} s r e C w k = by (routed s refl w k)
  where
    by : Route (n_of l) l w → w ∈ section_words m
    by R =
        let root = C.roots (R.x 0) (stands (neat s) R.goes 0 (omega arith)) in
        let goal = C.goals (R.x (n_of l)) (stands (neat s) R.goes (n_of l) (omega arith)) in
        let there : Goes (shape_of m) 0 (n_of l) (λ u. f u (R.x u)) R.a =
        record { takes = λ u b c. C.edges u (R.x u) (R.a u) (R.x (suc u)) c (R.goes.takes u b c) } in
        Memᴰ.cast (R.is ∙ (λ i. word (sym root i) (pack_onto 0 (run R.a 0 (n_of l))) (sym goal i))) (word_on r e there)
