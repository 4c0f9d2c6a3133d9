-- One block of a chain, with words ws: what it costs to go on from each state before it. `price w` is what the word w costs and `left s`
-- what is left to pay behind the block in the state s: neither is fixed here. A number `top` stands for no path.
use Rattle.std.proofs.Math.Option.{Option}
use Rattle.std.specs.Prelude.{List, ℕ, eqb}
use Rattle.trellis.specs.Lists.{sum}
use Rattle.trellis.specs.Label.{symbol}
use Rattle.trellis.specs.Word.{Word}
use Rattle.paths.specs.Chain.{rooted_at}
use Rattle.paths.specs.Inner.Costs.{plus, min_all, first_with}

module _ (ws : List Word) (price : Word → ℕ) (top : ℕ) (left : ℕ → ℕ) where
  -- what is to pay from the word w on
  abbrev pub onward_cost : Word → ℕ
  onward_cost w = plus top (price w) (left w.goal)

  -- the least cost from state s on
  unfoldable pub least_over : ℕ → ℕ
  least_over s = min_all top onward_cost (rooted_at s ws)

  -- the first word of least cost from there
  unfoldable pub first_over : ℕ → Option Word
  first_over s = first_with (λ w. eqb (onward_cost w) (least_over s)) (rooted_at s ws)

-- what a word of n symbols costs where the symbol a costs `cost t a` as symbol t
unfoldable pub word_price : ℕ → (ℕ → ℕ → ℕ) → Word → ℕ
word_price n cost w = sum (λ t. cost t (symbol n t w.label)) 0 n
