-- Costs along the blocks of a chain, as numbers. A word's goal is the next word's root.
use Rattle.std.specs.Prelude.{Bool, cond, List, [], ◌∷◌, ℕ}
use Rattle.trellis.specs.Word.{Word}
use Rattle.paths.specs.Chain.{rooted_at}
use Rattle.paths.specs.Inner.Graph.{Graph}
use Rattle.paths.specs.Inner.Costs.{least, trace}

-- its edges are words, its vertices states
abbrev pub chain_graph : (ℕ → List Word) → (ℕ → Bool) → Graph Word (List Word)
chain_graph words ends =
    record { out = λ b s. rooted_at s (words b); to = λ w. w.goal; onto = λ w ws. w ∷ ws; ends = λ s. cond (ends s) ([] ∷ []) [] }

-- nothing is left to pay where a path may end, and there is no path elsewhere
abbrev pub at_end : ℕ → (ℕ → Bool) → ℕ → ℕ
at_end top ends s = cond (ends s) 0 top

module _ (words : ℕ → List Word) (ends : ℕ → Bool) (dist : ℕ → Word → ℕ) where
  -- backward: the least distance of k blocks from state s before block b
  unfoldable pub chain_least : ℕ → ℕ → ℕ → ℕ → ℕ
  chain_least top k b s = least (chain_graph words ends) dist top (at_end top ends) k b s

  -- forward: the path that these numbers name
  unfoldable pub chain_trace : ℕ → ℕ → ℕ → ℕ → List Word
  chain_trace top k b s = trace (chain_graph words ends) dist top (at_end top ends) (λ v. []) k b s
