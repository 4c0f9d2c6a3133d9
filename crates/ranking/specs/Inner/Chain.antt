-- The k best paths of a chain as a program finds them: block by block, with the cost table for what is left to pay, k beginnings kept in
-- word order. Everything here computes.
use Rattle.std.specs.Prelude.{Bool, List, [], ◌∷◌, ◌++◌, map, ℕ}
use Rattle.trellis.specs.Word.{Word}
use Rattle.paths.specs.Inner.Chains.{chain_graph, at_end}
use Rattle.ranking.specs.Several.{sort_by}
use Rattle.ranking.specs.Inner.Kept.{keep_live}
use Rattle.ranking.specs.Inner.Growth.{Start, start, extended, rated, narrow}

module _ (words : ℕ → List Word) (ends : ℕ → Bool) (dist : ℕ → Word → ℕ) where
  -- a beginning with one word more
  unfoldable pub one_word : ℕ → Start (List Word) → List (Start (List Word))
  one_word b x = extended (chain_graph words ends) dist (λ ws w. ws ++ (w ∷ [])) b x

  -- what is paid for a beginning, and the least that is left to pay for m blocks
  unfoldable pub chain_rated : ℕ → ℕ → ℕ → Start (List Word) → ℕ
  chain_rated top m b x = rated (chain_graph words ends) dist top (at_end top ends) m b x

  -- k beginnings kept behind each block
  unfoldable pub chain_kept : ℕ → ℕ → ℕ → ℕ → ℕ → List (Start (List Word))
  chain_kept top k m b s = narrow one_word (chain_rated top) top k m b (keep_live (chain_rated top m b) top k (start [] s 0 ∷ []))

  -- and in the end sorted by what was paid
  unfoldable pub paths_kept : ℕ → ℕ → ℕ → ℕ → ℕ → List (List Word)
  paths_kept top k m b s = map (λ x. x.had) (sort_by (λ x. x.paid) (chain_kept top k m b s))
