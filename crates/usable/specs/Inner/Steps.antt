-- All that usable asks of the edges of a step, as the code checks it.
use Rattle.std.specs.Prelude.{Bool, not, ◌&&◌, ◌||◌, List, ℕ, ◌≤◌}
use Rattle.trellis.specs.Lists.{all}
use Rattle.trellis.specs.Own.{Edge}
use Rattle.trellis.specs.Bounds.{most_words, most_q}
use Rattle.edges.specs.Inner.Edges.{inside, above, EdgesThere}
use Rattle.twins.specs.Inner.Twins.{covered, no_twins, no_twins_of}

-- all that is asked of the edges of a step; twins matter where the depth that it reaches, or the depth that it leaves, is an inner one
unfoldable pub edges_right : (ℕ → Edge) → ℕ → ℕ → ℕ → ℕ → Bool → Bool → Bool
edges_right e count q froms tos reached left =
    all (inside e q froms tos) count
    && (all (above e) count
    && (covered (λ k. (e k).from) count froms
    && (covered (λ k. (e k).to) count tos
    && ((not reached || no_twins_of e count)
    && (not left || no_twins (λ k. (e k).to) (λ k. (e k).symbol) (λ k. (e k).from) count)))))

-- and q and the counts of the two depths are in bounds
pub record StepThere (pairs symbols : List ℕ) (count q froms tos : ℕ) : Type 0 where
  pub there : EdgesThere pairs symbols count
  pub q_to : q ≤ most_q
  pub froms_to : froms ≤ most_words
  pub tos_to : tos ≤ most_words
