-- One block that is a section: at the states of its roots the least costs follow along the edges of the section, at any other state there
-- is no path. The first word of least cost is that of the path which the section's numbers name.
use mathlib.Core.Path.{◌≡◌, refl, sym, ap, ◌∙◌}
use mathlib.Core.List.{List, map}
use mathlib.Core.Option.{some as just}
use Prim.Native.Nat.{ℕ, ◌≤◌, ◌<◌}
use lib.Dec.{eqb}
use Rattle.trellis.specs.Lists.{◌∈◌}
use Rattle.trellis.specs.Word.{Word}
use Rattle.trellis.specs.Own.{Edge}
use Rattle.trellis.specs.Section.{Path, paths_from, word_of, words_of}
use Rattle.paths.specs.Chain.{rooted_at}
use Rattle.paths.specs.Inner.Costs.{min_all, first_with}
use Rattle.paths.specs.Inner.Sections.{section_least}
use Rattle.paths.specs.Inner.OneBlock.{onward_cost, least_over, first_over}
use Rattle.paths.specs.Inner.Ordered.{Ordered}
use Rattle.paths.proofs.Sections.{cost_from, section_trace}
use Rattle.paths.proofs.Words.{rooted_words, rooted_none}
use Rattle.paths.proofs.Block.{Spells, block_cost, block_word}

-- the block is the section with these edges, n steps, root vertices, and states of its roots and goals; cost are the costs of its symbols
-- at each step
pub record Uses (ws : List Word) (price : Word → ℕ) (edges : ℕ → List Edge) (n : ℕ) (roots : List ℕ) (root_of goal_of : ℕ → ℕ)
    (cost : ℕ → ℕ → ℕ) : Type 0 where
  pub words_are : ws ≡ words_of n edges roots root_of goal_of
  pub roots_rise : Ordered (λ u v. root_of u < root_of v) roots
  pub same_cost : (v : ℕ) (p : Path) → p ∈ paths_from edges n 0 v → price (word_of root_of goal_of v p) ≡ cost_from cost 0 p.symbols

module _ {ws : List Word} {price : Word → ℕ} {edges : ℕ → List Edge} {n : ℕ} {roots : List ℕ} {root_of goal_of : ℕ → ℕ}
    {cost : ℕ → ℕ → ℕ} (U : Uses ws price edges n roots root_of goal_of cost) where
  pub spells : (v : ℕ) → Spells cost goal_of price (word_of root_of goal_of v) (paths_from edges n 0 v)
  unfolding word_of
  spells v = record { same_cost = U.same_cost v; same_goal = λ p. refl }

  pub rooted : (v : ℕ) → v ∈ roots → rooted_at (root_of v) ws ≡ map (word_of root_of goal_of v) (paths_from edges n 0 v)
  rooted v m = ap (rooted_at (root_of v)) U.words_are ∙ rooted_words edges n root_of goal_of roots U.roots_rise v m

  module _ (top : ℕ) (left : ℕ → ℕ) (bound : (s : ℕ) → left s ≤ top) where
    -- at a root
    pub least_root : (v : ℕ) → v ∈ roots
        → least_over ws price top left (root_of v) ≡ section_least edges cost top (λ g. left (goal_of g)) n 0 v
    unfolding least_over
    least_root v m =
        ap (min_all top (onward_cost ws price top left)) (rooted v m)
        ∙ block_cost edges n v (spells v) top left bound

    -- at any other state
    pub least_else : (s : ℕ) → ((v : ℕ) → v ∈ roots → root_of v ≡ s → ⊥) → least_over ws price top left s ≡ top
    unfolding least_over min_all
    least_else s h =
        ap (min_all top (onward_cost ws price top left)) (ap (rooted_at s) U.words_are ∙ rooted_none edges n root_of goal_of roots s h)

    -- the first word of least cost
    pub first_root : (v : ℕ) → v ∈ roots → least_over ws price top left (root_of v) < top
        → first_over ws price top left (root_of v)
        ≡ just (word_of root_of goal_of v (section_trace edges cost top (λ g. left (goal_of g)) n 0 v))
    unfolding first_over
    first_root v m h =
        ap (first_with (λ w. eqb (onward_cost ws price top left w) (least_over ws price top left (root_of v)))) (rooted v m)
        ∙ block_word edges n v (spells v) top left bound (least_over ws price top left (root_of v)) (sym (least_root v m)) h
