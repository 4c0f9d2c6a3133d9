-- After document 02's request 8: "Show that any usable section with its words and its q, n and S differs from ours only by numbering inner
-- vertices: at each depth there is just one matching of vertices that keeps end states and symbols and carries edges to edges." And what
-- comparing two lists of numbers comes to.
use Rattle.std.specs.Prelude.{◌≡◌, true, ◌↔◌, List, ℕ}
use Rattle.trellis.specs.Lists.{◌∈◌}
use Rattle.trellis.specs.Word.{Word}
use Rattle.trellis.specs.Layout.{q_of, n_of, states_of, section_words}
use Rattle.trellis.specs.Outcome.{success}
use Rattle.section_file.specs.Usable.{is_section}
use Rattle.matching.specs.Matching.{Renumbered}
use Rattle.same_section.specs.Comparing.{comparing}

-- any list of numbers that is a usable section and nothing more, with the table's words, no more and no fewer, and its q, n and S
pub record SectionFor (q n states : ℕ) (table : List Word) (m : List ℕ) : Type 0 where
  pub usable : is_section m ≡ true
  pub sizes : (q_of m ≡ q) × (n_of m ≡ n) × (states_of m ≡ states)
  pub words : (w : Word) → (w ∈ section_words m) ↔ (w ∈ table)

-- l is such a section, every other differs from it only by numbering inner vertices, and comparing with l tells which lists are such
pub record Only (q n states : ℕ) (table : List Word) (l : List ℕ) : Type 0 where
  pub own : SectionFor q n states table l
  pub others : (m : List ℕ) → SectionFor q n states table m → Renumbered l m
  pub told : (m : List ℕ) → (comparing l m ≡ success 1) ↔ SectionFor q n states table m

-- ---- any two lists of numbers

-- both are usable sections and nothing more, with the same q, n, S and words
pub record Agreeing (a b : List ℕ) : Type 0 where
  pub usable : (is_section a ≡ true) × (is_section b ≡ true)
  pub sizes : (q_of b ≡ q_of a) × (n_of b ≡ n_of a) × (states_of b ≡ states_of a)
  pub words : (w : Word) → (w ∈ section_words b) ↔ (w ∈ section_words a)

-- the answer is 1 exactly if they are, and then they differ only by numbering inner vertices
pub record ComparingMeaning (a b : List ℕ) : Type 0 where
  pub exact : (comparing a b ≡ success 1) ↔ Agreeing a b
  pub renumbered : comparing a b ≡ success 1 → Renumbered a b
