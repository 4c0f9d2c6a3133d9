-- The numbers of a section as they stand in the arrays that hold its parts.
use Rattle.std.specs.Prelude.{◌≡◌, List, ◌∷◌, ◌++◌, ℕ, suc, ◌+◌, ◌*◌, ◌<◌, ◌≤◌, length, get_or}
use Rattle.trellis.specs.Bounds.{most_symbols, most_states, most_words}
use Rattle.trellis.specs.Lists.{each}
use Rattle.trellis.specs.Layout.{joined_up}
use Rattle.takers.specs.Inner.Pieces.{SmallMap, step_takers, Taken, step_pairs, step_symbols}
use Rattle.layout.specs.Inner.States.{marks_below, marked_below, Bits}

-- the first numbers of an array, count of them
abbrev pub first_numbers : List ℕ → ℕ → List ℕ
first_numbers l count = each (λ k. get_or l k 0) count

-- the sizes that a section begins with, from the counts of vertices and of edges
unfoldable pub size_numbers : ℕ → ℕ → ℕ → List ℕ → List ℕ → List ℕ
size_numbers q n states counts edge_counts = q ∷ n ∷ states ∷ (first_numbers counts (suc n) ++ first_numbers edge_counts n)

-- counts for all depths and steps, and a buffer with room for the sizes
pub record SizesAsked (n : ℕ) (counts edge_counts buffer : List ℕ) : Type 0 where
  pub steps : n ≤ most_symbols
  pub vertex_places : suc n ≤ length counts
  pub edge_places : n ≤ length edge_counts
  pub room : 4 + 2 * n ≤ length buffer

-- the section's length, from the vertex counts and the number of all steps' edges
abbrev pub length_by : ℕ → List ℕ → ℕ → ℕ
length_by n counts edges = 4 + 2 * n + (get_or counts 0 0 + get_or counts n 0) + 3 * edges

pub record LengthAsked (n : ℕ) (counts : List ℕ) (edges : ℕ) : Type 0 where
  pub steps : n ≤ most_symbols
  pub vertex_places : suc n ≤ length counts
  pub few_edges : edges ≤ most_symbols * most_words

-- document 01's layout of the parts
unfoldable pub numbers_of : ℕ → List ℕ → List ℕ → List ℕ → List ℕ → List ℕ → List ℕ
numbers_of n sizes root_marks goal_marks m labels =
    first_numbers sizes (4 + 2 * n)
    ++ (marked_below root_marks most_states ++ (marked_below goal_marks most_states
    ++ (joined_up (step_pairs m labels n) n ++ joined_up (step_symbols m labels n) n)))

-- the parts fit together, and the buffer has room for them
pub record Parts (n : ℕ) (sizes edge_counts root_marks goal_marks m labels words buffer : List ℕ) : Type 0 where
  pub small : SmallMap m labels n
  pub taken : Taken m labels n words edge_counts
  pub sized : 4 + 2 * n ≤ length sizes
  pub root_places : length root_marks ≡ most_states
  pub goal_places : length goal_marks ≡ most_states
  pub root_bits : Bits root_marks
  pub goal_bits : Bits goal_marks
  pub some : 0 < length (joined_up (step_takers m labels n) n)
  pub room : 4 + 2 * n + (marks_below root_marks most_states + marks_below goal_marks most_states) + 3 * length
      (joined_up (step_takers m labels n) n) ≤ length buffer
