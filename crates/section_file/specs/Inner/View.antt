-- The view of a section: its sizes and the places where its parts stand, worked out once. What reads a usable section asks for its view and
-- for `Sound`, and nothing else; the check itself, which comes before, asks for its view and for counts in bounds.
use Rattle.std.specs.Prelude.{◌≡◌, List, ℕ, ◌≤◌, ◌<◌, length}
use Rattle.trellis.specs.Bounds.{most_words, most_symbols, most_q}
use Rattle.trellis.specs.Layout.{q_of, n_of, vertex_count_of, edge_count_of, all_edges, roots_place, goals_place, pairs_place, symbols_place}
use Rattle.trellis.specs.Layout.{section_length}
use Rattle.section_file.specs.Inner.Sound.{Sound}
use Rattle.section_file.specs.declared.View.{View}

-- by the section's own counts
unfoldable pub view_of : List ℕ → View
view_of l =
    record {
      q = q_of l;
      n = n_of l;
      roots = roots_place l;
      goals = goals_place l;
      pairs = pairs_place l;
      symbols = symbols_place l;
      edges = all_edges l;
      end = section_length l;
    }

-- the section at the front of the list is usable, and this is its view
pub record Seen (l : List ℕ) (at : View) : Type 0 where
  pub sound : Sound l
  pub is : at ≡ view_of l

-- q, n and the counts are in bounds and the section is there whole, so that its places are small enough for sums of them; and this is its
-- view
pub record Laid (l : List ℕ) (at : View) : Type 0 where
  pub n_to : n_of l ≤ most_symbols
  pub q_to : q_of l ≤ most_q
  pub vertices_to : (t : ℕ) → t ≤ n_of l → vertex_count_of l t ≤ most_words
  pub edges_to : (t : ℕ) → t < n_of l → edge_count_of l t ≤ most_words
  pub whole : section_length l ≤ length l
  pub is : at ≡ view_of l
