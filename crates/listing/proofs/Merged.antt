-- Measuring a file with a map as long as the code's answers what `text_of` says without it: the map is long enough, so that refusal 5 never
-- comes; refusal 7 comes for every table that has a section, since there is no room for one; and what is printed of a section is read off
-- its sizes, the numbers that it begins with.
use mathlib.Core.Path.{◌≡◌, refl, sym, ap, ap₂, ◌∙◌}
use mathlib.Core.Bool.{cond}
use mathlib.Core.List.{List, [], ◌∷◌, ◌++◌}
use Prim.Native.Nat.{ℕ, zero, suc, ◌+◌, ◌-◌, ◌*◌, ◌≤◌, ◌<◌}
use native.Mathlib.Omega.{arith}
use lib.ListN.{length, get_or, take}
use lib.Seq.{length-take-le, get_or-take}
use borrow.Author.Tests.{lt-ltb, le-ltb, ne_eqb}
use Rattle.trellis.specs.Lists.{over}
use Rattle.trellis.specs.Word.{Word}
use Rattle.trellis.specs.Witness.{Witness, found, nothing, witness}
use Rattle.trellis.specs.Outcome.{Outcome}
use Rattle.trellis.specs.Selections.{all_vertices, additions, selections}
use Rattle.trellis.specs.Layout.{n_of, vertex_count_of, edge_count_of, joined_up, roots_place, goals_place, pairs_place, symbols_place, section_length}
use Rattle.trellis.specs.Layout.{section_of}
use Rattle.trellis.proofs.Lists.{sum_eq}
use Rattle.trellis.proofs.Joined.{joined_same}
use Rattle.trellis.proofs.Buffers.{over_front}
use Rattle.trellis.proofs.OwnLaid.{own_n, own_length}
use Rattle.fields.specs.Fields.{word_count}
use Rattle.table.specs.File.{TableFile, refused, accepted, table_file}
use Rattle.table.proofs.Accepted.{accepted_good}
use Rattle.merging.specs.Merging.{map_length, written, merged, merged_table, merged_file, merging}
use Rattle.merging.specs.Inner.Sizes.{section_sizes, sized_by, sized_table, sized_file, sizing}
use Rattle.text.specs.Line.{line}
use Rattle.lines.specs.Text.{section_word, depth_word, additions_word, selections_word, entering, depth_line, sums, sizes_of, refusal_line}
use Rattle.lines.specs.Text.{table_text, file_text}
use Rattle.listing.specs.Inner.Made.{text_from}
use Rattle.listing.proofs.Room.{any_map, long_enough}
use Rattle.listing.proofs.Refusals.{Small, Refusal, file_refusal}

-- ---- what is printed of a section is read off its sizes

-- m agrees with l in q, n, S and the counts
module _ (l m : List ℕ) (same : (i : ℕ) → i < 4 + 2 * n_of l → get_or m i 0 ≡ get_or l i 0) where
  same_n : n_of m ≡ n_of l
  same_n = same 1 (omega arith)

  same_vertices : (t : ℕ) → t ≤ n_of l → vertex_count_of m t ≡ vertex_count_of l t
  unfolding vertex_count_of
  same_vertices t h = same (3 + t) (omega arith)

  same_edges : (t : ℕ) → t < n_of l → edge_count_of m t ≡ edge_count_of l t
  unfolding edge_count_of
  same_edges t h = ap (λ n. get_or m (4 + n + t) 0) same_n ∙ same (4 + n_of l + t) (omega arith)

  same_entering : (t : ℕ) → t ≤ n_of l → entering m t ≡ entering l t
  unfolding entering
  same_entering zero h = refl
  same_entering (suc t) h = same_edges t h

  same_depth : (t : ℕ) → t < suc (n_of l) → depth_line m t ≡ depth_line l t
  unfolding depth_line
  same_depth t h = ap₂ (λ v e. line depth_word (t ∷ v ∷ e ∷ [])) (same_vertices t (omega arith)) (same_entering t (omega arith))

  pub same_additions : additions (n_of m) (edge_count_of m) ≡ additions (n_of l) (edge_count_of l)
  unfolding additions
  same_additions =
      ap (λ n. additions n (edge_count_of m)) same_n
      ∙ sum_eq (edge_count_of m) (edge_count_of l) 0 (n_of l) (λ t a b. same_edges t (omega arith))

  pub same_selections : selections (n_of m) (vertex_count_of m) (edge_count_of m) ≡ selections (n_of l) (vertex_count_of l) (edge_count_of l)
  unfolding selections all_vertices
  same_selections =
      ap₂ (λ a b. a - b) (ap₂ (λ a b. a + b) same_additions (same_vertices 0 (omega arith)))
      (ap (λ n. all_vertices n (vertex_count_of m)) same_n
      ∙ sum_eq (vertex_count_of m) (vertex_count_of l) 0 (suc (n_of l)) (λ t a b. same_vertices t (omega arith)))

  same_sums : sums m ≡ sums l
  unfolding sums
  same_sums = ap₂ (λ a b. line additions_word (a ∷ []) ++ line selections_word (b ∷ [])) same_additions same_selections

  pub same_sizes : (words : ℕ) → sizes_of words m ≡ sizes_of words l
  unfolding sizes_of
  same_sizes words =
      ap₂ (λ xs ys. line section_word xs ++ ys)
      (ap₂ (λ a xs. a ∷ xs) (same 0 (omega arith)) (ap₂ (λ a b. a ∷ b ∷ words ∷ []) same_n (same 2 (omega arith))))
      (ap₂ (λ xs ys. xs ++ ys)
      (ap (λ n. joined_up (depth_line m) (suc n)) same_n ∙ joined_same (depth_line m) (depth_line l) (suc (n_of l)) same_depth) same_sums)

-- our section has its counts
pub counts_inside : (q n states : ℕ) (table : List Word) → 4 + 2 * n_of (section_of q n states table) ≤ length (section_of q n states table)
unfolding section_length symbols_place pairs_place goals_place roots_place
counts_inside q n states table = omega (arith, own_length q n states table)

module _ (q n states : ℕ) (table : List Word) (buffer : List ℕ) where
  abbrev own : List ℕ
  own = section_of q n states table

  abbrev sized : List ℕ
  sized = over (section_sizes q n states table) buffer

  sizes_agree : (i : ℕ) → i < 4 + 2 * n_of own → get_or sized i 0 ≡ get_or own i 0
  unfolding section_sizes
  sizes_agree i h =
      let e = own_n q n states table in
      let long = length-take-le (4 + 2 * n) own (omega (arith, e, counts_inside q n states table)) in
      over_front (take (4 + 2 * n) own) buffer i (omega (arith, e, long)) ∙ get_or-take (4 + 2 * n) own i 0 (omega (arith, e))

  sizes_over : (words : ℕ) → sizes_of words sized ≡ sizes_of words own
  sizes_over words = same_sizes own sized sizes_agree words

  pub additions_over : additions (n_of sized) (edge_count_of sized) ≡ additions (n_of own) (edge_count_of own)
  additions_over = same_additions own sized sizes_agree

  pub selections_over : selections (n_of sized) (vertex_count_of sized) (edge_count_of sized)
      ≡ selections (n_of own) (vertex_count_of own) (edge_count_of own)
  selections_over = same_selections own sized sizes_agree

-- ---- case by case of the file

from_refusal : (words : ℕ) {o : Outcome} (sizes : List ℕ) → Refusal o → text_from words o sizes ≡ refusal_line o
unfolding text_from
from_refusal words {o} sizes R =
    ap (λ b. cond b (sizes_of words sizes) (refusal_line o)) (ne_eqb o.number 7 (λ e. omega (arith, R.low)))

module _ (map sizes : List ℕ) where
  module _ (q n states : ℕ) (table : List Word) where
    by_witness : (w : Witness)
        → text_from (length table) (merged q n states table map [] w).answer (sized_by q n states table sizes w)
        ≡ table_text q n states table w
    unfolding merged written text_from table_text sized_by
    by_witness (found t i j k) = refl
    by_witness nothing = short_printed ∙ sizes_over q n states table sizes (length table)
      where
        short_printed : text_from (length table) (written q n states table map []).answer (over (section_sizes q n states table) sizes)
            ≡ sizes_of (length table) (over (section_sizes q n states table) sizes)
        short_printed = simp (lt-ltb 0 (length (section_of q n states table)) (omega (arith, counts_inside q n states table)))

    by_table : map_length n table ≤ length map
        → text_from (length table) (merged_table q n states table map []).answer (sized_table q n states table map sizes)
        ≡ table_text q n states table (witness n table)
    unfolding merged_table sized_table
    by_table room = simp (le-ltb (length map) (map_length n table) room) (by_witness (witness n table))

  module _ (map_long : any_map ≤ length map) (file : List ℕ) (short : Small (length file)) where
    by_file : (f : TableFile) → table_file file ≡ f
        → text_from (word_count file) (merged_file map [] f).answer (sized_file map sizes f) ≡ file_text f
    unfolding merged_file sized_file file_text
    by_file (refused o) e = from_refusal (word_count file) sizes (file_refusal file short e)
    by_file (accepted q n states table) e =
        ap (λ k. text_from k (merged_table q n states table map []).answer (sized_table q n states table map sizes))
        (sym (accepted_good file e).count_is)
        ∙ by_table q n states table (omega (arith, (long_enough file e).0))

    pub measured_text : text_from (word_count file) (merging file map []).answer (sizing file map sizes) ≡ file_text (table_file file)
    unfolding merging sizing
    measured_text = by_file (table_file file) refl
