-- There are others, so "only by numbering inner vertices" cannot be left out: marked case 3 with its two inner vertices exchanged is a
-- section for the same table too, and is not ours. It is computed.
use mathlib.Core.Path.{◌≡◌, refl, sym, ap, subst}
use mathlib.Core.Bool.{true}
use mathlib.Core.List.{List, [], ◌∷◌, flat_map}
use Prim.Native.Nat.{ℕ}
use native.Mathlib.Omega.{arith}
use lib.ListN.{get_or}
use Rattle.trellis.specs.Lists.{◌∈◌, run, sum, first, is_in, keep, rank, insert, ascending, lower, alike, all, any, within}
use Rattle.trellis.specs.Label.{symbol, front, back, spliced}
use Rattle.trellis.specs.Word.{Word, word}
use Rattle.trellis.specs.Own.{shares, first_sharing, key, keys, vertex_of, vertex_count, edges_at, edge_count}
use Rattle.trellis.specs.Section.{leaving, paths_from, pack_onto, word_of, words_of}
use Rattle.trellis.specs.Layout.{vertex_count_of, edge_count_of, edges_before, roots_place, goals_place, pairs_place, symbols_place, root_state}
use Rattle.trellis.specs.Layout.{goal_state, edge_number, step_edges, section_words, joined_up, section_of, section_length}
use Rattle.section_file.specs.Usable.{step_edge, whole, sizes_right, edges_inside, counts_right, rising, states_right, edges_ascend, onward}
use Rattle.section_file.specs.Usable.{inward, no_twins_reached, no_twins_leading, usable, is_section}
use Rattle.demands.specs.Only.{SectionFor}

-- marked case 3: the words 00 and 11 of two symbols, between state 0 and state 0
abbrev pub table : List Word
table = word 0 0 0 ∷ word 0 5 0 ∷ []

-- its section, but the path of 00 goes through inner vertex 1 and that of 11 through inner vertex 0
abbrev pub exchanged : List ℕ
exchanged = 2 ∷ 2 ∷ 1 ∷ 1 ∷ 2 ∷ 1 ∷ 2 ∷ 2 ∷ 0 ∷ 0 ∷ 0 ∷ 1 ∷ 0 ∷ 0 ∷ 0 ∷ 0 ∷ 1 ∷ 0 ∷ 0 ∷ 1 ∷ 1 ∷ 0 ∷ []

words_are : section_words exchanged ≡ table
unfolding run sum keep lower leaving paths_from pack_onto word_of words_of vertex_count_of edge_count_of edges_before roots_place goals_place
    pairs_place symbols_place root_state goal_state edge_number step_edges section_words flat_map
words_are = refl

is_section_lem : is_section exchanged ≡ true
unfolding run sum lower alike vertex_count_of edge_count_of edges_before roots_place goals_place pairs_place symbols_place section_length
    root_state goal_state edge_number all any within step_edge whole sizes_right edges_inside counts_right rising states_right edges_ascend
    onward inward no_twins_reached no_twins_leading usable is_section
is_section_lem = refl

-- usable lies open, as it does where `Only` is proved
pub another : SectionFor 2 2 1 table exchanged
unfolding is_section usable
another = record {
  usable = is_section_lem;
  sizes = (refl, refl, refl);
  words = λ w. (λ k. subst (λ ws. w ∈ ws) words_are k, λ k. subst (λ ws. w ∈ ws) (sym words_are) k);
}

-- place 11 is the vertex that the first edge leads to
ours_there : get_or (section_of 2 2 1 table) 11 0 ≡ 0
unfolding run sum first is_in keep rank insert ascending lower alike symbol front back spliced shares first_sharing key keys vertex_of
    vertex_count edges_at edge_count joined_up section_of flat_map
ours_there = refl

pub not_ours : exchanged ≡ section_of 2 2 1 table → ⊥
not_ours e =
    let d : get_or exchanged 11 0 ≡ get_or (section_of 2 2 1 table) 11 0 = ap (λ l. get_or l 11 0) e in
    omega (arith, d, ours_there)
