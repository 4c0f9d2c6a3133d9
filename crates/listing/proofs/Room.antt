-- Lengths that are enough for every table, of the map, which the listing has of its own, and of the section, which callers of merging lend:
-- a table has at most `most_words` words and `most_symbols` symbols, its roots and goals are states, and its section has no more edges at a
-- step than the table has words.
use mathlib.Core.Path.{◌≡◌, refl, sym, subst}
use mathlib.Core.List.Memᴰ
use mathlib.Core.List.{List, [], ◌∷◌}
use Prim.Native.Nat.{ℕ, zero, suc, ◌+◌, ◌-◌, ◌*◌, ◌≤◌, ◌<◌}
use native.Mathlib.Omega.{arith}
use native.Mathlib.Nat.{mul-le-mul, suc-mul}
use lib.ListN.{length}
use lib.Dec.{ltb, ltb→lt}
use Rattle.trellis.specs.Bounds.{most_symbols, most_states, most_words}
use Rattle.trellis.specs.Lists.{◌∈◌, each, sum}
use Rattle.trellis.specs.Word.{Word, word_at}
use Rattle.trellis.specs.Own.{key, keys, vertex_count}
use Rattle.trellis.specs.Layout.{n_of, vertex_count_of, edge_count_of, edges_before, roots_place, goals_place, pairs_place, symbols_place}
use Rattle.trellis.specs.Layout.{section_length, section_of}
use Rattle.trellis.proofs.Lists.{of_each, sum_le}
use Rattle.trellis.proofs.Ascending.{Ascends, numbers, ascends, of_ascending}
use Rattle.trellis.proofs.Words.{word_in}
use Rattle.trellis.proofs.Vertices.{key_root, key_goal}
use Rattle.trellis.proofs.OwnLaid.{own_n, own_length, own_vertex_count, own_edge_count}
use Rattle.trellis.proofs.OwnFew.{vertices_few, edges_few}
use Rattle.table.specs.File.{table_file, accepted}
use Rattle.table.specs.Inner.Good.{GoodFile}
use Rattle.table.proofs.Accepted.{accepted_good}
use Rattle.merging.specs.Merging.{map_length}

-- a number for each word at each depth
abbrev pub any_map : ℕ
any_map = (most_symbols + 1) * most_words

-- the sizes, the roots and the goals, and three numbers for each edge
abbrev pub any_section : ℕ
any_section = 4 + 2 * most_symbols + 2 * most_states + 3 * most_symbols * most_words

sum_of_same : (m at k : ℕ) → sum (λ u. m) at k ≡ k * m
unfolding sum
sum_of_same m at zero = omega arith
sum_of_same m at (suc k) = omega (arith, sum_of_same m (suc at) k, suc-mul k m)

-- ascending numbers from `low` on and below S are no more than there are such numbers
ascending_few : (l : List ℕ) (low S : ℕ) → Ascends ltb l → ((y : ℕ) → y ∈ l → low ≤ y) → ((y : ℕ) → y ∈ l → y < S) → length l ≤ S - low
ascending_few [] low S a from to = omega arith
ascending_few (x ∷ l) low S a from to =
    let r : length l ≤ S - suc x = ascending_few l (suc x) S a.1 (λ y m. ltb→lt x y (a.0 y m)) (λ y m. to y (Memᴰ.tail m)) in
    omega (arith, from x (Memᴰ.head refl), to x (Memᴰ.head refl))

-- states of words, each below S
states_few : (n : ℕ) (table : List Word) (t S : ℕ) → ((i : ℕ) → i < length table → key n table t i < S) → vertex_count n table t ≤ S
unfolding vertex_count keys
states_few n table t S h =
    omega (arith, ascending_few (keys n table t) 0 S (ascends ltb numbers (each (key n table t) (length table))) (λ y m. omega arith) below)
  where
    below : (y : ℕ) → y ∈ keys n table t → y < S
    below y m =
        let F = of_each (key n table t) (length table) y (of_ascending ltb numbers y (each (key n table t) (length table)) m) in
        omega (arith, F.is, h F.at F.below)

module _ (file : List ℕ) {q n states : ℕ} {table : List Word} (G : GoodFile file q n states table) where
  abbrev l : List ℕ
  l = section_of q n states table

  root_below : (i : ℕ) → i < length table → key n table 0 i < states
  root_below i h = subst (λ s. s < states) (sym (key_root n table i)) (G.roots_below (word_at table i) (word_in table i h))

  goal_below : (i : ℕ) → i < length table → key n table n i < states
  goal_below i h = subst (λ s. s < states) (sym (key_goal n table i G.n_from)) (G.goals_below (word_at table i) (word_in table i h))

  roots_few : vertex_count n table 0 ≤ most_states
  roots_few = omega (arith, G.states_to, states_few n table 0 states root_below)

  goals_few : vertex_count n table n ≤ most_states
  goals_few = omega (arith, G.states_to, states_few n table n states goal_below)

  pub vertices_at : (t : ℕ) → t ≤ n → vertex_count_of l t ≤ most_words
  vertices_at t h = omega (arith, own_vertex_count q n states table t h, vertices_few n table t, G.count_to)

  pub edges_at : (t : ℕ) → t < n → edge_count_of l t ≤ most_words
  edges_at t h = omega (arith, own_edge_count q n states table t h, edges_few n table t, G.count_to)

  pub edges_all : edges_before l n ≤ most_symbols * most_words
  unfolding edges_before
  edges_all =
      let s : sum (edge_count_of l) 0 n ≤ sum (λ u. most_words) 0 n =
      sum_le (edge_count_of l) (λ u. most_words) 0 n (λ u a b. edges_at u (omega arith)) in
      omega (arith, sum_of_same most_words 0 n, G.n_to)

  section_room : length l ≤ any_section
  unfolding section_length symbols_place pairs_place goals_place roots_place
  section_room =
      let e : n_of l ≡ n = own_n q n states table in
      let a : edges_before l (n_of l) ≤ most_symbols * most_words = subst (λ m. edges_before l m ≤ most_symbols * most_words) (sym e) edges_all in
      let r : vertex_count_of l 0 ≤ most_states = omega (arith, own_vertex_count q n states table 0 (omega arith), roots_few) in
      let g : vertex_count_of l n ≤ most_states = omega (arith, own_vertex_count q n states table n (omega arith), goals_few) in
      let v : vertex_count_of l (n_of l) ≤ most_states = subst (λ m. vertex_count_of l m ≤ most_states) (sym e) g in
      omega (arith, own_length q n states table, G.n_to)

  map_room : map_length n table ≤ any_map
  map_room = mul-le-mul G.count_to (let k : n + 1 ≤ most_symbols + 1 = omega (arith, G.n_to) in k)

pub long_enough : (file : List ℕ) {q n states : ℕ} {table : List Word} → table_file file ≡ accepted q n states table
    → (map_length n table ≤ any_map) × (length (section_of q n states table) ≤ any_section)
long_enough file e = let G = accepted_good file e in (map_room file G, section_room file G)
