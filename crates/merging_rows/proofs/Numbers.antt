-- The numbers of the section, part by part: the counts are those of the table's depths and steps, the states are its outer keys, and pairs
-- and symbols are those of its edges, one step behind another. So together they are the section of the table, and as many as its length.
use mathlib.Core.Path.{◌≡◌, refl, sym, ap, ap₂, subst, ◌∙◌}
use mathlib.Core.List.{List, ◌∷◌, ◌++◌, map, flat_map, append_assoc}
use Prim.Native.Nat.{ℕ, suc, ◌+◌, ◌*◌, ◌^◌, ◌≤◌, ◌<◌}
use native.Mathlib.Omega.{arith}
use native.Mathlib.Nat.{le_refl, mul-le-mul}
use lib.ListN.{length, get_or, replicate, length-take, length-replicate}
use lib.Seq.{ext_get_or, get_or-take}
use lib.Pow.{pow_mono}
use Rattle.trellis.specs.Bounds.{most_symbols, most_words}
use Rattle.trellis.specs.Lists.{each}
use Rattle.trellis.specs.Word.{Word}
use Rattle.trellis.specs.Own.{keys, vertex_count, edges_at, edge_count}
use Rattle.trellis.specs.Layout.{joined_up, pair_of, symbol_of, section_of}
use Rattle.trellis.proofs.Lists.{each_at, each_same, length_run}
use Rattle.trellis.proofs.Joined.{joined_same}
use Rattle.trellis.proofs.Write.{wrote_length}
use Rattle.assemble.specs.Inner.Numbers.{first_numbers, size_numbers, length_by, LengthAsked}
use Rattle.assemble.proofs.Whole.{section_long}
use Rattle.rows.specs.Table.{table_of}
use Rattle.parity.specs.Inner.Front.{Front}
use Rattle.row_map.specs.Inner.Maps.{MapAsked, MapPut}
use Rattle.row_arcs.specs.Inner.Arcs.{AllEdges}
use Rattle.row_pieces.specs.Inner.Pieces.{step_pairs, step_symbols}
use Rattle.row_edges.proofs.Laid.{step_list, list_length, total_is, pairs_are, symbols_are, pairs_length, symbols_length}
use Rattle.row_section.specs.Inner.Parts.{numbers_by, PartsAsked}
use Rattle.merging_rows.proofs.StepEdges.{step_list_lem, step_count}

-- numbers in front of an array
front_numbers : {vs array : List ℕ} → Front vs array → (count : ℕ) → count ≡ length vs → first_numbers array count ≡ vs
front_numbers {vs} {array} F count e =
    ext_get_or 0 (first_numbers array count) vs (length_run (λ k. get_or array k 0) 0 count ∙ e)
    (λ k h. let l : k < count = omega (arith, length_run (λ k. get_or array k 0) 0 count) in
    each_at (λ k. get_or array k 0) count k 0 l
    ∙ sym (get_or-take (length vs) array k 0 (omega arith)) ∙ ap (λ xs. get_or xs k 0) F.are)

-- which has room for them
front_few : {vs array : List ℕ} → Front vs array → length vs ≤ 16
front_few {vs} {array} F = omega (arith, ap length F.are, length-take (length vs) array, F.sixteen)

module _ {s n : ℕ} {rows columns : List ℕ} {w : ℕ} {before : List ℕ} (A : MapAsked s n rows columns w before)
    {m dims counts roots goals : List ℕ} (P : MapPut s n rows w before m dims counts roots goals)
    {edges steps : List ℕ} {total : ℕ} (E : AllEdges m w rows s n dims (replicate 8192 0) edges total steps) where
  abbrev table : List Word
  table = table_of s n rows

  words_few : w ≤ 1024
  words_few = omega (arith, A.words, pow_mono {i = length rows} {j = 10} A.few)

  pub total_few : total ≤ 8192
  total_few = let p : n * w ≤ most_symbols * most_words = mul-le-mul A.symbols words_few in omega (arith, E.most)

  fits : total ≤ length (replicate {A = ℕ} 8192 0)
  fits = omega (arith, total_few, length-replicate {A = ℕ} 8192 0)

  -- ---- the parts

  counts_are : first_numbers counts (suc n) ≡ each (vertex_count n table) (suc n)
  counts_are = each_same (λ t. get_or counts t 0) (vertex_count n table) (suc n) (suc n) refl (λ t h. P.counted t (omega arith))

  steps_are : first_numbers steps n ≡ each (edge_count n table) n
  steps_are = each_same (λ t. get_or steps t 0) (edge_count n table) n n refl (λ t h. E.counted t h ∙ step_count A P t h)

  roots_are : first_numbers roots (get_or counts 0 0) ≡ keys n table 0
  unfolding vertex_count
  roots_are = front_numbers P.root_states (get_or counts 0 0) (P.counted 0 (omega arith))

  goals_are : first_numbers goals (get_or counts n 0) ≡ keys n table n
  unfolding vertex_count
  goals_are = front_numbers P.goal_states (get_or counts n 0) (P.counted n (le_refl n))

  edges_are : joined_up (step_list m w rows s n dims) n ≡ joined_up (edges_at n table) n
  edges_are = joined_same (step_list m w rows s n dims) (edges_at n table) n (λ t h. step_list_lem A P t h)

  -- ---- the whole

  pub numbers_are : numbers_by s n dims counts steps roots goals edges ≡ section_of 2 n (2 ^ s) (table_of s n rows)
  unfolding numbers_by size_numbers section_of
  numbers_are = (λ i. 2 ∷ n ∷ 2 ^ s ∷ ((counts_are i ++ steps_are i)
      ++ (roots_are i ++ (goals_are i ++ (pairs i ++ symbols i)))))
      ∙ ap (λ l. 2 ∷ n ∷ 2 ^ s ∷ l) (append_assoc (each (vertex_count n table) (suc n)) (each (edge_count n table) n)
      (keys n table 0 ++ (keys n table n ++ (flat_map pair_of (joined_up (edges_at n table) n)
      ++ map symbol_of (joined_up (edges_at n table) n)))))
    where
      pairs : joined_up (step_pairs edges steps dims) n ≡ flat_map pair_of (joined_up (edges_at n table) n)
      pairs = pairs_are E fits ∙ ap (flat_map pair_of) edges_are

      symbols : joined_up (step_symbols edges steps dims) n ≡ map symbol_of (joined_up (edges_at n table) n)
      symbols = symbols_are E fits ∙ ap (map symbol_of) edges_are

  pub length_is : length_by n counts total ≡ length (section_of 2 n (2 ^ s) (table_of s n rows))
  length_is = sym (section_long 2 n (2 ^ s) table
      ∙ ap₂ (λ x y. 4 + 2 * n + x + 3 * y) (ap₂ (λ x y. x + y) (sym (P.counted 0 (omega arith))) (sym (P.counted n (le_refl n))))
      (ap length (sym edges_are) ∙ list_length E))

  pub length_asked : LengthAsked n counts total
  length_asked = record { steps = A.symbols; vertex_places = omega (arith, A.symbols, P.count_places); few_edges = total_few }

  pub section_asked : {needed : ℕ} → needed ≡ length_by n counts total → (section : List ℕ) → needed ≤ length section
      → PartsAsked s n dims counts steps roots goals edges section
  unfolding vertex_count
  section_asked {needed} e section h = record {
    bits = A.states;
    symbols = A.symbols;
    dim_places = P.dim_places;
    count_places = P.count_places;
    step_places = E.places;
    short = P.few;
    root_places = P.root_states.sixteen;
    goal_places = P.goal_states.sixteen;
    few_roots = omega (arith, P.counted 0 (omega arith), front_few P.root_states);
    few_goals = omega (arith, P.counted n (le_refl n), front_few P.goal_states);
    inside = omega (arith, total_is E, fits, wrote_length E.noted);
    pairs_long = pairs_length E fits ∙ ap (λ k. 2 * k) (sym (total_is E));
    symbols_long = symbols_length E fits ∙ sym (total_is E);
    room = subst (λ k. length_by n counts k ≤ length section) (sym (total_is E)) (subst (λ k. k ≤ length section) e h);
  }
