-- What take_edges leaves, for the two arrays made of it. The steps' edges stand one behind another in the buffer, so the part of step t, by
-- the counts, is the edges of step t; and pairs and symbols, made step by step, are those of all edges joined.
use mathlib.Core.Path.{◌≡◌, refl, sym, ap, ap₂, ◌∙◌}
use mathlib.Core.List.{List, [], ◌++◌, map, flat_map, map-append}
use Prim.Native.Nat.{ℕ, zero, suc, ◌+◌, ◌*◌, ◌≤◌, ◌<◌}
use native.Mathlib.Omega.{arith}
use lib.ListN.{length, get_or, drop, length-drop, length-map}
use lib.Seq.{length-take-le, get_or-take, get_or-drop, ext_get_or}
use Rattle.trellis.specs.Own.{Edge}
use Rattle.trellis.specs.Layout.{joined_up, pair_of, symbol_of}
use Rattle.trellis.proofs.Lists.{sum_eq, flat_map_append, length_two}
use Rattle.trellis.proofs.Write.{wrote_length, wrote_at}
use Rattle.trellis.proofs.Joined.{lengths_before, joined_length, joined_at}
use Rattle.rows.specs.Inner.Edges.{edge_from}
use Rattle.row_arcs.specs.Inner.Arcs.{step_sums, AllEdges}
use Rattle.row_pieces.specs.Inner.Pieces.{edges_to, step_part, pairs_from, symbols_from, step_pairs, step_symbols}
use Rattle.row_edges.proofs.AllPieces.{edges_rise}

-- what is made piece by piece is made of the pieces joined
joined_through : {A : Type 0} (put : List A → List ℕ) → put [] ≡ [] → ((xs ys : List A) → put (xs ++ ys) ≡ put xs ++ put ys)
    → (f : ℕ → List ℕ) (g : ℕ → List A) (count : ℕ) → ((t : ℕ) → t < count → f t ≡ put (g t)) → joined_up f count ≡ put (joined_up g count)
unfolding joined_up
joined_through put nothing parts f g zero h = sym nothing
joined_through put nothing parts f g (suc count) h =
    ap₂ (λ xs ys. xs ++ ys) (joined_through put nothing parts f g count (λ t l. h t (omega arith))) (h count (omega arith))
    ∙ sym (parts (joined_up g count) (g count))

-- the edges of step t
abbrev pub step_list : List ℕ → ℕ → List ℕ → ℕ → ℕ → List ℕ → ℕ → List Edge
step_list m w rows s n dims t = map (edge_from (get_or dims (suc t) 0)) (step_sums m w rows s n dims t)

module _ {m : List ℕ} {w : ℕ} {rows : List ℕ} {s n : ℕ} {dims old new : List ℕ} {total : ℕ} {counts : List ℕ}
    (A : AllEdges m w rows s n dims old new total counts) where
  abbrev step_numbers : ℕ → List ℕ
  step_numbers = step_sums m w rows s n dims

  before_is : (t : ℕ) → t ≤ n → edges_to counts t ≡ lengths_before step_numbers t
  before_is t h = sum_eq (λ u. get_or counts u 0) (λ u. length (step_numbers u)) 0 t (λ u a b. A.counted u (omega arith))

  pub total_is : edges_to counts n ≡ total
  total_is = before_is n (omega arith) ∙ sym (joined_length step_numbers n) ∙ omega (arith, A.noted.end_is)

  pub list_length : length (joined_up (step_list m w rows s n dims) n) ≡ total
  list_length = joined_length (step_list m w rows s n dims) n
      ∙ sum_eq (λ u. length (step_list m w rows s n dims u)) (λ u. get_or counts u 0) 0 n
      (λ u a b. length-map (step_numbers u) (edge_from (get_or dims (suc u) 0)) ∙ sym (A.counted u (omega arith)))
      ∙ total_is

  module _ (fit : total ≤ length old) where
    pub parts_are : (t : ℕ) → t < n → step_part new counts t ≡ step_sums m w rows s n dims t
    parts_are t h = ext_get_or 0 (step_part new counts t) (step_numbers t) (long ∙ A.counted t h)
        (λ k l.
        let j : k < get_or counts t 0 = omega (arith, long) in
        get_or-take (get_or counts t 0) (drop (edges_to counts t) new) k 0 j ∙ get_or-drop (edges_to counts t) new k 0
        ∙ ap (λ i. get_or new i 0) (place k)
        ∙ wrote_at A.noted (omega (arith, A.noted.end_is)) (lengths_before step_numbers t + k) (inside k j)
        ∙ joined_at step_numbers n t k 0 h (omega (arith, A.counted t h)))
      where
        long : length (step_part new counts t) ≡ get_or counts t 0
        long = length-take-le (get_or counts t 0) (drop (edges_to counts t) new) (omega (
          arith,
          length-drop (edges_to counts t) new,
          edges_rise counts t n h,
          total_is,
          wrote_length A.noted,
        ))

        place : (k : ℕ) → edges_to counts t + k ≡ 0 + (lengths_before step_numbers t + k)
        place k = omega (arith, before_is t (omega arith))

        inside : (k : ℕ) → k < get_or counts t 0 → lengths_before step_numbers t + k < length (joined_up step_numbers n)
        inside k l = omega (arith, before_is t (omega arith), edges_rise counts t n h, total_is, A.noted.end_is)

    pub pairs_are : joined_up (step_pairs new counts dims) n ≡ flat_map pair_of (joined_up (step_list m w rows s n dims) n)
    unfolding pairs_from flat_map
    pairs_are = joined_through (flat_map pair_of) refl (flat_map_append pair_of) (step_pairs new counts dims) (step_list m w rows s n dims) n
        (λ t h. ap (pairs_from (get_or dims (suc t) 0)) (parts_are t h))

    pub symbols_are : joined_up (step_symbols new counts dims) n ≡ map symbol_of (joined_up (step_list m w rows s n dims) n)
    unfolding symbols_from
    symbols_are = joined_through (map symbol_of) refl (map-append symbol_of) (step_symbols new counts dims) (step_list m w rows s n dims) n
        (λ t h. ap (symbols_from (get_or dims (suc t) 0)) (parts_are t h))

    pub pairs_length : length (joined_up (step_pairs new counts dims) n) ≡ 2 * total
    pairs_length = ap length pairs_are ∙ length_two pair_of (joined_up (step_list m w rows s n dims) n) (λ e. refl)
        ∙ ap (λ k. 2 * k) list_length

    pub symbols_length : length (joined_up (step_symbols new counts dims) n) ≡ total
    symbols_length = ap length symbols_are ∙ length-map (joined_up (step_list m w rows s n dims) n) symbol_of ∙ list_length
