-- The pairs and the symbols of edges, written edge by edge: what is written so far is that of the first k edges, and one edge more is two
-- numbers or one. In the end these are all the edges.
use mathlib.Core.Path.{◌≡◌, refl, ap, subst, ◌∙◌}
use mathlib.Core.List.{List, map, flat_map, map-append}
use Prim.Native.Nat.{ℕ, ◌+◌, ◌/◌, ◌%◌, ◌^◌, ◌<◌, ◌≤◌}
use native.Mathlib.Omega.{arith}
use native.Mathlib.Nat.{zero-add, add-zero, sub-zero}
use native.Mathlib.Numerals.{add-one}
use lib.ListN.{length, get_or, set}
use lib.Seq.{ext_get_or}
use Rattle.trellis.specs.Layout.{pair_of, symbol_of}
use Rattle.trellis.specs.Inner.Write.{Wrote}
use Rattle.trellis.proofs.Lists.{length_run, run_at, flat_map_append}
use Rattle.takers.specs.Inner.Pieces.{part}
use Rattle.pieces.proofs.Pieces.{Piecewise, InPiece, piece_none, piece_more, piece_end}
use Rattle.rows.specs.Inner.Reduced.{bit_at}
use Rattle.rows.specs.Inner.Edges.{edge_from}
use Rattle.row_pieces.specs.Inner.Pieces.{pairs_from, symbols_from}

pub pairs_piece : (dim : ℕ) → Piecewise (pairs_from dim)
unfolding pairs_from flat_map
pairs_piece dim = record {
  nothing = refl;
  parts = λ ks js.
      ap (flat_map pair_of) (map-append (edge_from dim) ks js) ∙ flat_map_append pair_of (map (edge_from dim) ks) (map (edge_from dim) js);
}

symbols_piece : (dim : ℕ) → Piecewise (symbols_from dim)
unfolding symbols_from
symbols_piece dim = record {
  nothing = refl;
  parts = λ ks js.
      ap (map symbol_of) (map-append (edge_from dim) ks js) ∙ map-append symbol_of (map (edge_from dim) ks) (map (edge_from dim) js);
}

-- the first k edges are written
abbrev pub Put : (List ℕ → List ℕ) → ℕ → List ℕ → List ℕ → ℕ → List ℕ → ℕ → ℕ → Type 0
Put piece size edges old at new to k = InPiece piece size edges 0 (length edges) old at new to k

pub put_none : {piece : List ℕ → List ℕ} (size : ℕ) → Piecewise piece → (edges old : List ℕ) (at : ℕ) → Put piece size edges old at old at 0
put_none size P edges old at = piece_none size P edges 0 (length edges) old at (omega arith)

-- symbols stand at at + k
pub symbols_none : (dim : ℕ) (edges old : List ℕ) (at : ℕ) → Put (symbols_from dim) 1 edges old at old (at + 0) 0
symbols_none dim edges old at = rw (add-zero at) (put_none 1 (symbols_piece dim) edges old at)

pub pair_more : (dim : ℕ) {edges old new : List ℕ} {at to k a b : ℕ} → Put (pairs_from dim) 2 edges old at new to k
    → a ≡ get_or edges k 0 / 2 ^ dim / 2 → b ≡ get_or edges k 0 % 2 ^ dim → k < length edges
    → Put (pairs_from dim) 2 edges old at (set (set new to a) (to + 1) b) (to + 2) (k + 1)
unfolding pairs_from flat_map
pair_more dim {edges} {old} {new} {at} {to} {k} {a} {b} c p q h =
    piece_more (pairs_piece dim) c (record { new_is = rw (add-one to, p, q); end_is = refl }) refl h

pub symbol_more : (dim : ℕ) {edges old new : List ℕ} {at k a : ℕ} → Put (symbols_from dim) 1 edges old at new (at + k) k
    → a ≡ bit_at dim (get_or edges k 0) → k < length edges → Put (symbols_from dim) 1 edges old at (set new (at + k) a) (at + (k + 1)) (k + 1)
unfolding symbols_from bit_at
symbol_more dim {edges} {old} {new} {at} {k} {a} c p h =
    piece_more (symbols_piece dim) c (record { new_is = rw p; end_is = omega arith }) refl h

part_whole : (l : List ℕ) → part l 0 (length l) ≡ l
part_whole l = ext_get_or 0 (part l 0 (length l)) l long
    (λ i h. run_at (λ k. get_or l k 0) 0 (length l) i 0 (omega (arith, long)) ∙ ap (λ k. get_or l k 0) (zero-add i))
  where
    long : length (part l 0 (length l)) ≡ length l
    long = length_run (λ k. get_or l k 0) 0 (length l)

pub put_end : {piece : List ℕ → List ℕ} {size : ℕ} {edges old new : List ℕ} {at to k : ℕ} → Put piece size edges old at new to k
    → length edges ≤ k → Wrote old at (piece edges) new to
put_end {piece} {size} {edges} {old} {new} {at} {to} {k} c h = subst (λ l. Wrote old at (piece l) new to)
    (ap (part edges 0) (sub-zero (length edges)) ∙ part_whole edges) (piece_end c h)

pub symbols_end : (dim : ℕ) {edges old new : List ℕ} {at k : ℕ} → Put (symbols_from dim) 1 edges old at new (at + k) k
    → length edges ≤ k → Wrote old at (symbols_from dim edges) new (at + length edges)
symbols_end dim {edges} {old} {new} {at} {k} c h =
    let e : at + k ≡ at + length edges = omega (arith, c.high) in
    subst (λ m. Wrote old at (symbols_from dim edges) new m) e (put_end c h)
