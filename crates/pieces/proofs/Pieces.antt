-- What the loops over the first words keep: the piece of the layout that is written so far.
use mathlib.Core.Path.{◌≡◌, refl, sym, ap, subst, ◌∙◌}
use mathlib.Core.List.{List, [], ◌∷◌, ◌++◌, flat_map, map-append}
use Prim.Native.Nat.{ℕ, suc, ◌+◌, ◌-◌, ◌*◌, ◌<◌, ◌≤◌}
use native.Mathlib.Nat.{mul-zero, mul-suc, add-zero}
use native.Mathlib.Omega.{arith}
use native.Mathlib.Numerals.{add-one}
use lib.ListN.{length, get_or, set}
use Rattle.trellis.specs.Lists.{run}
use Rattle.trellis.specs.Label.{symbol}
use Rattle.trellis.specs.Inner.Write.{Wrote}
use Rattle.trellis.proofs.Lists.{run_snoc, flat_map_append}
use Rattle.trellis.proofs.Write.{wrote_none, wrote_then, wrote_length}
use Rattle.takers.specs.Inner.Pieces.{part, pairs_of, symbols_of, WordsAt}

-- one word more
part_more : (l : List ℕ) (lo k : ℕ) → lo ≤ k → part l lo (k + 1 - lo) ≡ part l lo (k - lo) ++ (get_or l k 0 ∷ [])
part_more l lo k h =
    let e : k + 1 - lo ≡ suc (k - lo) = omega arith in
    let f : lo + (k - lo) ≡ k = omega arith in
    ap (part l lo) e ∙ run_snoc (λ i. get_or l i 0) lo (k - lo) ∙ ap (λ i. part l lo (k - lo) ++ (get_or l i 0 ∷ [])) f

-- piece gives `size` numbers for each word
pub record InPiece (piece : List ℕ → List ℕ) (size : ℕ) (l : List ℕ) (lo hi : ℕ) (old : List ℕ) (at : ℕ) (new : List ℕ)
    (to k : ℕ) : Type 0 where
  pub low : lo ≤ k
  pub high : k ≤ hi
  pub wrote : Wrote old at (piece (part l lo (k - lo))) new to
  pub to_is : to ≡ at + size * (k - lo)
  pub len : length new ≡ length old

-- a piece is made word by word
pub record Piecewise (piece : List ℕ → List ℕ) : Type 0 where
  pub nothing : piece [] ≡ []
  pub parts : (ks js : List ℕ) → piece (ks ++ js) ≡ piece ks ++ piece js

pub piece_none : {piece : List ℕ → List ℕ} (size : ℕ) → Piecewise piece → (l : List ℕ) (lo hi : ℕ) (old : List ℕ) (at : ℕ) → lo ≤ hi
    → InPiece piece size l lo hi old at old at lo
unfolding run
piece_none {piece} size P l lo hi old at h = record {
  low = omega arith;
  high = h;
  wrote =
      let e : lo - lo ≡ 0 = omega arith in
      subst (λ vs. Wrote old at vs old at) (sym (ap (λ c. piece (part l lo c)) e ∙ P.nothing)) wrote_none;
  to_is = let e : lo - lo ≡ 0 = omega arith in rw (e, mul-zero size) (sym (add-zero at));
  len = refl;
}

pub piece_more : {piece : List ℕ → List ℕ} {size : ℕ} {l old new new' : List ℕ} {lo hi at to k end : ℕ} → Piecewise piece
    → InPiece piece size l lo hi old at new to k
    → Wrote new to (piece (get_or l k 0 ∷ [])) new' end → length (piece (get_or l k 0 ∷ [])) ≡ size → k < hi
    → InPiece piece size l lo hi old at new' end (k + 1)
piece_more {piece} {size} {l} {old} {new} {new'} {lo} {hi} {at} {to} {k} {end} P c W s h = record {
  low = omega (arith, c.low);
  high = omega arith;
  wrote = subst (λ vs. Wrote old at vs new' end)
      (sym (ap piece (part_more l lo k c.low) ∙ P.parts (part l lo (k - lo)) (get_or l k 0 ∷ []))) (wrote_then c.wrote W);
  to_is =
      let e : k + 1 - lo ≡ suc (k - lo) = omega (arith, c.low) in
      rw (e, mul-suc size (k - lo)) (omega (arith, W.end_is, s, c.to_is));
  len = wrote_length W ∙ c.len;
}

pub piece_end : {piece : List ℕ → List ℕ} {size : ℕ} {l old new : List ℕ} {lo hi at to k : ℕ} → InPiece piece size l lo hi old at new to k
    → hi ≤ k → Wrote old at (piece (part l lo (hi - lo))) new to
piece_end {piece} {size} {l} {old} {new} {lo} {hi} {at} {to} {k} c h = let e : k ≡ hi = omega (arith, c.high) in
    subst (λ j. Wrote old at (piece (part l lo (j - lo))) new to) e c.wrote

pub pairs_piece : (m : List ℕ) (words row : ℕ) → Piecewise (pairs_of m words row)
unfolding pairs_of flat_map
pairs_piece m words row = record { nothing = refl; parts = λ ks js. flat_map_append (λ x'. get_or m (row + x') 0 ∷ get_or m (row + words + x') 0 ∷ []) ks js }

pub symbols_piece : (labels : List ℕ) (n t : ℕ) → Piecewise (symbols_of labels n t)
unfolding symbols_of
symbols_piece labels n t = record { nothing = refl; parts = λ ks js. map-append _ ks js }

-- one word's pair and one word's symbol, written
pub pair_more : (m : List ℕ) (words row : ℕ) {l old new : List ℕ} {lo hi at to k i a b : ℕ}
    → InPiece (pairs_of m words row) 2 l lo hi old at new to k
    → i ≡ get_or l k 0 → a ≡ get_or m (row + i) 0 → b ≡ get_or m (row + words + i) 0 → k < hi
    → InPiece (pairs_of m words row) 2 l lo hi old at (set (set new to a) (to + 1) b) (to + 2) (k + 1)
unfolding pairs_of flat_map
pair_more m words row {l} {old} {new} {lo} {hi} {at} {to} {k} {i} {a} {b} c e p q h =
    piece_more (pairs_piece m words row) c (record { new_is = rw (add-one to, p, q, e); end_is = refl }) refl h

pub symbol_more : (labels : List ℕ) (n t : ℕ) {l old new : List ℕ} {lo hi at to k i a : ℕ}
    → InPiece (symbols_of labels n t) 1 l lo hi old at new to k
    → i ≡ get_or l k 0 → a ≡ symbol n t (get_or labels i 0) → k < hi
    → InPiece (symbols_of labels n t) 1 l lo hi old at (set new to a) (to + 1) (k + 1)
unfolding symbols_of
symbol_more labels n t {l} {old} {new} {lo} {hi} {at} {to} {k} {i} {a} c e p h =
    piece_more (symbols_piece labels n t) c (record { new_is = rw (p, e); end_is = refl }) refl h

-- the word at place k
pub word_below : {piece : List ℕ → List ℕ} {size words : ℕ} {l old new : List ℕ} {lo hi at to k i : ℕ} → WordsAt l lo hi words
    → InPiece piece size l lo hi old at new to k
    → i ≡ get_or l k 0 → k < hi → i < words
word_below {piece} {size} {words} {l} {old} {new} {lo} {hi} {at} {to} {k} {i} W c e h = omega (arith, e, W.below k c.low h)
