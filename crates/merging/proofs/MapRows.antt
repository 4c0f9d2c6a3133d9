-- The map row by row: a buffer that has each word's vertex at each depth in its front, and beyond it what stood there, is the map over that
-- buffer. Place j of the front is of word j % W at depth j / W.
use mathlib.Core.Path.{◌≡◌, sym, ap, ◌∙◌}
use mathlib.Core.List.{List, ◌++◌}
use Prim.Native.Nat.{ℕ, zero, suc, ◌+◌, ◌*◌, ◌/◌, ◌%◌, ◌<◌, ◌≤◌}
use native.Mathlib.Omega.{arith}
use native.Mathlib.Nat.{suc-mul, zero-mul, mul-le-mul_right, div-add-mod', div-lt_iff_lt-mul, mod-lt}
use native.Mathlib.Decide.{ℕ_discrete}
use lib.ListN.{length, get_or, length-append, get_or-append}
use lib.Seq.{get_or-append-add}
use Rattle.trellis.specs.Lists.{each, over}
use Rattle.trellis.specs.Word.{Word}
use Rattle.trellis.specs.Own.{vertex_of}
use Rattle.trellis.specs.Layout.{joined_up}
use Rattle.trellis.proofs.Lists.{length_run, each_at}
use Rattle.trellis.proofs.Buffers.{over_is}
use Rattle.merging.specs.Merging.{map_of}

-- ---- rows of one length

module _ (f : ℕ → ℕ → ℕ) (w : ℕ) where
  abbrev rows : ℕ → List ℕ
  rows m = joined_up (λ t. each (f t) w) m

  rows_length : (m : ℕ) → length (joined_up (λ t. each (f t) w) m) ≡ m * w
  unfolding joined_up
  rows_length zero = sym (zero-mul w)
  rows_length (suc m) = length-append (joined_up (λ t. each (f t) w) m) (each (f m) w)
      ∙ omega (arith, rows_length m, length_run (f m) 0 w, suc-mul m w)

  rows_at : (m t i : ℕ) → t < m → i < w → get_or (joined_up (λ t. each (f t) w) m) (t * w + i) 0 ≡ f t i
  unfolding joined_up
  rows_at zero t i h l = absurd (omega arith)
  rows_at (suc m) t i h l = go (ℕ_discrete t m) (rows_at m t i)
    where
      last : get_or (joined_up (λ t. each (f t) w) m ++ each (f m) w) (m * w + i) 0 ≡ f m i
      last =
          ap (λ k. get_or (joined_up (λ t. each (f t) w) m ++ each (f m) w) (k + i) 0) (sym (rows_length m))
          ∙ get_or-append-add (joined_up (λ t. each (f t) w) m) (each (f m) w) i 0 ∙ each_at (f m) w i 0 l

      before : t < m → t * w + i < length (joined_up (λ t. each (f t) w) m)
      before q = let p : suc t * w ≤ m * w = mul-le-mul_right w q in omega (arith, rows_length m, suc-mul t w)

      go : Dec (t ≡ m) → (t < m → i < w → get_or (joined_up (λ t. each (f t) w) m) (t * w + i) 0 ≡ f t i)
          → get_or (joined_up (λ t. each (f t) w) m ++ each (f m) w) (t * w + i) 0 ≡ f t i
      go (yes e) r = ap (λ k. get_or (joined_up (λ t. each (f t) w) m ++ each (f m) w) (k * w + i) 0) e ∙ last ∙ ap (λ k. f k i) (sym e)
      go (no e) r = get_or-append (joined_up (λ t. each (f t) w) m) (each (f m) w) 0 (t * w + i) (before (omega arith))
          ∙ r (omega arith) l

-- ---- a buffer with a front of its own

-- ---- the map

pub map_length_lem : (n : ℕ) (table : List Word) → length (map_of n table) ≡ suc n * length table
unfolding map_of
map_length_lem n table = rows_length (vertex_of n table) (length table) (suc n)

pub map_is_lem : (n : ℕ) (table : List Word) (old new : List ℕ) → 0 < length table → suc n * length table ≤ length old → length new ≡ length old
    → ((t i : ℕ) → t ≤ n → i < length table → get_or new (t * length table + i) 0 ≡ vertex_of n table t i)
    → ((j : ℕ) → suc n * length table ≤ j → get_or new j 0 ≡ get_or old j 0) → new ≡ over (map_of n table) old
unfolding map_of
map_is_lem n table old new some room len vertices behind =
    over_is (map_of n table) old new (omega (arith, map_length_lem n table)) len front (λ j h. behind j (omega (arith, map_length_lem n table)))
  where
    front : (j : ℕ) → j < length (map_of n table) → get_or new j 0 ≡ get_or (map_of n table) j 0
    front j h =
        let w = length table in
        let t = j / length table in
        let i = j % length table in
        let e : t * length table + i ≡ j = div-add-mod' j (length table) in
        let l : i < length table = mod-lt j some in
        let b : j < suc n * length table = omega (arith, map_length_lem n table) in
        let u : t < suc n = (div-lt_iff_lt-mul some).1 b in
        ap (λ k. get_or new k 0) (sym e) ∙ vertices t i (omega arith) l
        ∙ sym (rows_at (vertex_of n table) (length table) (suc n) t i u l) ∙ ap (λ k. get_or (map_of n table) k 0) e
