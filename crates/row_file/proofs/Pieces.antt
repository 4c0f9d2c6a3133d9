-- Two bytes for each word, one behind another, are the bytes of all words; the laws of pieces are those of reading back. And the five bytes
-- of the sizes.
use mathlib.Core.Path.{◌≡◌, refl, sym, ap₂, subst}
use mathlib.Core.List.{List, [], ◌∷◌, flat_map}
use Prim.Native.Nat.{ℕ, ◌+◌, ◌*◌, ◌/◌, ◌%◌, ◌^◌, ◌≤◌}
use native.Mathlib.Omega.{arith}
use lib.ListN.{length, set}
use lib.Seq.{take-length}
use Rattle.trellis.specs.Inner.Write.{Wrote}
use Rattle.word_file.specs.TableBytes.{bytes_of}
use Rattle.word_file.proofs.Writing.{Pieces, pieces_all}
use Rattle.row_file.specs.Inner.Filing.{state_bytes}

-- ---- the sizes

pub sizes_put : (l : List ℕ) (n s count : ℕ) {b : ℕ} → b ≡ 2 ^ s
    → Wrote l 0 (2 ∷ n ∷ 2 ^ s ∷ bytes_of count) (set (set (set (set (set l 0 2) 1 n) 2 b) 3 (count % 256)) 4 (count / 256)) 5
sizes_put l n s count q = record { new_is = rw q; end_is = refl }

-- ---- what stands for each word

pub states_are : (s n x : ℕ) {a b : ℕ} → a ≡ x / 2 ^ (n + s) → b ≡ x % 2 ^ s → state_bytes s n x ≡ a ∷ b ∷ []
states_are s n x p q = sym (ap₂ (λ a b. a ∷ b ∷ []) p q)

-- ---- all of them

module _ {f : ℕ → List ℕ} {old : List ℕ} {start : ℕ} {l : List ℕ} {new : List ℕ} {at i : ℕ} (P : Pieces f old start l (length l) new at i)
    (all : length l ≤ i) where
  pub pieces_whole : Wrote old start (flat_map f l) new at
  pieces_whole = subst (λ k. Wrote old start (flat_map f k) new at) (take-length l) (pieces_all P all)

  pub pieces_end : Wrote old start (flat_map f l) new (start + 2 * length l)
  pieces_end =
      let e : at ≡ start + 2 * length l = omega (arith, P.at_is, P.inside) in
      subst (λ k. Wrote old start (flat_map f l) new k) e pieces_whole
