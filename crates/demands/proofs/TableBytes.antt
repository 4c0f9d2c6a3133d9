-- The bytes that a table file has for a table, read as document 01 lays them out, give the table again: byte 5 + 2i is the root of word i,
-- the byte behind it the goal, and behind all pairs stand the labels, low byte first.
use mathlib.Core.Path.{◌≡◌, refl, sym, ap, ap₂, ◌∙◌}
use mathlib.Core.List.{List, [], ◌∷◌, ◌++◌, flat_map}
use Prim.Native.Nat.{ℕ, zero, suc, ◌+◌, ◌*◌, ◌/◌, ◌%◌, ◌<◌}
use native.Mathlib.Omega.{arith}
use native.Mathlib.Nat.{div-add-mod', not-suc-le-zero}
use lib.ListN.{length, get_or}
use lib.Seq.{get_or-append-add, ext_get_or}
use Rattle.trellis.specs.Lists.{each}
use Rattle.trellis.specs.Word.{Word, word, word_at}
use Rattle.trellis.proofs.Lists.{length_run, each_at, length_two}
use Rattle.trellis.proofs.Words.{word_eq}
use Rattle.fields.specs.Fields.{byte_at, two_bytes, word_count, file_word, file_words}
use Rattle.word_file.specs.TableBytes.{pair_bytes, label_bytes, table_bytes}

-- ---- two bytes for each word

pair_at : (l : List Word) (rest : List ℕ) (i : ℕ) → i < length l
    → (get_or (flat_map pair_bytes l ++ rest) (2 * i) 0 ≡ (word_at l i).root)
    × (get_or (flat_map pair_bytes l ++ rest) (suc (2 * i)) 0 ≡ (word_at l i).goal)
unfolding flat_map
pair_at [] rest i h = absurd (not-suc-le-zero h)
pair_at (w ∷ l) rest zero h = (refl, refl)
pair_at (w ∷ l) rest (suc i) h =
    let e : 2 * suc i ≡ suc (suc (2 * i)) = omega arith in
    let r = pair_at l rest i (omega arith) in (
      ap (λ k. get_or (w.root ∷ w.goal ∷ (flat_map pair_bytes l ++ rest)) k 0) e ∙ r.0,
      ap (λ k. get_or (w.root ∷ w.goal ∷ (flat_map pair_bytes l ++ rest)) (suc k) 0) e ∙ r.1,
    )

label_at : (l : List Word) (i : ℕ) → i < length l
    → (get_or (flat_map label_bytes l) (2 * i) 0 ≡ (word_at l i).label % 256)
    × (get_or (flat_map label_bytes l) (suc (2 * i)) 0 ≡ (word_at l i).label / 256)
unfolding flat_map
label_at [] i h = absurd (not-suc-le-zero h)
label_at (w ∷ l) zero h = (refl, refl)
label_at (w ∷ l) (suc i) h =
    let e : 2 * suc i ≡ suc (suc (2 * i)) = omega arith in
    let r = label_at l i (omega arith) in (
      ap (λ k. get_or (w.label % 256 ∷ w.label / 256 ∷ flat_map label_bytes l) k 0) e ∙ r.0,
      ap (λ k. get_or (w.label % 256 ∷ w.label / 256 ∷ flat_map label_bytes l) (suc k) 0) e ∙ r.1,
    )

-- ---- the file

module _ (q n S : ℕ) (l : List Word) where
  abbrev file : List ℕ
  file = table_bytes q n S l

  -- what stands behind the sizes
  abbrev behind : List ℕ
  behind = flat_map pair_bytes l ++ flat_map label_bytes l

  pub count_back : word_count (table_bytes q n S l) ≡ length l
  unfolding table_bytes word_count
  count_back = omega (arith, div-add-mod' (length l) 256)

  byte_behind : (i k : ℕ) → i ≡ suc (suc (suc (suc (suc k)))) → byte_at file i ≡ get_or behind k 0
  unfolding table_bytes
  byte_behind i k e = ap (λ j. get_or file j 0) e

  label_byte : (i k : ℕ) → i ≡ suc (suc (suc (suc (suc (2 * length l + k))))) → byte_at file i ≡ get_or (flat_map label_bytes l) k 0
  label_byte i k e =
      byte_behind i (2 * length l + k) e ∙ ap (λ m. get_or behind (m + k) 0) (sym (length_two pair_bytes l (λ w. refl)))
      ∙ get_or-append-add (flat_map pair_bytes l) (flat_map label_bytes l) k 0

  word_back : (i : ℕ) → i < length l → file_word (table_bytes q n S l) i ≡ word_at l i
  unfolding file_word
  word_back i h =
      let p = pair_at l (flat_map label_bytes l) i h in
      let b = label_at l i h in
      let w = count_back in
      word_eq {v = file_word file i} {w = word_at l i} (byte_behind (5 + 2 * i) (2 * i) (omega arith) ∙ p.0)
      (ap₂ two_bytes (label_byte (5 + 2 * word_count file + 2 * i) (2 * i) (omega arith) ∙ b.0)
      (label_byte (5 + 2 * word_count file + 2 * i + 1) (suc (2 * i)) (omega arith) ∙ b.1)
      ∙ omega (arith, div-add-mod' (word_at l i).label 256))
      (byte_behind (5 + 2 * i + 1) (suc (2 * i)) (omega arith) ∙ p.1)

  pub words_back : file_words (table_bytes q n S l) ≡ l
  unfolding file_words
  words_back =
      let c = length_run (file_word file) 0 (word_count file) in
      ext_get_or (word 0 0 0) (each (file_word file) (word_count file)) l (c ∙ count_back)
      (λ i h. each_at (file_word file) (word_count file) i (word 0 0 0) (omega arith) ∙ word_back i (omega (arith, count_back)))
