-- The whole file. The words are all sums of the rows by rising choice, and the labels all sums of the rows' labels, which are the labels of
-- the words. A sum of narrow rows is narrow. So the pieces of the file, one behind another, are the bytes of the table.
use mathlib.Core.Path.{◌≡◌, refl, sym, ap, ap₂, subst, ◌∙◌}
use mathlib.Core.List.{List, ◌∷◌, ◌++◌, map, flat_map}
use Prim.Native.Nat.{ℕ, ◌+◌, ◌*◌, ◌/◌, ◌^◌, ◌≤◌, ◌<◌}
use native.Mathlib.Omega.{arith}
use native.Mathlib.Nat.{zero-add}
use lib.ListN.{length, get_or, take, length-map}
use lib.Seq.{take-append_seam, length-take-le}
use lib.Pow.{pow_mono}
use Rattle.trellis.specs.Lists.{each, over}
use Rattle.trellis.specs.Word.{Word}
use Rattle.trellis.specs.Inner.Write.{Wrote}
use Rattle.trellis.proofs.Lists.{length_run, each_at, length_two, flat_map_map}
use Rattle.trellis.proofs.Write.{wrote_then, wrote_front, wrote_length}
use Rattle.word_file.specs.TableBytes.{bytes_of, pair_bytes, label_bytes, table_bytes}
use Rattle.word_file.proofs.Writing.{table_length}
use Rattle.rows.specs.Sums.{sum_of}
use Rattle.rows.specs.Table.{row_width, spread, word_of}
use Rattle.rows.specs.Inner.Reduced.{Narrow}
use Rattle.rows.proofs.Sums.{sum_is}
use Rattle.rows.proofs.Growing.{narrow_sum}
use Rattle.parity.specs.Inner.Front.{Front}
use Rattle.row_labels.specs.Inner.Labels.{labels_of}
use Rattle.row_labels.proofs.Spread.{labels_sums}
use Rattle.row_file.specs.Inner.Filing.{FileAsked, state_bytes}

-- ---- the arrays

-- the words and the labels, in front of arrays of 1,024
pub record Filled (rows : List ℕ) (s n : ℕ) (words labels : List ℕ) (count : ℕ) : Type 0 where
  pub words_are : take count words ≡ each (sum_of rows) count
  pub labels_are : take count labels ≡ labels_of s n (each (sum_of rows) count)
  pub many : count ≡ 2 ^ length rows
  pub few : count ≤ 1024
  pub words_long : length words ≡ 1024
  pub labels_long : length labels ≡ 1024

-- what is written from the front on stands there
record InFront (rows array : List ℕ) : Type 0 where
  are : take (2 ^ length rows) array ≡ each (sum_of rows) (2 ^ length rows)
  long : length array ≡ 1024

in_front : (rows : List ℕ) {zeros array : List ℕ} {count : ℕ} → length rows ≤ 10 → length zeros ≡ 1024
    → Wrote zeros 0 (each (sum_of rows) (2 ^ length rows)) array count → InFront rows array
in_front rows {zeros} {array} h l W =
    let vs : List ℕ = each (sum_of rows) (2 ^ length rows) in
    let e : length vs ≡ 2 ^ length rows = length_run (sum_of rows) 0 (2 ^ length rows) in
    record {
      are = ap₂ (λ k m. take k m) (sym e) (wrote_front W (omega (arith, pow_mono {i = length rows} {j = 10} h))) ∙ take-append_seam vs _;
      long = wrote_length W ∙ l;
    }

module _ (rows : List ℕ) (s n : ℕ) {parts : List ℕ} (F : Front (labels_of s n rows) parts) where
  -- the labels of the rows
  parts_are : take (length rows) parts ≡ labels_of s n rows
  parts_are = ap (λ k. take k parts) (sym (length-map rows (λ r. spread n (r / 2 ^ s)))) ∙ F.are

  pub parts_length : length (take (length rows) parts) ≡ length rows
  parts_length = ap length parts_are ∙ length-map rows (λ r. spread n (r / 2 ^ s))

  pub filled : {file zeros words empty labels : List ℕ} {count more : ℕ} → FileAsked rows s n file → length zeros ≡ 1024
      → length empty ≡ 1024 → Wrote zeros 0 (each (sum_of rows) (2 ^ length rows)) words count
      → Wrote empty 0 (each (sum_of (take (length rows) parts)) (2 ^ length (take (length rows) parts))) labels more
      → Filled rows s n words labels count
  filled {file} {zeros} {words} {empty} {labels} {count} A a b P Q =
      let many : count ≡ 2 ^ length rows = P.end_is ∙ zero-add _ ∙ length_run (sum_of rows) 0 (2 ^ length rows) in
      let X = in_front rows A.few a P in
      let Y = in_front (take (length rows) parts) (omega (arith, parts_length, A.few)) b Q in
      let l : take (2 ^ length rows) labels ≡ each (sum_of (labels_of s n rows)) (2 ^ length rows) =
      ap (λ k. take (2 ^ k) labels) (sym parts_length) ∙ Y.are ∙ ap₂ (λ r k. each (sum_of r) (2 ^ k)) parts_are parts_length in
      record {
        words_are = subst (λ k. take k words ≡ each (sum_of rows) k) (sym many) X.are;
        labels_are = subst (λ k. take k labels ≡ labels_of s n (each (sum_of rows) k)) (sym many)
            (l ∙ labels_sums s n rows 0 (2 ^ length rows));
        many = many;
        few = omega (arith, pow_mono {i = length rows} {j = 10} A.few);
        words_long = X.long;
        labels_long = Y.long;
      }

-- ---- the pieces

module _ {rows : List ℕ} {s n : ℕ} {words labels : List ℕ} {count : ℕ} (F : Filled rows s n words labels count) where
  pub words_length : length (take count words) ≡ count
  words_length = length-take-le count words (omega (arith, F.few, F.words_long))

  pub labels_length : length (take count labels) ≡ count
  labels_length = length-take-le count labels (omega (arith, F.few, F.labels_long))

  module _ {file : List ℕ} (A : FileAsked rows s n file) where
    pub words_narrow : Narrow (row_width s n) (take count words)
    words_narrow j h =
        let e : get_or (take count words) j 0 ≡ sum_of rows j =
        ap (λ l. get_or l j 0) F.words_are ∙ each_at (sum_of rows) count j 0 (omega (arith, words_length)) in
        subst (λ x. x < 2 ^ row_width s n) (sym e) (narrow_sum (row_width s n) rows A.narrow (sum_of rows j) (sum_is rows j))

    -- there is room for the states behind the sizes
    pub states_room : {a : List ℕ} → Wrote file 0 (2 ∷ n ∷ 2 ^ s ∷ bytes_of count) a 5 → 5 + 2 * length (take count words) ≤ length a
    states_room P = omega (arith, words_length, wrote_length P, F.many, A.room)

    module _ {a b : List ℕ} {m : ℕ} (P : Wrote file 0 (2 ∷ n ∷ 2 ^ s ∷ bytes_of count) a 5)
        (Q : Wrote a 5 (flat_map (state_bytes s n) (take count words)) b m) where
      pub states_end : m ≡ 5 + 2 * count
      states_end = Q.end_is ∙ ap (λ k. 5 + k) (length_two (state_bytes s n) (take count words) (λ x. refl) ∙ ap (λ k. 2 * k) words_length)

      -- there is room for the labels behind the states
      pub labels_room : m + 2 * length (take count labels) ≤ length b
      labels_room = omega (arith, states_end, labels_length, wrote_length P, wrote_length Q, F.many, A.room)

      pub whole : {d : List ℕ} {e : ℕ} → Wrote b m (flat_map bytes_of (take count labels)) d e
          → d ≡ over (table_bytes 2 n (2 ^ s) (map (word_of s n) (each (sum_of rows) (2 ^ length rows)))) file
      unfolding table_bytes
      whole {d} {e} R =
          subst (λ k. d ≡ over (table_bytes 2 n (2 ^ s) (map (word_of s n) (each (sum_of rows) k))) file) F.many (wrote_front written fits)
        where
          sums : List ℕ
          sums = each (sum_of rows) count

          table : List Word
          table = map (word_of s n) sums

          table_count : length table ≡ count
          table_count = length-map sums (word_of s n) ∙ length_run (sum_of rows) 0 count

          states_are : flat_map (state_bytes s n) (take count words) ≡ flat_map pair_bytes table
          states_are = ap (flat_map (state_bytes s n)) F.words_are ∙ sym (flat_map_map pair_bytes (word_of s n) sums)

          labels_are : flat_map bytes_of (take count labels) ≡ flat_map label_bytes table
          labels_are = ap (flat_map bytes_of) F.labels_are ∙ flat_map_map bytes_of (λ x. spread n (x / 2 ^ s)) sums
              ∙ sym (flat_map_map label_bytes (word_of s n) sums)

          written : Wrote file 0 (table_bytes 2 n (2 ^ s) table) d e
          written = subst (λ l. Wrote file 0 (2 ∷ n ∷ 2 ^ s ∷ l) d e)
              (ap₂ (λ k l. bytes_of k ++ l) (sym table_count) (ap₂ (λ x y. x ++ y) states_are labels_are)) (wrote_then P (wrote_then Q R))

          fits : length (table_bytes 2 n (2 ^ s) table) ≤ length file
          fits = omega (arith, table_length 2 n (2 ^ s) table, table_count, F.many, A.room)
