-- The table file put into the buffer piece by piece: two bytes for each number of an array, one behind another, are the bytes of the whole
-- list; and the pieces of a file, one behind another, are the file. Of words that fit, the bytes are those that document 01 asks for.
use mathlib.Core.Path.{◌≡◌, refl, sym, ap, ap₂, subst, ◌∙◌}
use mathlib.Core.List.{List, [], ◌∷◌, ◌++◌, append-nil, flat_map}
use Prim.Native.Nat.{ℕ, ◌+◌, ◌*◌, ◌/◌, ◌≤◌, ◌<◌}
use native.Mathlib.Omega.{arith}
use native.Mathlib.Nat.{mod-eq_of_lt}
use native.Mathlib.Numerals.{add-one}
use lib.ListN.{length, get_or, set, take, drop, length-append, length-set}
use lib.Seq.{take-suc, length-take-le}
use Rattle.trellis.specs.Bounds.{most_words}
use Rattle.trellis.specs.Inner.Write.{Wrote}
use Rattle.trellis.proofs.Lists.{flat_map_append, length_two}
use Rattle.trellis.proofs.Write.{wrote_none, wrote_then, wrote_front, wrote_length}
use Rattle.trellis.specs.Word.{Word}
use Rattle.codes.specs.Inner.Codes.{code_root, code_vertex, code_label}
use Rattle.word_file.specs.TableBytes.{table_bytes, pair_bytes, label_bytes}
use Rattle.word_file.specs.Inner.Written.{byte_of, pair_of_code, label_of_code, file_of_codes}

-- ---- two bytes for each number

pub record Pieces (f : ℕ → List ℕ) (old : List ℕ) (start : ℕ) (codes : List ℕ) (count : ℕ) (new : List ℕ) (at i : ℕ) : Type 0 where
  pub inside : i ≤ count
  pub so_far : Wrote old start (flat_map f (take i codes)) new at
  pub len : length new ≡ length old
  pub at_is : at ≡ start + 2 * i

module _ {f : ℕ → List ℕ} {old : List ℕ} {start : ℕ} {codes : List ℕ} {count : ℕ} where
  pub pieces_start : Pieces f old start codes count old start 0
  unfolding flat_map
  pieces_start = record { inside = omega arith; so_far = wrote_none; len = refl; at_is = omega arith }

  pub pieces_next : {new : List ℕ} {at i a b : ℕ} → Pieces f old start codes count new at i → i < count → count ≤ length codes
      → f (get_or codes i 0) ≡ a ∷ b ∷ []
      → Pieces f old start codes count (set (set new at a) (at + 1) b) (at + 2) (i + 1)
  unfolding flat_map
  pieces_next {new} {at} {i} {a} {b} p h l e = record {
    inside = omega arith;
    so_far =
        let t : take (i + 1) codes ≡ take i codes ++ (get_or codes i 0 ∷ []) = rw (add-one i) (take-suc codes i 0 (omega arith)) in
        let q : flat_map f (take (i + 1) codes) ≡ flat_map f (take i codes) ++ (a ∷ b ∷ []) =
        ap (flat_map f) t ∙ flat_map_append f (take i codes) (get_or codes i 0 ∷ [])
        ∙ ap (λ ys. flat_map f (take i codes) ++ ys) (append-nil (f (get_or codes i 0)) ∙ e) in
        let w : Wrote new at (a ∷ b ∷ []) (set (set new at a) (at + 1) b) (at + 2) = record { new_is = rw (add-one at); end_is = refl } in
        rw q (wrote_then p.so_far w);
    len = length-set (set new at a) (at + 1) b ∙ length-set new at a ∙ p.len;
    at_is = omega (arith, p.at_is);
  }

  pub pieces_all : {new : List ℕ} {at i : ℕ} → Pieces f old start codes count new at i → count ≤ i
      → Wrote old start (flat_map f (take count codes)) new at
  pieces_all {new} {at} {i} p h = let e : i ≡ count = omega (arith, p.inside) in
      subst (λ k. Wrote old start (flat_map f (take k codes)) new at) e p.so_far

pub pair_is : (goals : List ℕ) (c : ℕ) {r a v b : ℕ} → r ≡ code_root c → a ≡ byte_of r → v ≡ code_vertex c → b ≡ byte_of (get_or goals v 0)
    → pair_of_code goals c ≡ a ∷ b ∷ []
pair_is goals c p q r d = sym (ap₂ (λ a b. a ∷ b ∷ []) (q ∙ ap byte_of p) (d ∙ ap (λ v. byte_of (get_or goals v 0)) r))

pub label_is : (c : ℕ) {x w a b : ℕ} → x ≡ code_label c → w ≡ x → a ≡ byte_of w → b ≡ byte_of (w / 256)
    → label_of_code c ≡ a ∷ b ∷ []
label_is c {x} {w} p u q d =
    let e : w ≡ code_label c = u ∙ p in
    let small : byte_of (w / 256) ≡ w / 256 = mod-eq_of_lt (omega arith) in
    sym (ap₂ (λ a b. a ∷ b ∷ []) (q ∙ ap byte_of e) (d ∙ small ∙ ap (λ y. y / 256) e))

pub sizes_put : (l : List ℕ) (s : List ℕ) (count : ℕ) {a b c d e : ℕ} → a ≡ byte_of (get_or s 0 0) → b ≡ byte_of (get_or s 1 0)
    → c ≡ byte_of (get_or s 2 0) → d ≡ byte_of count → e ≡ byte_of (count / 256)
    → Wrote l 0 (byte_of (get_or s 0 0) ∷ byte_of (get_or s 1 0) ∷ byte_of (get_or s 2 0) ∷ byte_of count ∷ byte_of (count / 256) ∷ [])
    (set (set (set (set (set l 0 a) 1 b) 2 c) 3 d) 4 e) 5
sizes_put l s count p q r t u = record { new_is = rw (p, q, r, t, u); end_is = refl }

-- ---- the whole file

module _ (s goals codes : List ℕ) (count : ℕ) (room : count ≤ length codes) where
  pairs_length : length (flat_map (pair_of_code goals) (take count codes)) ≡ 2 * count
  pairs_length = length_two (pair_of_code goals) (take count codes) (λ c. refl) ∙ ap (λ k. 2 * k) (length-take-le count codes room)

  labels_length : length (flat_map label_of_code (take count codes)) ≡ 2 * count
  labels_length = length_two label_of_code (take count codes) (λ c. refl) ∙ ap (λ k. 2 * k) (length-take-le count codes room)

  pub file_length : length (file_of_codes s goals codes count) ≡ 5 + 4 * count
  unfolding file_of_codes
  file_length =
      let e = length-append (flat_map (pair_of_code goals) (take count codes)) (flat_map label_of_code (take count codes)) in
      omega (arith, pairs_length, labels_length)

  pub pairs_end : {a b : List ℕ} {e : ℕ} → Wrote a 5 (flat_map (pair_of_code goals) (take count codes)) b e → e ≡ 5 + 2 * count
  pairs_end w = w.end_is ∙ ap (λ k. 5 + k) pairs_length

  -- there is room for the labels behind the pairs
  pub labels_room : {a b c us : List ℕ} {m : ℕ} → 5 + 4 * count ≤ length a → Wrote a 0 us b 5
      → Wrote b 5 (flat_map (pair_of_code goals) (take count codes)) c m → m + 2 * count ≤ length c
  labels_room h p q = omega (arith, pairs_end q, wrote_length p, wrote_length q)

  pub file_put : {a b c d : List ℕ} {m e : ℕ} → 5 + 4 * count ≤ length a → count ≤ most_words
      → Wrote a 0 (byte_of (get_or s 0 0) ∷ byte_of (get_or s 1 0) ∷ byte_of (get_or s 2 0) ∷ byte_of count ∷ byte_of (count / 256) ∷ []) b 5
      → Wrote b 5 (flat_map (pair_of_code goals) (take count codes)) c m → Wrote c m (flat_map label_of_code (take count codes)) d e
      → d ≡ file_of_codes s goals codes count ++ drop (5 + 4 * count) a
  unfolding file_of_codes
  file_put {a} {b} {c} {d} {m} {e} h k p q r =
      let small : byte_of (count / 256) ≡ count / 256 = mod-eq_of_lt (omega arith) in
      let w : Wrote a 0 (file_of_codes s goals codes count) d e =
      subst (λ x. Wrote a 0
      (byte_of (get_or s 0 0) ∷ byte_of (get_or s 1 0) ∷ byte_of
      (get_or s 2 0) ∷ byte_of count ∷ x ∷ (flat_map (pair_of_code goals) (take count codes)
      ++ flat_map label_of_code (take count codes))) d e) small (wrote_then p (wrote_then q r)) in
      let f : length (file_of_codes s goals codes count) ≡ 5 + 4 * count = file_length in
      wrote_front w (omega arith) ∙ ap (λ n. file_of_codes s goals codes count ++ drop n a) f

-- a table file has five bytes for the sizes and four for each word
pub table_length : (q n S : ℕ) (words : List Word) → length (table_bytes q n S words) ≡ 5 + 4 * length words
unfolding table_bytes
table_length q n S words =
    let a = length-append (flat_map pair_bytes words) (flat_map label_bytes words) in
    let b = length_two pair_bytes words (λ w. refl) in
    let c = length_two label_bytes words (λ w. refl) in
    omega arith
