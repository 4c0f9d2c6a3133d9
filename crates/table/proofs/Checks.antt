-- The checks as the code makes them: each law takes what the calls on the way ensure, over plain variables, and gives the definition that
-- is promised. Check 2 looks at four sizes, each with its bounds; check 3 goes word by word; check 4 goes word by word with the word
-- before in hand; `check` tries them one after the other.
use mathlib.Core.Path.{◌≡◌, refl, sym, ◌∙◌}
use mathlib.Core.Bool.{Bool, true, false, cond, not}
use mathlib.Core.List.{List, [], ◌∷◌}
use Prim.Native.Nat.{ℕ, zero, suc, ◌+◌, ◌-◌, ◌≤◌, ◌<◌}
use native.Mathlib.Omega.{arith}
use lib.ListN.{length}
use borrow.Author.Tests.{lt-ltb, le-ltb}
use Rattle.std.specs.Prelude.{Some, None}
use Rattle.std.specs.List.{position_or_len}
use Rattle.trellis.specs.Lists.{first, found_below}
use Rattle.trellis.specs.Bounds.{most_states, most_words, least_q, most_q}
use Rattle.trellis.proofs.Lists.{length_run}
use Rattle.fields.specs.Fields.{byte_at, word_count, file_word, file_words, length_bad}
use Rattle.fields.specs.Inner.Answer.{held_word, meant_word}
use Rattle.fields.specs.declared.Word.{Word}
use Rattle.table.specs.File.{outside, size_outside, word_outside, word_bad, is_before, order_bad, first_size, first_bad, first_not_above}
use Rattle.table.specs.File.{table_file, file_outcome}
use Rattle.table.specs.Inner.Answer.{checked_outcome}
use Rattle.answers.specs.declared.merge.MergeRefusal.TheVariants.{Length, Size, Word as BadWord, Order}
use Rattle.std.specs.Prelude.{Ok, Err}
use Rattle.table.proofs.Search.{Clear, clear_start, clear_next, clear_found, clear_all}

-- ---- check 2

module _ (file : List ℕ) where
  pub q_outside : {b : Bool} → b ≡ outside (byte_at file 0) least_q most_q → b ≡ size_outside file 0
  unfolding size_outside
  q_outside e = e

  pub n_outside : {b : Bool} → b ≡ outside (byte_at file 1) 1 8 → b ≡ size_outside file 1
  unfolding size_outside
  n_outside e = e

  pub states_outside : {b : Bool} → b ≡ outside (byte_at file 2) 1 most_states → b ≡ size_outside file 2
  unfolding size_outside
  states_outside e = e

  pub count_outside : {w : ℕ} {b : Bool} → w ≡ word_count file → b ≡ outside w 1 most_words → b ≡ size_outside file 3
  unfolding size_outside
  count_outside a e = e ∙ simp a

-- the first of the four tests that is true
first_of : (a b c d : Bool) → position_or_len (λ t. t) (a ∷ b ∷ c ∷ d ∷ []) ≡ cond a 0 (suc (cond b 0 (suc (cond c 0 (suc (cond d 0 1))))))
first_of true b c d = refl
first_of false true c d = refl
first_of false false true d = refl
first_of false false false true = refl
first_of false false false false = refl

pub sizes_first : (file : List ℕ) {a b c d : Bool} → a ≡ size_outside file 0 → b ≡ size_outside file 1 → c ≡ size_outside file 2
    → d ≡ size_outside file 3 → position_or_len (λ t. t) (a ∷ b ∷ c ∷ d ∷ []) ≡ first_size file
unfolding first
sizes_first file {a} {b} {c} {d} p q r s = first_of a b c d ∙ rw (p, q, r, s) refl

-- ---- check 3

pub word_bad_is : (file : List ℕ) (i : ℕ) {q n S : ℕ} {w : Word} {b : Bool} → q ≡ byte_at file 0 → n ≡ byte_at file 1 → S ≡ byte_at file 2
    → w ≡ held_word (file_word file i) → b ≡ word_outside q n S (meant_word w) → b ≡ word_bad file i
unfolding word_bad
word_bad_is file i d e f g h = h ∙ simp (d, e, f, g)

-- ---- check 4

-- no word up to i is bad, and w is the word before i
pub record Ascending (file : List ℕ) (w : Word) (i : ℕ) : Type 0 where
  pub clear : Clear (order_bad file) i
  pub some : 0 < i
  pub last : w ≡ held_word (file_word file (i - 1))

order_bad_is : (file : List ℕ) (i : ℕ) {v w : Word} {b : Bool} → 0 < i → v ≡ held_word (file_word file (i - 1))
    → w ≡ held_word (file_word file i)
    → b ≡ is_before (meant_word v) (meant_word w) → not b ≡ order_bad file i
unfolding order_bad
order_bad_is file zero h d e f = absurd (omega arith)
order_bad_is file (suc i) h d e f = let q : suc i - 1 ≡ i = omega arith in simp (f, d, e, q)

module _ {file : List ℕ} where
  pub ascending_start : {w : Word} → w ≡ held_word (file_word file 0) → Ascending file w 1
  unfolding order_bad
  ascending_start e = record { clear = clear_next (clear_start (order_bad file)) refl; some = omega arith; last = e }

  pub ascending_next : {v w : Word} {i : ℕ} {b : Bool} → Ascending file v i → w ≡ held_word (file_word file i)
      → b ≡ is_before (meant_word v) (meant_word w) → not b ≡ false → Ascending file w (i + 1)
  ascending_next {v} {w} {i} r e f t = record {
    clear = clear_next r.clear (sym (order_bad_is file i r.some r.last e f) ∙ t);
    some = omega arith;
    last = let q : i + 1 - 1 ≡ i = omega arith in rw q e;
  }

  pub ascending_found : {v w : Word} {i : ℕ} {b : Bool} → Ascending file v i → i < word_count file → w ≡ held_word (file_word file i)
      → b ≡ is_before (meant_word v) (meant_word w) → not b ≡ true → Some i ≡ found_below (word_count file) (first_not_above file)
  ascending_found {v} {w} {i} r h e f t = clear_found r.clear h (sym (order_bad_is file i r.some r.last e f) ∙ t)

  pub ascending_all : {v : Word} {i : ℕ} → Ascending file v i → word_count file ≤ i → None ≡ found_below (word_count file) (first_not_above file)
  ascending_all r h = clear_all r.clear h

-- ---- the ways out of `check`

pub words_length : (file : List ℕ) → length (file_words file) ≡ word_count file
unfolding file_words
words_length file = length_run (file_word file) 0 (word_count file)

-- checks 1 and 2 find nothing
pub record SizesRight (file : List ℕ) : Type 0 where
  pub length_right : length_bad file ≡ false
  pub inside : 4 ≤ first_size file

-- nor does check 3
pub record WordsRight (file : List ℕ) : Type 0 where
  pub sizes : SizesRight file
  pub right : word_count file ≤ first_bad file

module _ (file : List ℕ) where
  pub out_length : {b : Bool} → b ≡ length_bad file → b ≡ true → checked_outcome (Err (Length (length file))) ≡ file_outcome (table_file file)
  unfolding table_file
  out_length a t = simp (sym a, t)

  pub out_size : {p : ℕ} → length_bad file ≡ false → p ≡ first_size file → p < 4 → checked_outcome (Err (Size p)) ≡ file_outcome (table_file file)
  unfolding table_file
  out_size a d h = simp (a, sym d, lt-ltb _ _ h)

  pub out_word : {w x : ℕ} → SizesRight file → w ≡ word_count file → x ≡ first_bad file → x < w
      → checked_outcome (Err (BadWord x)) ≡ file_outcome (table_file file)
  unfolding table_file
  out_word {w} {x} s e f k =
      let l : x < word_count file = omega arith in
      simp (s.length_right, le-ltb _ _ s.inside, sym f, lt-ltb _ _ l)

  module _ (s : WordsRight file) {w y : ℕ} (e : w ≡ word_count file) (f : y ≡ first_not_above file) where
    pub out_order : y < w → checked_outcome (Err (Order y)) ≡ file_outcome (table_file file)
    unfolding table_file
    out_order k =
        let l : y < word_count file = omega arith in
        simp (s.sizes.length_right, le-ltb _ _ s.sizes.inside, le-ltb _ _ s.right, sym f, lt-ltb _ _ l)

    pub out_table : {q n S : ℕ} → w ≤ y → q ≡ byte_at file 0 → n ≡ byte_at file 1 → S ≡ byte_at file 2
        → checked_outcome (Ok (record { q = q; n = n; states = S; words = w })) ≡ file_outcome (table_file file)
    unfolding table_file
    out_table k a b d =
        let l : word_count file ≤ y = omega arith in
        let no = le-ltb _ _ l in
        simp (s.sizes.length_right, le-ltb _ _ s.sizes.inside, le-ltb _ _ s.right, sym f, no, a, b, d, e, words_length file)
