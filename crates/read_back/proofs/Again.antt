-- Reading back what merging wrote gives the very file that was merged, byte for byte: our section of an accepted rectangular table is
-- usable, its words are the table's words, and the bytes of those words are the file. Each byte of the file stands at the place where the
-- file's layout says.
use mathlib.Core.Path.{◌≡◌, refl, sym, ap, ap₂, ◌∙◌}
use mathlib.Core.Bool.{true, cond}
use mathlib.Core.List.{List, [], ◌∷◌, ◌++◌, flat_map}
use Prim.Native.Nat.{ℕ, zero, suc, ◌+◌, ◌*◌, ◌/◌, ◌%◌, ◌<◌}
use native.Mathlib.Omega.{arith}
use lib.ListN.{length, get_or}
use lib.Dec.{ltb}
use borrow.Author.Tests.{le-ltb, eq-eqb}
use Rattle.trellis.specs.Bounds.{most_words}
use Rattle.trellis.specs.Lists.{run, over}
use Rattle.trellis.specs.Word.{Word, Rectangular}
use Rattle.trellis.specs.Outcome.{success, short_buffer}
use Rattle.trellis.specs.Layout.{section_length, section_of}
use Rattle.trellis.proofs.Lists.{run_whole, run_append}
use Rattle.trellis.proofs.OwnLaid.{own_q, own_n, own_states, own_length}
use Rattle.packed.proofs.Packing.{label_packed}
use Rattle.fields.specs.Fields.{byte_at, two_bytes, word_count, file_word, file_words}
use Rattle.table.specs.File.{accepted, table_file}
use Rattle.table.specs.Inner.Good.{GoodFile}
use Rattle.table.proofs.Accepted.{accepted_good}
use Rattle.section_file.proofs.Own.{Fitting, own_usable}
use Rattle.section_file.proofs.OwnWords.{own_section_words}
use Rattle.section_file.specs.Usable.{is_section}
use Rattle.word_file.specs.TableBytes.{bytes_of, pair_bytes, label_bytes, table_bytes}
use Rattle.read_back.specs.ReadingBack.{left, reading_back}

-- ---- the file from its bytes

two_more : {A : Type 0} (f : ℕ → A) (a c : ℕ) → run f a (2 * suc c) ≡ f a ∷ f (a + 1) ∷ run f (a + 2) (2 * c)
unfolding run
two_more f a c =
    let e : 2 * suc c ≡ suc (suc (2 * c)) = omega arith in
    let p : suc a ≡ a + 1 = omega arith in
    let q : suc (suc a) ≡ a + 2 = omega arith in
    ap (run f a) e ∙ ap₂ (λ i j. f a ∷ f i ∷ run f j (2 * c)) p q

module _ (file : List ℕ) (bytes : (i : ℕ) → get_or file i 0 < 256) where
  abbrev at : ℕ → ℕ
  at i = byte_at file i

  pairs_are : (i c : ℕ) → flat_map pair_bytes (run (file_word file) i c) ≡ run (λ i. byte_at file i) (5 + 2 * i) (2 * c)
  unfolding run flat_map file_word
  pairs_are i zero = refl
  pairs_are i (suc c) =
      let e : 5 + 2 * suc i ≡ 5 + 2 * i + 2 = omega arith in
      ap (λ l. at (5 + 2 * i) ∷ at (5 + 2 * i + 1) ∷ l) (pairs_are (suc i) c ∙ ap (λ k. run (λ i. byte_at file i) k (2 * c)) e)
      ∙ sym (two_more (λ i. byte_at file i) (5 + 2 * i) c)

  labels_are : (i c : ℕ) → flat_map label_bytes (run (file_word file) i c) ≡ run (λ i. byte_at file i) (5 + 2 * word_count file + 2 * i) (2 * c)
  unfolding run flat_map file_word
  labels_are i zero = refl
  labels_are i (suc c) =
      let k = 5 + 2 * word_count file + 2 * i in
      let e : 5 + 2 * word_count file + 2 * suc i ≡ 5 + 2 * word_count file + 2 * i + 2 = omega arith in
      let low : two_bytes (at (5 + 2 * word_count file + 2 * i)) (at (5 + 2 * word_count file + 2 * i + 1)) % 256 ≡ at
      (5 + 2 * word_count file + 2 * i) = omega (arith, bytes (5 + 2 * word_count file + 2 * i)) in
      let high : two_bytes (at (5 + 2 * word_count file + 2 * i)) (at (5 + 2 * word_count file + 2 * i + 1)) / 256 ≡ at
      (5 + 2 * word_count file + 2 * i + 1) = omega (arith, bytes (5 + 2 * word_count file + 2 * i)) in
      ap₂ (λ a b. a ∷ b ∷ flat_map label_bytes (run (file_word file) (suc i) c)) low high
      ∙ ap (λ l. at (5 + 2 * word_count file + 2 * i) ∷ at (5 + 2 * word_count file + 2 * i + 1) ∷ l)
      (labels_are (suc i) c ∙ ap (λ k. run (λ i. byte_at file i) k (2 * c)) e)
      ∙ sym (two_more (λ i. byte_at file i) (5 + 2 * word_count file + 2 * i) c)

  module _ {q n S : ℕ} {words : List Word} (G : GoodFile file q n S words) where
    count_bytes : bytes_of (length words) ≡ at 3 ∷ at 4 ∷ []
    unfolding word_count
    count_bytes =
        let low : length words % 256 ≡ at 3 = omega (arith, G.count_is, bytes 3) in
        let high : length words / 256 ≡ at 4 = omega (arith, G.count_is, bytes 3) in
        ap₂ (λ a b. a ∷ b ∷ []) low high

    behind : flat_map pair_bytes words ++ flat_map label_bytes words ≡ run (λ i. byte_at file i) 5 (4 * length words)
    unfolding file_words
    behind =
        let w = G.count_is in
        let p : flat_map pair_bytes words ≡ run (λ i. byte_at file i) 5 (2 * length words) = ap (flat_map pair_bytes) G.words_are
        ∙ pairs_are 0 (word_count file) ∙ ap (λ k. run (λ i. byte_at file i) 5 (2 * k)) (sym w) in
        let e : 5 + 2 * word_count file + 2 * 0 ≡ 5 + 2 * length words = omega arith in
        let r : flat_map label_bytes words ≡ run (λ i. byte_at file i) (5 + 2 * length words) (2 * length words) =
        ap (flat_map label_bytes) G.words_are ∙ labels_are 0 (word_count file) ∙ ap₂ (λ k m. run (λ i. byte_at file i) k (2 * m)) e (sym w) in
        let d : 2 * length words + 2 * length words ≡ 4 * length words = omega arith in
        ap₂ (λ x y. x ++ y) p r ∙ run_append (λ i. byte_at file i) 5 (2 * length words) (2 * length words)
        ∙ ap (run (λ i. byte_at file i) 5) d

    pub bytes_again : table_bytes q n S words ≡ file
    unfolding table_bytes run
    bytes_again =
        let e : length file ≡ suc (suc (suc (suc (suc (4 * length words))))) = omega (arith, G.length_is) in
        ap₂ (λ c r. q ∷ n ∷ S ∷ (c ++ r)) count_bytes behind
        ∙ ap (λ x. x ∷ n ∷ S ∷ at 3 ∷ at 4 ∷ run (λ i. byte_at file i) 5 (4 * length words)) G.q_is
        ∙ ap₂ (λ y z. at 0 ∷ y ∷ z ∷ at 3 ∷ at 4 ∷ run (λ i. byte_at file i) 5 (4 * length words)) G.n_is G.states_is
        ∙ ap (run (λ i. byte_at file i) 0) (sym e) ∙ run_whole file

-- ---- an accepted table fits

pub good_fits : {file : List ℕ} {q n S : ℕ} {words : List Word} → GoodFile file q n S words → Rectangular n words → Fitting q n S words
good_fits {file} {q} {n} {S} {words} G R = record {
  q_from = G.q_from;
  q_to = G.q_to;
  n_to = G.n_to;
  states_from = G.states_from;
  states_to = G.states_to;
  some = G.count_from;
  few = G.count_to;
  roots_below = G.roots_below;
  goals_below = G.goals_below;
  symbols_below = λ w m t h. ((label_packed q n w.label).0 (G.are_labels w m)).below t h;
  table = G.table;
  rectangular = R;
}

-- ---- merged and read back

module _ (q n S : ℕ) (words : List Word) (A : Fitting q n S words) where
  pub own_is_section : is_section (section_of q n S words) ≡ true
  unfolding is_section
  own_is_section =
      let u = own_usable q n S words A in
      let e = eq-eqb (section_length (section_of q n S words)) (length (section_of q n S words)) (own_length q n S words) in
      rw (u, e)

  -- what reading our section back leaves in a buffer
  pub own_read_back : (buffer : List ℕ)
      → reading_back (section_of q n S words) buffer
      ≡ cond (ltb (length buffer) (5 + 4 * length words)) (left (short_buffer (5 + 4 * length words)) buffer)
      (left (success (5 + 4 * length words)) (over (table_bytes q n S words) buffer))
  unfolding reading_back
  own_read_back buffer =
      let e = own_is_section in
      let w = own_section_words q n S words A in
      let d = le-ltb most_words (length words) A.few in
      let x = own_q q n S words in
      let y = own_n q n S words in
      let z = own_states q n S words in
      rw (e, w, d, x, y, z)

-- of a file that is accepted as a rectangular table
pub read_back_again : (file : List ℕ) → ((i : ℕ) → get_or file i 0 < 256) → {q n S : ℕ} {words : List Word}
    → table_file file ≡ accepted q n S words → Rectangular n words → (buffer : List ℕ)
    → reading_back (section_of q n S words) buffer
    ≡ cond (ltb (length buffer) (length file)) (left (short_buffer (length file)) buffer) (left (success (length file)) (over file buffer))
read_back_again file bytes {q} {n} {S} {words} a R buffer =
    let G = accepted_good file a in
    let l = G.length_is in
    let b = bytes_again file bytes G in
    own_read_back q n S words (good_fits G R) buffer
    ∙ ap₂ (λ k f. cond (ltb (length buffer) k) (left (short_buffer k) buffer) (left (success k) (over f buffer))) (sym l) b
