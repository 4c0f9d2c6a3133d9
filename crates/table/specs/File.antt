-- Document 01's checks 1 to 4 of a table file, in their order; check 1 is `length_bad`, which stands beside the layout.
-- `table_file` takes the bytes to a refusal or to q, n, S and the words. Everything here computes.
use Rattle.std.specs.Prelude.{Bool, false, cond, ◌||◌, not, List, [], ◌∷◌, ℕ, zero, suc, length, get_or, ltb}
use Rattle.trellis.specs.Bounds.{most_states, most_words}
use Rattle.trellis.specs.Lists.{first, lower}
use Rattle.trellis.specs.Label.{is_label}
use Rattle.trellis.specs.Word.{Word}
use Rattle.trellis.specs.Outcome.{Outcome, outcome, bad_length, bad_size, bad_word, not_above}
use Rattle.fields.specs.Fields.{byte_at, word_count, file_word, file_words, length_bad}

-- ---- the checks

-- x is below low or above high
unfoldable pub outside : ℕ → ℕ → ℕ → Bool
outside x low high = ltb x low || ltb high x

-- 2: q, n, S or W, at the places 0 to 3, is outside its bounds
unfoldable pub size_outside : List ℕ → ℕ → Bool
size_outside file place =
    outside (get_or (byte_at file 0 ∷ byte_at file 1 ∷ byte_at file 2 ∷ word_count file ∷ []) place 0)
    (get_or (2 ∷ 1 ∷ 1 ∷ 1 ∷ []) place 0)
    (get_or (4 ∷ 8 ∷ most_states ∷ most_words ∷ []) place 0)

-- a state is not below S, or the label is not one of n symbols below q
unfoldable pub word_outside : ℕ → ℕ → ℕ → Word → Bool
word_outside q n S w = not (ltb w.root S) || (not (ltb w.goal S) || not (is_label q n w.label))

-- 3: word i has a state not below S, a label not below 4^n, or a symbol not below q
unfoldable pub word_bad : List ℕ → ℕ → Bool
word_bad file i = word_outside (byte_at file 0) (byte_at file 1) (byte_at file 2) (file_word file i)

-- v comes before w in the order root, label, goal
abbrev pub is_before : Word → Word → Bool
is_before v w = lower v.root v.label v.goal w.root w.label w.goal

-- 4: word i is not above the word before it
unfoldable pub order_bad : List ℕ → ℕ → Bool
order_bad file zero = false
order_bad file (suc i) = not (is_before (file_word file i) (file_word file (suc i)))

-- the first place, the first word of check 3, the first word of check 4; 4, W and W where there is none
abbrev pub first_size : List ℕ → ℕ
first_size file = first (size_outside file) 4

abbrev pub first_bad : List ℕ → ℕ
first_bad file = first (word_bad file) (word_count file)

abbrev pub first_not_above : List ℕ → ℕ
first_not_above file = first (order_bad file) (word_count file)

-- ---- the whole file

pub data TableFile : Type 0 where
  refused : Outcome → TableFile
  -- q, n, S and the words
  accepted : ℕ → ℕ → ℕ → List Word → TableFile

unfoldable pub table_file : List ℕ → TableFile
table_file file =
    cond (length_bad file) (refused (bad_length (length file)))
    (cond (ltb (first_size file) 4) (refused (bad_size (first_size file)))
    (cond (ltb (first_bad file) (word_count file)) (refused (bad_word (first_bad file)))
    (cond (ltb (first_not_above file) (word_count file)) (refused (not_above (first_not_above file)))
    (accepted (byte_at file 0) (byte_at file 1) (byte_at file 2) (file_words file)))))

-- document 01's number and values: a file that is not refused has number 0, with q, n, S and W
abbrev pub file_outcome : TableFile → Outcome
file_outcome (refused o) = o
file_outcome (accepted q n S words) = outcome 0 (q ∷ n ∷ S ∷ length words ∷ [])
