-- The table file of document 01 as a list of bytes: what stands at which place, its words, and the length that its word count asks for.
-- Everything here computes.
use Rattle.std.specs.Prelude.{Bool, ◌||◌, not, List, ℕ, ◌+◌, ◌*◌, length, get_or, ltb, eqb}
use Rattle.trellis.specs.Lists.{each}
use Rattle.trellis.specs.Word.{Word, word}

-- The layout: q, n, S, W in two bytes, W pairs (root, goal), W labels of two bytes.

-- byte i of the file, counted from 0, and 0 past its end
abbrev pub byte_at : List ℕ → ℕ → ℕ
byte_at file i = get_or file i 0

-- the number in two bytes, low byte first
abbrev pub two_bytes : ℕ → ℕ → ℕ
two_bytes low high = low + 256 * high

-- W as the file states it
unfoldable pub word_count : List ℕ → ℕ
word_count file = two_bytes (byte_at file 3) (byte_at file 4)

-- word i: its pair stands 2i behind the sizes, its label 2i behind the W pairs
unfoldable pub file_word : List ℕ → ℕ → Word
file_word file i =
    let pair = 5 + 2 * i in
    let label = 5 + 2 * word_count file + 2 * i in
    word (byte_at file pair) (two_bytes (byte_at file label) (byte_at file (label + 1))) (byte_at file (pair + 1))

unfoldable pub file_words : List ℕ → List Word
file_words file = each (file_word file) (word_count file)

-- under 5 bytes, or not 5 + 4W: check 1
unfoldable pub length_bad : List ℕ → Bool
length_bad file = ltb (length file) 5 || not (eqb (length file) (5 + 4 * word_count file))
