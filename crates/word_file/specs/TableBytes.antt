-- The bytes of document 01's table file, written from its sizes and words: q, n, S, W low byte first, W pairs (root, goal), W labels low
-- byte first.
use mathlib.Core.List.{List, [], ◌∷◌, ◌++◌, flat_map}
use Rattle.std.specs.Prelude.{ℕ, ◌/◌, ◌%◌, length}
use Rattle.trellis.specs.Word.{Word}

-- a number in two bytes, low byte first
abbrev pub bytes_of : ℕ → List ℕ
bytes_of x = x % 256 ∷ x / 256 ∷ []

abbrev pub pair_bytes : Word → List ℕ
pair_bytes w = w.root ∷ w.goal ∷ []

abbrev pub label_bytes : Word → List ℕ
label_bytes w = bytes_of w.label

unfoldable pub table_bytes : ℕ → ℕ → ℕ → List Word → List ℕ
table_bytes q n S words = q ∷ n ∷ S ∷ (bytes_of (length words) ++ (flat_map pair_bytes words ++ flat_map label_bytes words))
