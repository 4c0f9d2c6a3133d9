-- Words as numbers of three fields, written as bytes.
use mathlib.Core.List.{List, [], ◌∷◌, ◌++◌, flat_map}
use Rattle.std.specs.Prelude.{ℕ, ◌%◌, get_or, take}
use Rattle.codes.specs.Inner.Codes.{code_root, code_vertex, code_label}
use Rattle.word_file.specs.TableBytes.{bytes_of}

abbrev pub byte_of : ℕ → ℕ
byte_of x = x % 256

-- the root and the goal of a word that is found whole, from the states of the vertices of depth n
abbrev pub pair_of_code : List ℕ → ℕ → List ℕ
pair_of_code goals c = byte_of (code_root c) ∷ byte_of (get_or goals (code_vertex c) 0) ∷ []

abbrev pub label_of_code : ℕ → List ℕ
label_of_code c = bytes_of (code_label c)

-- the first count codes as a table file
unfoldable pub file_of_codes : List ℕ → List ℕ → List ℕ → ℕ → List ℕ
file_of_codes s goals codes count =
    byte_of (get_or s 0 0) ∷ byte_of (get_or s 1 0) ∷ byte_of (get_or s 2 0) ∷ (bytes_of count
    ++ (flat_map (pair_of_code goals) (take count codes) ++ flat_map label_of_code (take count codes)))
