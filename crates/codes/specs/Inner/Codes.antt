-- Beginnings as one number: six bits for the root, ten for the vertex, sixteen for the label.
use Rattle.std.specs.Prelude.{List, map, ℕ, ◌+◌, ◌*◌, ◌/◌, ◌%◌}
use Rattle.trellis.specs.Own.{Edge}
use Rattle.trellis.specs.Section.{leaving}
use Rattle.packed.specs.Inner.Packed.{appended}

abbrev pub code : ℕ → ℕ → ℕ → ℕ
code r v x = (r * 1024 + v) * 65536 + x

abbrev pub code_root : ℕ → ℕ
code_root c = c / 67108864

abbrev pub code_vertex : ℕ → ℕ
code_vertex c = c / 65536 % 1024

abbrev pub code_label : ℕ → ℕ
code_label c = c % 65536

abbrev pub further_code : ℕ → Edge → ℕ
further_code c e = code (code_root c) e.to (appended (code_label c) e.symbol)

abbrev pub grown_codes : List Edge → ℕ → List ℕ
grown_codes es c = map (further_code c) (leaving (code_vertex c) es)
